use Rattle.std.proofs.Common.{rules, ◌≡◌, true, None}
use Rattle.cvl_base.specs.declared.value.Value.{Value}
use Rattle.bound_names.specs.Arguments.{args_fault, argument_at}
use Rattle.bound_names.specs.Names.{has_room}
use Rattle.bound_names.specs.Operands.{held_at}
use Rattle.vector_handles.proofs.ReadInputs.{refused_gives}
use Rattle.vector_handles.proofs.Texts.{told_value}
use Rattle.vector_handles.proofs.session.Session.value_for.Goals as goal

pub returns-clause-value : goal.returns-clause-value
returns-clause-value g c =
    let session = c.args.self.now in
    let args = c.args.args.now in
    let right : args_fault session.names c.args.op args ≡ None = search rules in
    let room : has_room session.names c.args.target.now ≡ true = search rules in
    let values : held_at c.in_ok-operands.operands ≡ argument_at session.names args = search rules in
    let same : c.as_slice-inputs.result.now ≡ session.inputs = search rules in
    told_value session.names session.inputs _ c.args.op args c.args.target.now _ c.value.result right room values same c.value.ensures

pub returns-in_err-read_asked_for-clause-value : goal.returns-in_err-read_asked_for-clause-value
returns-in_err-read_asked_for-clause-value g c =
    let session = c.args.self.now in
    let args = c.args.args.now in
    let right : args_fault session.names c.args.op args ≡ None = search rules in
    let room : has_room session.names c.args.target.now ≡ true = search rules in
    let values : held_at c.in_ok-operands.operands ≡ argument_at session.names args = search rules in
    let same : c.self.inside.inputs.items ≡ session.inputs = search rules in
    told_value session.names session.inputs _ c.args.op args c.args.target.now _ c.from_residual-in_err-read_asked_for.result right room values same
    (refused_gives {X = Value g.row.A.Denot} c.from_residual-in_err-read_asked_for.result c.in_err-read_asked_for.field-0.0 _ c.from_residual-in_err-read_asked_for.ensures.1
    c.in_err-read_asked_for.ensures.fault)
