use Rattle.std.proofs.Common.{◌∙◌, ap, sym}
use Rattle.std.specs.Prelude.{option_copied}
use Rattle.bound_names.specs.Operands.{held_at}
use Rattle.vector_handles.specs.CallValues.{nest_of}
use Rattle.vector_handles.proofs.NestedInputs.{pair_is}
use Rattle.vector_handles.proofs.asked.Asked.nested.Goals as goal

pub returns-in-Some : goal.returns-in-Some
returns-in-Some g c =
    let found = sym (ap option_copied c.in-Some.is) ∙ c.input_asked_for.ensures in
    pair_is c.args.self.now.inputs.now c.in-Some.input.now (held_at c.args.self.now.operands) _ found (c.bound_nest.ensures (nest_of c.in-Some.input.now) c.nest_of.ensures.meaning)
