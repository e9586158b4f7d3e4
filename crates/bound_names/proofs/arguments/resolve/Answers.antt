use Rattle.std.proofs.Common.{refl, sym}
use Rattle.bound_names.proofs.Resolved.{first_fault, kinds, told, values}
use Rattle.bound_names.proofs.arguments.resolve.Goals as goal

pub returns-in_err-first-clause-fault : goal.returns-in_err-first-clause-fault
returns-in_err-first-clause-fault g c =
    told _ _ c.from_residual.result c.in_err-first.field-0.0 c.from_residual.ensures.1
    (first_fault c.args.names.now.entries c.args.op c.args.args.now (sym c.if-not-takes.ensures) c.in_err-first.ensures.fault refl refl refl refl)

pub returns-in_err-second-clause-fault : goal.returns-in_err-second-clause-fault
returns-in_err-second-clause-fault g c =
    told _ _ c.from_residual-in_err-second.result c.in_err-second.field-0.0 c.from_residual-in_err-second.ensures.1
    (first_fault c.args.names.now.entries c.args.op c.args.args.now (sym c.if-not-takes.ensures) c.in_ok-first.ensures.fault c.in_err-second.ensures.fault refl refl refl)

pub returns-in_err-third-clause-fault : goal.returns-in_err-third-clause-fault
returns-in_err-third-clause-fault g c =
    told _ _ c.from_residual-in_err-third.result c.in_err-third.field-0.0 c.from_residual-in_err-third.ensures.1
    (first_fault c.args.names.now.entries c.args.op c.args.args.now (sym c.if-not-takes.ensures) c.in_ok-first.ensures.fault c.in_ok-second.ensures.fault c.in_err-third.ensures.fault refl refl)

pub returns-in_err-fourth-clause-fault : goal.returns-in_err-fourth-clause-fault
returns-in_err-fourth-clause-fault g c =
    told _ _ c.from_residual-in_err-fourth.result c.in_err-fourth.field-0.0 c.from_residual-in_err-fourth.ensures.1
    (first_fault c.args.names.now.entries c.args.op c.args.args.now (sym c.if-not-takes.ensures) c.in_ok-first.ensures.fault c.in_ok-second.ensures.fault c.in_ok-third.ensures.fault
    c.in_err-fourth.ensures.fault refl)

pub returns-in_err-fifth-clause-fault : goal.returns-in_err-fifth-clause-fault
returns-in_err-fifth-clause-fault g c =
    told _ _ c.from_residual-in_err-fifth.result c.in_err-fifth.field-0.0 c.from_residual-in_err-fifth.ensures.1
    (first_fault c.args.names.now.entries c.args.op c.args.args.now (sym c.if-not-takes.ensures) c.in_ok-first.ensures.fault c.in_ok-second.ensures.fault c.in_ok-third.ensures.fault
    c.in_ok-fourth.ensures.fault c.in_err-fifth.ensures.fault)

pub returns-clause-fault : goal.returns-clause-fault
returns-clause-fault g c =
    first_fault c.args.names.now.entries c.args.op c.args.args.now (sym c.if-not-takes.ensures) c.in_ok-first.ensures.fault c.in_ok-second.ensures.fault c.in_ok-third.ensures.fault
    c.in_ok-fourth.ensures.fault c.in_ok-fifth.ensures.fault

pub returns-clause-values : goal.returns-clause-values
returns-clause-values g c =
    values c.args.names.now.entries c.args.op c.args.args.now _ (sym c.if-not-takes.ensures) c.in_ok-first.ensures.value c.in_ok-second.ensures.value c.in_ok-third.ensures.value
    c.in_ok-fourth.ensures.value c.in_ok-fifth.ensures.value

pub returns-clause-kinds : goal.returns-clause-kinds
returns-clause-kinds g c =
    kinds c.args.names.now.entries c.args.op c.args.args.now _ (sym c.if-not-takes.ensures) c.in_ok-first.ensures.value c.in_ok-second.ensures.value c.in_ok-third.ensures.value
    c.in_ok-fourth.ensures.value c.in_ok-fifth.ensures.value
    c.in_ok-first.ensures.fault c.in_ok-second.ensures.fault c.in_ok-third.ensures.fault c.in_ok-fourth.ensures.fault c.in_ok-fifth.ensures.fault
