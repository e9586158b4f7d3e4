use Rattle.elementwise.proofs.Cited.{ap, length, subst, sym, Overwrites, in_room, told}
use Rattle.elementwise.proofs.elements_over.on_pairs_or_over.Goals as goal

pub returns-in_err-check_values : goal.returns-in_err-check_values
returns-in_err-check_values g c =
    told _ c.from_residual.result c.in_err-check_values.field-0.0 c.args.out.now c.from_residual.ensures.1
    (ap (in_room (length c.args.out.now)) c.in_err-check_values.ensures)

pub returns : goal.returns
returns g c =
    let call = c.on_pairs_over in
    subst (λ meaning. Overwrites (in_room (length c.args.out.now) meaning) call.result c.args.out.now call.new.out) (sym c.in_ok-check_values.ensures) call.ensures
