use Rattle.elementwise.proofs.Cited.{subst, sym, Overwrites}
use Rattle.elementwise.proofs.in_place.on_pairs_or_in_second.Goals as goal

pub returns : goal.returns
returns g c =
    let call = c.on_pairs_in_second in subst (λ meaning. Overwrites meaning call.result c.args.b.now call.new.b) (sym c.in_ok-check_values.ensures) call.ensures
