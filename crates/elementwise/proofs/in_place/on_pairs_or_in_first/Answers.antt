use Rattle.elementwise.proofs.Cited.{subst, sym, Overwrites}
use Rattle.elementwise.proofs.in_place.on_pairs_or_in_first.Goals as goal

pub returns : goal.returns
returns g c =
    let call = c.on_pairs_in_first in subst (λ meaning. Overwrites meaning call.result c.args.a.now call.new.a) (sym c.in_ok-check_values.ensures) call.ensures
