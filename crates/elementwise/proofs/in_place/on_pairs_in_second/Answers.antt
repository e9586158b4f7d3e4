use Rattle.elementwise.proofs.Cited.{◌∙◌, Ok, ap, arith, sym, if_as_long-fits}
use Rattle.elementwise.proofs.InPlace.{flipped}
use Rattle.elementwise.proofs.in_place.on_pairs_in_second.Goals as goal

pub returns : goal.returns
returns g c =
    let a = c.args.a.now in let b = c.args.b.now in
    if_as_long-fits a b _ (omega (arith, c.in_ok-check_agree.ensures)) ∙ ap Ok (sym (c.write_pairs.ensures ∙ flipped g.O.Binary.value a b))
