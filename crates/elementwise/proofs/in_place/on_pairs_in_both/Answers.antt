use Rattle.elementwise.proofs.Cited.{◌∙◌, Ok, ap, refl, sym, if_as_long-fits}
use Rattle.elementwise.proofs.InPlace.{twice}
use Rattle.elementwise.proofs.in_place.on_pairs_in_both.Goals as goal

pub returns : goal.returns
returns g c = let a = c.args.a.now in if_as_long-fits a a _ refl ∙ ap Ok (sym (c.on_each_in.ensures ∙ twice g.O.Binary.value a))
