use Rattle.std.proofs.Common.{◌∙◌, ap, arith, w32}
use Rattle.std.proofs.lemmas.Int.{to_z_pos}
use Rattle.segment_values.specs.Values.{place_or_none}
use Rattle.segment_values.proofs.first_trues.first_that.Goals as goal

pub returns-in-Some : goal.returns-in-Some
returns-in-Some g c =
    to_z_pos w32 c.in-Some.place (omega (arith, c.in-Some.ensures.within, c.requires)) ∙ ap place_or_none c.in-Some.ensures.value

pub returns-in-None : goal.returns-in-None
returns-in-None g c = ap place_or_none c.in-None.ensures.value
