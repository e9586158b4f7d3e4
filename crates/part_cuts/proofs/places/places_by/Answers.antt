use Rattle.std.proofs.Common.{◌∙◌, ◌+◌, Err, ap, length, refl, sym}
use Rattle.std.proofs.lemmas.Bool.{eqb-false}
use Rattle.cvl_base.specs.Rooms.{in_room}
use Rattle.part_cuts.proofs.Told.{crowded, inexact}
use Rattle.part_cuts.proofs.places.places_by.Goals as goal
use Rattle.part_cuts.proofs.places.places_by.Goals.{then-not-is_one_more-via-then-not-is_one_more, then-not-is_one_more-via-else-not-is_one_more+then-not-add_up_to}

pub returns-then-not-is_one_more : goal.returns-then-not-is_one_more
returns-then-not-is_one_more g c =
    let is_length = g.T.Told.is_length in let length_of = g.T.Told.length_of in
    let told = c.args.told.now in let room = length c.args.places.now in
    let refused = ap Err (sym c.new.ensures) in
    elim c.then-not-is_one_more.branch [
      | then-not-is_one_more-via-then-not-is_one_more w ↦
          (crowded is_length length_of told c.args.len room (eqb-false room (length told + 1) (sym c.is_one_more.ensures ∙ w.if-not-is_one_more.true)) ∙ refused, refl)
      | then-not-is_one_more-via-else-not-is_one_more+then-not-add_up_to w ↦
          (ap (in_room room) (inexact is_length length_of told c.args.len (sym w.add_up_to.ensures ∙ w.if-not-add_up_to.true)) ∙ refused, refl)
    ]
