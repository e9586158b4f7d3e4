use Rattle.std.proofs.Common.{◌∙◌, Err, ap, length, refl, sym}
use Rattle.cvl_base.specs.Rooms.{in_room}
use Rattle.part_cuts.proofs.Paired.{crowded, misfits, unpaired}
use Rattle.part_cuts.proofs.pairs.paired_places.Goals as goal
use Rattle.part_cuts.proofs.pairs.paired_places.Goals.{then-firsts-seconds-via-then-firsts-seconds, then-firsts-seconds-via-else-firsts-seconds+then-seconds-places}
use Rattle.part_cuts.proofs.pairs.paired_places.Goals.{then-firsts-seconds-via-else-firsts-seconds+else-seconds-places+then-not-are_places}

pub returns-then-firsts-seconds : goal.returns-then-firsts-seconds
returns-then-firsts-seconds g c =
    let has = g.P.Paired.has_place in let place = g.P.Paired.place in
    let xs = c.args.firsts.now in let ys = c.args.seconds.now in let room = length c.args.places.now in
    let refused = ap Err (sym c.new.ensures) in
    elim c.then-firsts-seconds.branch [
      | then-firsts-seconds-via-then-firsts-seconds w ↦ (misfits has place xs ys c.args.len room w.if-firsts-seconds.true ∙ refused, refl)
      | then-firsts-seconds-via-else-firsts-seconds+then-seconds-places w ↦
          (crowded has place xs ys c.args.len room w.if-firsts-seconds.false w.if-seconds-places.true ∙ refused, refl)
      | then-firsts-seconds-via-else-firsts-seconds+else-seconds-places+then-not-are_places w ↦
          (ap (in_room room) (unpaired has place xs ys c.args.len w.if-firsts-seconds.false (sym w.are_places.ensures ∙ w.if-not-are_places.true)) ∙ refused, refl)
    ]
