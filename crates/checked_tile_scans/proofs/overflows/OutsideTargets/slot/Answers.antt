use Rattle.checked_tile_scans.proofs.Cited.{◌∙◌, arith, ap, sym, option_map, option_copied, flagged}
use Rattle.checked_tile_scans.proofs.TileFronts.{length-slots, slot_there}
use Rattle.checked_tile_scans.proofs.overflows.OutsideTargets.slot.Goals as goal

pub place_in-requires : goal.place_in-requires
place_in-requires g c =
    let v = c.args.self.now.vector.now in
    omega (arith, c.requires, length-slots v.plan (flagged (option_copied v.segments) v.elements.now))

pub returns-in-Some-clause-value : goal.returns-in-Some-clause-value
returns-in-Some-clause-value g c =
    let v = c.args.self.now.vector.now in
    ap (option_map (λ _. 0)) (sym c.in-Some.is) ∙ slot_there v.plan (flagged (option_copied v.segments) v.elements.now) c.args.place c.place_in.result c.requires c.place_in.ensures

pub returns-in-None-clause-value : goal.returns-in-None-clause-value
returns-in-None-clause-value g c =
    let v = c.args.self.now.vector.now in
    ap (option_map (λ _. 0)) (sym c.in-None.is) ∙ slot_there v.plan (flagged (option_copied v.segments) v.elements.now) c.args.place c.place_in.result c.requires c.place_in.ensures
