use Rattle.checked_tile_scans.proofs.Cited.{◌∙◌, arith, sym, option_copied, flagged}
use Rattle.checked_tile_scans.proofs.TileFronts.{length-slots}
use Rattle.checked_tile_scans.proofs.overflows.OutsideTargets.places.Goals as goal

pub returns : goal.returns
returns g c =
    let v = c.args.self.now.vector.now in
    let long = length-slots v.plan (flagged (option_copied v.segments) v.elements.now) in
    record {
      count = c.count.ensures.value ∙ sym long;
      few = omega (arith, v.few, c.count.ensures.value, c.count.ensures.at_most, long);
    }
