use Rattle.checked_tile_scans.proofs.Cited.{◌∙◌, arith, sym, pos, option_copied, exact_laws, exact_sum_of, is_number, tiled, flagged, length-sums_of, sums_pass}
use Rattle.checked_tile_scans.proofs.WholeSums.{worded}
use Rattle.checked_tile_scans.proofs.tile_totals.TotalsTiles.count.Goals as goal

pub returns : goal.returns
returns g c =
    let v = c.args.self.now in
    let ws = flagged (option_copied v.segments) v.elements.now in
    let is = tiled is_number (option_copied v.segments) v.elements.now v.plan v.numbers v.agrees v.whole v.few v.some in
    let long = length-sums_of exact_sum_of (pos 0) v.plan.len v.plan.tile ws in
    record {
      count = c.count.ensures.value ∙ sym long;
      few = omega (arith, c.count.ensures.value, c.count.ensures.at_most, v.few, long);
      items = sums_pass exact_laws (worded is);
    }
