use Rattle.checked_tile_scans.proofs.Cited.{◌≤◌, ◌∙◌, length, map, ap, sym, arith, Ok, Err, length-map, fitting, wrap, most_places}
use Rattle.std.proofs.Math.Facts.{Fits-below}
use Rattle.checked_tile_scans.specs.Checked.{segment_totals}
use Rattle.checked_tile_scans.proofs.FirstWithout.{all_fit, fails_first, found_within}
use Rattle.checked_tile_scans.proofs.SegmentTotals.{length-segment_totals}
use Rattle.checked_tile_scans.proofs.segment_sums.sums_known.Goals as goal

pub write_checked_in_runs-requires-clause-items : goal.write_checked_in_runs-requires-clause-items
write_checked_in_runs-requires-clause-items g c κs within =
    let d = c.args.segments.now in
    let xs = c.args.vector.now.elements.now in
    omega (arith, c.count.ensures.value, length-segment_totals d xs, length-map (segment_totals d xs) wrap)

pub write_checked_in_runs-requires-clause-values : goal.write_checked_in_runs-requires-clause-values
write_checked_in_runs-requires-clause-values g c κs within =
    let d = c.args.segments.now in
    let xs = c.args.vector.now.elements.now in
    omega (arith, c.count.ensures.value, length-segment_totals d xs, length-map (segment_totals d xs) fitting)

pub overflow_cast-place : goal.overflow_cast-place
overflow_cast-place g c =
    let d = c.args.segments.now in
    let xs = c.args.vector.now.elements.now in
    let totals = segment_totals d xs in
    let within = found_within 0 c.in-Some.place (map fitting totals) (sym c.in_ok-written.ensures.found ∙ c.in-Some.is) in
    let small : c.in-Some.place ≤ most_places = omega (arith, within, length-map totals fitting, length-segment_totals d xs, c.count.ensures.value, c.count.ensures.in_limit) in
    Fits-below tt small

pub returns-in-Some-clause-values : goal.returns-in-Some-clause-values
returns-in-Some-clause-values g c =
    let totals = segment_totals c.args.segments.now c.args.vector.now.elements.now in
    fails_first 0 c.in-Some.place (map fitting totals) (sym c.in_ok-written.ensures.found ∙ c.in-Some.is) ∙ ap Err (sym c.at.ensures)

pub returns-in-None : goal.returns-in-None
returns-in-None g c =
    let d = c.args.segments.now in
    let totals = segment_totals d c.args.vector.now.elements.now in
    record {
      values = all_fit 0 totals (sym c.in_ok-written.ensures.found ∙ c.in-None.is) ∙ ap Ok (sym c.in_ok-written.ensures.items);
      one_each = omega (arith, c.in_ok-written.written.ok, ap length c.in_ok-written.ensures.items, length-map totals wrap, length-segment_totals d c.args.vector.now.elements.now);
    }
