use Rattle.checked_tile_scans.proofs.Cited.{◌∙◌, pos, map, ap, sym, Err, Ok, option_copied, sum_of, wrap, is_number, tiled, flagged, sums_of, befores_of}
use Rattle.checked_tile_scans.specs.Checked.{total_scan}
use Rattle.checked_tile_scans.proofs.Outsides.{overflow_meant}
use Rattle.checked_tile_scans.proofs.TileFronts.{scan_meant}
use Rattle.checked_tile_scans.proofs.WholeSums.{wrapped_befores}
use Rattle.checked_tile_scans.proofs.tiled_scans.scan_or_overflow.Goals as goal

pub scan_after_befores-requires-clause-before : goal.scan_after_befores-requires-clause-before
scan_after_befores-requires-clause-before g c κs within =
    let v = c.args.vector.now in
    let is = tiled is_number (option_copied v.segments) v.elements.now v.plan v.numbers v.agrees v.whole v.few v.some in
    wrapped_befores is c.deref-3.result.now (c.deref-3.ensures.value ∙ c.in_ok-before.ensures ∙ ap (map wrap) (c.deref-2.ensures.value ∙ c.in_ok-totals.ensures))
    ∙ (λ i. befores_of sum_of (pos 0) (sums_of sum_of (pos 0) (v.whole i) (c.requires i) (flagged (option_copied v.segments) v.elements.now)))

pub returns-in-Some-clause-values : goal.returns-in-Some-clause-values
returns-in-Some-clause-values g c =
    let v = c.args.vector.now in
    overflow_meant (total_scan (flagged (option_copied v.segments) v.elements.now)) c.in-Some.place (sym c.in_ok-place.ensures ∙ c.in-Some.is) ∙ ap Err (sym c.at.ensures)

pub returns-clause-values : goal.returns-clause-values
returns-clause-values g c =
    let v = c.args.vector.now in
    scan_meant (tiled is_number (option_copied v.segments) v.elements.now v.plan v.numbers v.agrees v.whole v.few v.some) (sym c.in_ok-place.ensures ∙ c.in_default.is)
    ∙ ap Ok (sym c.in_ok-sums.ensures.values)
