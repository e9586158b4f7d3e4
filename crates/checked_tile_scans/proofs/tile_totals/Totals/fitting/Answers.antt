use Rattle.checked_tile_scans.proofs.Cited.{◌≡◌, ◌∙◌, ◌+ℤ◌, pos, to_z, of_z, w64, slice_range, ap, sym, arith, option_copied, to_z-of_z, fitting_front, range_scan_of, flagged, cut_range, flat_range}
use Rattle.checked_tile_scans.proofs.Cited.{continued_range_scan, scan_of, range_between}
use Rattle.checked_tile_scans.proofs.tile_totals.Totals.fitting.Goals as goal

pub returns-in-None : goal.returns-in-None
returns-in-None g c =
    let v = c.args.self.now in
    let xs = v.elements.now in
    let range = c.range-from.result in
    let before = c.args.before in
    let back : to_z w64 (of_z w64 before) ≡ before = grind (arith, to_z-of_z) in
    c.fitting_of_scan.ensures.front
    ∙ ap (λ z. fitting_front (scan_of ◌+ℤ◌ z (slice_range xs range.0 range.1))) back
    ∙ ap fitting_front (sym (continued_range_scan ◌+ℤ◌ (pos 0) before (slice_range xs range.0 range.1)))
    ∙ ap (λ ws. fitting_front (range_scan_of ◌+ℤ◌ (pos 0) before ws)) (flat_range (option_copied v.segments) xs range.0 range.1 (ap option_copied c.in-None.is)
    ∙ ap (λ r. slice_range (flagged (option_copied v.segments) xs) r.0 r.1) c.range-from.ensures.value)

pub returns-in-Some : goal.returns-in-Some
returns-in-Some g c =
    let v = c.args.self.now in
    let xs = v.elements.now in
    let range = c.range-from.result in
    let before = c.args.before in
    let back : to_z w64 (of_z w64 before) ≡ before = grind (arith, to_z-of_z) in
    c.fitting_of_range.ensures
    ∙ ap (λ z. fitting_front (range_scan_of ◌+ℤ◌ (pos 0) z (range_between c.in-Some.d.now xs range.0 range.1))) back
    ∙ ap (λ ws. fitting_front (range_scan_of ◌+ℤ◌ (pos 0) before ws)) (cut_range (option_copied v.segments) xs range.0 range.1 c.in-Some.d.now (ap option_copied c.in-Some.is)
    ∙ ap (λ r. slice_range (flagged (option_copied v.segments) xs) r.0 r.1) c.range-from.ensures.value)
