use Rattle.checked_tile_scans.proofs.Cited.{◌≡◌, ◌∙◌, ◌+ℤ◌, false, pos, to_z, of_z, w64, slice_range, ap, sym, arith, option_copied, to_z-of_z, continued_summed, flagged, cut_range, flat_range}
use Rattle.checked_tile_scans.specs.Checked.{total_since}
use Rattle.checked_tile_scans.proofs.tile_totals.Totals.total.Goals as goal

pub returns-in-None : goal.returns-in-None
returns-in-None g c =
    let v = c.args.self.now in
    let xs = v.elements.now in
    let range = c.range-from.result in
    let back : to_z w64 (of_z w64 c.total.result) ≡ c.total.result = grind (arith, to_z-of_z) in
    ap (λ z. (false, z)) (back ∙ c.total.ensures)
    ∙ sym (continued_summed ◌+ℤ◌ false (pos 0) (slice_range xs range.0 range.1))
    ∙ ap total_since (flat_range (option_copied v.segments) xs range.0 range.1 (ap option_copied c.in-None.is))
    ∙ ap (λ r. total_since (slice_range (flagged (option_copied v.segments) xs) r.0 r.1)) c.range-from.ensures.value

pub returns-in-Some : goal.returns-in-Some
returns-in-Some g c =
    let v = c.args.self.now in
    let xs = v.elements.now in
    let range = c.range-from.result in
    c.total_of_range.ensures
    ∙ ap total_since (cut_range (option_copied v.segments) xs range.0 range.1 c.in-Some.d.now (ap option_copied c.in-Some.is))
    ∙ ap (λ r. total_since (slice_range (flagged (option_copied v.segments) xs) r.0 r.1)) c.range-from.ensures.value
