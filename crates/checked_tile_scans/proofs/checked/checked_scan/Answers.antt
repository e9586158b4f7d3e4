use Rattle.checked_tile_scans.proofs.Cited.{◌+ℤ◌, ◌∙◌, pos, map, ap, subst, fitting, values_from, Gives, flagged, continued_range_scan, Overflow}
use Rattle.checked_tile_scans.specs.Checked.{total_scan}
use Rattle.checked_tile_scans.proofs.checked.checked_scan.Goals as goal

pub returns-clause-values : goal.returns-clause-values
returns-clause-values g c =
    let new = c.new-totals.ensures in
    subst (Gives (λ sums. sums.items) c.scan_or_overflow.result)
    (ap (λ zs. values_from Overflow 0 (map fitting zs)) ((λ i. total_scan (flagged (new.segments i) (new.elements i))) ∙ continued_range_scan ◌+ℤ◌ (pos 0) (pos 0) c.args.a.now))
    c.scan_or_overflow.ensures.values
