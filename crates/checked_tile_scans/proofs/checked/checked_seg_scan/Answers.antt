use Rattle.checked_tile_scans.proofs.Cited.{◌∙◌, pos, map, sym, ap, subst, fitting, values_from, Gives, all_whole, whole_laws, flagged, Overflow, scans_valued}
use Rattle.scan_walks.proofs.Cut.{segments_scanned}
use Rattle.checked_tile_scans.specs.Checked.{total_scan}
use Rattle.checked_tile_scans.proofs.checked.checked_seg_scan.Goals as goal

pub returns-clause-values : goal.returns-clause-values
returns-clause-values g c =
    let new = c.new-totals.ensures in
    let a = c.args.a.now in
    let d = c.args.d.now in
    subst (Gives (λ sums. sums.items) c.scan_or_overflow.result)
    (ap (λ zs. values_from Overflow 0 (map fitting zs)) ((λ i. total_scan (flagged (new.segments i) (new.elements i))) ∙ segments_scanned whole_laws d a (pos 0) (all_whole a))
    ∙ sym (scans_valued d a c.in_ok-check_total.ensures.agrees))
    c.scan_or_overflow.ensures.values
