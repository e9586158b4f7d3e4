use Rattle.checked_tile_scans.proofs.Cited.{◌∙◌, ℤ, List, map, sym, ap, subst, fitting, values_from, Gives, Overflow, sums_valued}
use Rattle.checked_tile_scans.specs.Checked.{segment_totals}
use Rattle.checked_tile_scans.proofs.checked.checked_seg_reduce.Goals as goal

pub returns-clause-values : goal.returns-clause-values
returns-clause-values g c =
    let a = c.args.a.now in
    let d = c.args.d.now in
    let meaning = λ (zs : List ℤ). values_from Overflow 0 (map fitting zs) in
    let same = ap (λ xs. meaning (segment_totals d xs)) c.new-totals.ensures.elements ∙ sym (sums_valued d a c.in_ok-check_total.ensures.agrees) in
    subst (Gives (λ sums. sums.items) c.sums_known.result) same c.sums_known.ensures.values
