use Rattle.scan_walks.proofs.Cited.{◌≡◌, ◌∙◌, ◌+ℤ◌, true, false, pos, to_z, of_z, w64, sym, ap, arith, to_z-of_z}
use Rattle.range_walks.proofs.LastStart.{last_range_summed, range_summed}
use Rattle.scan_walks.proofs.WholeSums.{all_whole, whole_laws}
use Rattle.scan_walks.proofs.whole_sums.total_of_range.Goals as goal

pub returns-then-first-next : goal.returns-then-first-next
returns-then-first-next g c =
    let xs = c.args.a.now in
    let first = c.starts_before-first in
    let next = c.starts_before-next in
    let back : to_z w64 (of_z w64 c.total.result) ≡ c.total.result = grind (arith, to_z-of_z) in
    ap (λ v. (true, v)) (back ∙ c.total.ensures)
    ∙ sym (last_range_summed whole_laws c.args.d.now xs (false, pos 0) c.args.from c.args.to first.result next.result c.start-start.result c.requires.within c.requires.total
    next.ensures.in_count first.ensures.others next.ensures.before next.ensures.others c.if-first-next.true c.start-start.ensures.value (all_whole xs))

pub returns : goal.returns
returns g c =
    let first = c.starts_before-first in
    let next = c.starts_before-next in
    let back : to_z w64 (of_z w64 c.total-2.result) ≡ c.total-2.result = grind (arith, to_z-of_z) in
    ap (λ v. (false, v)) (back ∙ c.total-2.ensures)
    ∙ sym (range_summed ◌+ℤ◌ c.args.d.now c.args.a.now false (pos 0) c.args.from c.args.to first.result next.result c.requires.in_order c.requires.within c.requires.total
    first.ensures.in_count first.ensures.before next.ensures.others c.if-first-next.false)
