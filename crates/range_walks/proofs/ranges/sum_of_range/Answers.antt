use Rattle.range_walks.proofs.Cited.{◌≡◌, ◌-◌, ◌∙◌, true, false, length, map, slice_range, sym, ap, arith, length-map, All-map, fold_of}
use Rattle.range_walks.proofs.LastStart.{last_range_summed, range_summed}
use Rattle.range_walks.proofs.Scanned.{part_read}
use Rattle.range_walks.proofs.ranges.sum_of_range.Goals as goal

pub returns-then-first-next : goal.returns-then-first-next
returns-then-first-next g c =
    let m = g.M.Monoid in
    let item = g.E.Reading.item in
    let a = c.args.a.now in
    let to = c.args.to in
    let start = c.start-start.result in
    let first = c.starts_before-first in
    let next = c.starts_before-next in
    let long : length (map item a) ≡ length a = length-map a item in
    ap (λ v. (true, v)) (c.sum_from.ensures ∙ ap (λ u. fold_of m.join u (map item (slice_range a start to))) c.unit.ensures ∙ ap (fold_of m.join m.unit) (part_read item (to - start) start a))
    ∙ sym (last_range_summed c.know_laws.ensures c.args.d.now (map item a) (false, c.args.before) c.args.from to first.result next.result start (omega (arith, c.requires.within, long))
    (c.requires.total ∙ sym long)
    next.ensures.in_count first.ensures.others next.ensures.before next.ensures.others c.if-first-next.true c.start-start.ensures.value (All-map (λ y. m.is_item y ≡ true) item a c.requires.items))

pub returns : goal.returns
returns g c =
    let m = g.M.Monoid in
    let item = g.E.Reading.item in
    let a = c.args.a.now in
    let from = c.args.from in
    let to = c.args.to in
    let first = c.starts_before-first in
    let next = c.starts_before-next in
    let long : length (map item a) ≡ length a = length-map a item in
    ap (λ v. (false, v)) (c.sum_from-2.ensures ∙ ap (fold_of m.join c.args.before) (part_read item (to - from) from a))
    ∙ sym (range_summed m.join c.args.d.now (map item a) false c.args.before from to first.result next.result c.requires.in_order (omega (arith, c.requires.within, long)) (c.requires.total ∙ sym long)
    first.ensures.in_count first.ensures.before next.ensures.others c.if-first-next.false)
