use Rattle.range_walks.proofs.Cited.{◌-◌, ◌≤◌, ◌∙◌, ◌++◌, length, take, drop, refl, sym, ap, arith, rules, sum, continued, with_starts}
use Rattle.range_walks.proofs.Cut.{starts_in_order}
use Rattle.range_walks.proofs.RangeParts.{range_parted, segments_cover}
use Rattle.range_walks.proofs.Segments.{range_lengths, range_read}
use Rattle.range_walks.proofs.range_parts.parts_of_range.Goals as goal

pub slice_bounds-result-count : goal.slice_bounds-result-count
slice_bounds-result-count g c = search (rules, starts_in_order)

pub slice_bounds-result-start : goal.slice_bounds-result-start
slice_bounds-result-start g c = search (rules, starts_in_order)

pub returns-clause-lengths : goal.returns-clause-lengths
returns-clause-lengths g c = search (rules, range_lengths)

pub returns-clause-covered : goal.returns-clause-covered
returns-clause-covered g c =
    let d = c.args.d.now in
    let first = c.starts_before-first in
    let next = c.starts_before-next in
    let read = ap sum (range_read c.lengths.result.now d first.result (next.result - first.result) c.lengths.ensures.value) in
    let covered = segments_cover d c.args.from c.args.to first.result next.result c.start_or_total-start.result (c.min.result - c.args.from) (length c.split_at.result.1.now)
    c.requires.in_order (omega (arith, c.requires.within, c.requires.total)) first.ensures.in_count first.ensures.before next.ensures.others c.start_or_total-start.ensures
    (ap (λ k. k - c.args.from) c.min.ensures) (omega (arith, c.split_at.ensures.back_len, c.requires.within, c.requires.in_order)) in
    omega (arith, read, covered)

pub returns-clause-starts : goal.returns-clause-starts
returns-clause-starts g c =
    let d = c.args.d.now in
    let first = c.starts_before-first in
    let next = c.starts_before-next in
    let front = c.split_at.result.0.now in
    let others = c.split_at.result.1.now in
    let read = range_read c.lengths.result.now d first.result (next.result - first.result) c.lengths.ensures.value in
    let covered : length others ≤ sum (take (next.result - first.result) (drop first.result d)) = omega (arith, returns-clause-covered g c, ap sum read) in
    range_parted d c.args.a.now _ front others c.args.from c.args.to first.result next.result c.start_or_total-start.result (c.min.result - c.args.from)
    c.requires.total c.requires.in_order c.requires.within first.ensures.in_count first.ensures.before first.ensures.others covered
    refl c.start_or_total-start.ensures (ap (λ j. j - c.args.from) c.min.ensures) c.split_at.ensures.front c.split_at.ensures.back
    ∙ ap (λ ls. continued front ++ with_starts ls others) (sym read)
