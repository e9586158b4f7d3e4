use Rattle.range_walks.proofs.Cited.{rules, ◌≡◌, ℕ, ◌+◌, ◌-◌, ◌<◌, get_or, map, take, drop, unsigned_abs, sym, ap, arith, sum, drop-map, length-drop, sum_by_more, sum_by-take-drop, written_twice}
use Rattle.range_walks.proofs.Cited.{start_of}
use Rattle.range_walks.proofs.Scanned.{part_read}
use Rattle.range_walks.proofs.Segments.{range_lengths, range_read, range_sum}
use Rattle.range_walks.proofs.SegmentReduces.{reduces_walked}
use Rattle.range_walks.proofs.ranges.seg_reduces_into.Goals as goal

pub reduces_into-requires-clause-lengths : goal.reduces_into-requires-clause-lengths
reduces_into-requires-clause-lengths g c =
    range_lengths c.lengths.result.now c.args.d.now (c.args.first + 1) (c.args.next - (c.args.first + 1)) c.lengths.ensures.value c.lengths.ensures.lengths

pub reduces_into-requires-clause-covered : goal.reduces_into-requires-clause-covered
reduces_into-requires-clause-covered g c =
    let d = c.args.d.now in
    let first = c.args.first in
    let next = c.args.next in
    let m : ℕ = next - (first + 1) in
    let some : first < next = omega (arith, c.if-first-next.false, c.requires.in_order) in
    let read : sum (map unsigned_abs (take m (drop (first + 1) c.lengths.result.now))) ≡ sum (take m (drop (first + 1) d)) =
    ap sum (range_read c.lengths.result.now d (first + 1) m c.lengths.ensures.value) in
    let ends : start_of d first + get_or d first 0 ≡ start_of d (first + 1) = sym (sum_by_more (λ x. x) d first 0 (omega (arith, some, c.requires.within))) in
    let begun = c.requires.begun some in
    omega (
      arith,
      read,
      ends,
      begun.not_past,
      begun.begun,
      range_sum d (first + 1) next (omega (arith, some)),
      sum_by-take-drop (λ x. x) d next,
      c.requires.total,
      c.start.ensures.value,
      c.length.ensures,
      c.split_at-2.ensures.back_len,
      c.split_at.ensures.back_len,
      length-drop c.args.from c.args.a.now,
    )

pub returns : goal.returns
returns g c = search (rules, sum_by_more, part_read, drop-map, range_read, written_twice, reduces_walked)
