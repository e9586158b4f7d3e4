use Rattle.range_walks.proofs.Cited.{◌≡◌, ◌+◌, ◌∙◌, get_or, length, map, unsigned_abs, arith, refl, start_of}
use Rattle.range_walks.proofs.SegmentNumbers.{counted_more, end_within, few_there}
use Rattle.range_walks.proofs.Segments.{length_here, read_at}
use Rattle.std.proofs.Math.Facts.{Fits-below}
use Rattle.std.proofs.lemmas.List.{length-set}
use Rattle.range_walks.proofs.ends.count_ends.Goals as goal

pub overflow_cast-end : goal.overflow_cast-end
overflow_cast-end c = (length_here c.requires.lengths c.loop-length-test.true).fits

pub bounds-ends-end : goal.bounds-ends-end
bounds-ends-end c = end_within c.loop-length.end _ c.requires.lengths c.loop-length-test.true c.loop-length.invariant.end (omega (arith, c.loop-length.invariant.places, c.requires.room))

pub overflow_add-ends : goal.overflow_add-ends
overflow_add-ends c =
    let now = c.loop-length in
    let end = now.end + read_at c.args.lengths.now now.length-index in
    let within = end_within now.end (length now.ends) c.requires.lengths c.loop-length-test.true now.invariant.end (omega (arith, now.invariant.places, c.requires.room)) in
    Fits-below {n = 255} tt (omega (arith, few_there now.ends end within, now.invariant.counted.after end (omega arith), c.loop-length-test.true, c.requires.few))

pub bounds-ends-end-in-loop-length : goal.bounds-ends-end-in-loop-length
bounds-ends-end-in-loop-length c =
    end_within c.loop-length.end _ c.requires.lengths c.loop-length-test.true c.loop-length.invariant.end (omega (arith, c.loop-length.invariant.places, c.requires.room))

pub loop-length-preserved : goal.loop-length-preserved
loop-length-preserved c =
    let now = c.loop-length in
    let lengths = map unsigned_abs c.args.lengths.now in
    let s = now.length-index in
    let end = now.end + read_at c.args.lengths.now s in
    let next : end ≡ start_of lengths (s + 1) = omega (arith, (length_here c.requires.lengths c.loop-length-test.true).next, now.invariant.end) in
    let within = end_within now.end (length now.ends) c.requires.lengths c.loop-length-test.true now.invariant.end (omega (arith, now.invariant.places, c.requires.room)) in
    record {
      end = next;
      counted = counted_more lengths now.ends s now.end end (get_or now.ends end 0 + 1) now.invariant.counted now.invariant.end next (omega arith) within refl;
      places = length-set now.ends end (get_or now.ends end 0 + 1) ∙ now.invariant.places;
    }
