use Rattle.range_walks.proofs.Cited.{◌≡◌, length, map, unsigned_abs, start_of}
use Rattle.range_walks.proofs.SegmentNumbers.{IsCounted}
use Rattle.range_walks.proofs.ends.count_ends.Given as goal

abbrev pub invariant-loop-length : goal.invariant-loop-length
invariant-loop-length l =
    let lengths = map unsigned_abs l.lengths in
    record {
      end : l.end ≡ start_of lengths l.length-index;
      counted : IsCounted lengths l.ends l.length-index l.end;
      places : length l.ends ≡ length l.fn.ends;
    }
