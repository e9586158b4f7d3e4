use Rattle.std.proofs.Common.{◌≡◌, ℕ, ◌+◌, ◌<◌, map, sum, drop, take, unsigned_abs}
use Rattle.value_texts.proofs.segments.leading.Given as goal

-- the elements of the segments that are passed, and of the others
abbrev pub invariant-loop-segments : goal.invariant-loop-segments
invariant-loop-segments l = record {
  passed : l.elements ≡ sum (map unsigned_abs (take l.segments l.lengths));
  fewer : (k : ℕ) → k + 1 ≡ l.segments → sum (map unsigned_abs (take k l.lengths)) + k < l.least;
  total : l.elements + sum (map unsigned_abs (drop l.segments l.lengths)) ≡ sum (map unsigned_abs l.lengths);
}
