use Rattle.std.proofs.Common.{◌≡◌, ◌<◌, ℕ, ℤ, true, get_or}
use Rattle.long_sums.specs.LongSums.{is_long}
use Rattle.segment_parts.proofs.longs.know_longs.Given as goal

abbrev pub invariant-loop-sum : goal.invariant-loop-sum
invariant-loop-sum l = (k : ℕ) (other : ℤ) → k < l.sum-index → is_long (get_or l.sums k other) ≡ true
