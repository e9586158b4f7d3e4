use Rattle.std.proofs.Common.{◌≡◌, ◌<◌, ℕ, ℤ, true, get_or}
use Rattle.long_sums.specs.LongSums.{is_long}
use Rattle.exact_combines.proofs.readings.know_longs.Given as goal

abbrev pub invariant-loop-x : goal.invariant-loop-x
invariant-loop-x l = (k : ℕ) (other : ℤ) → k < l.x-index → is_long (get_or l.sums k other) ≡ true
