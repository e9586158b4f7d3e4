use Rattle.std.proofs.Common.{◌≡◌, ℕ, ◌<◌, true, get_or, ℤ}
use Rattle.long_sums.specs.LongSums.{may_grow}
use Rattle.long_sums.proofs.rooms.check_growing.Given as goal

abbrev pub invariant-loop-k : goal.invariant-loop-k
invariant-loop-k l = (j : ℕ) (other : ℤ) → j < l.k → may_grow (get_or l.sums j other) ≡ true
