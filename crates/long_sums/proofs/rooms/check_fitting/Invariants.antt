use Rattle.std.proofs.Common.{◌≡◌, ℕ, ◌<◌, true, get_or, ℤ}
use Rattle.cvl_base.specs.ItemWords.{is_number}
use Rattle.long_sums.proofs.rooms.check_fitting.Given as goal

abbrev pub invariant-loop-k : goal.invariant-loop-k
invariant-loop-k l = (j : ℕ) (other : ℤ) → j < l.k → is_number (get_or l.sums j other) ≡ true
