use Rattle.scan_walks.proofs.Cited.{◌≡◌, ◌<◌, ℕ, ℤ, true, is_number, slice_index_or}
use Rattle.scan_walks.proofs.numbers.know_numbers.Given as goal

abbrev pub invariant-loop-x : goal.invariant-loop-x
invariant-loop-x l = (k : ℕ) (other : ℤ) → k < l.x-index → is_number (slice_index_or l.a k other) ≡ true
