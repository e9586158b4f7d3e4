use Rattle.std.proofs.Common.{◌≡◌, ℕ, ◌<◌, true, get_or, pos}
use Rattle.byte_numbers.specs.Bytes.{is_byte}
use Rattle.byte_numbers.proofs.narrowed.check_bytes.Given as goal

abbrev pub invariant-loop-k : goal.invariant-loop-k
invariant-loop-k l = (j : ℕ) → j < l.k → is_byte (get_or l.a j (pos 0)) ≡ true
