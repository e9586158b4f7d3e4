use Rattle.std.proofs.Common.{◌≡◌, map, take, unsigned_abs}
use Rattle.byte_numbers.proofs.narrowed.write_bytes.Given as goal

abbrev pub invariant-loop-k : goal.invariant-loop-k
invariant-loop-k l = take l.k l.out ≡ map unsigned_abs (take l.k l.a)
