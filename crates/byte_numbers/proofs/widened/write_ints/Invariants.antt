use Rattle.std.proofs.Common.{◌≡◌, map, pos, take}
use Rattle.byte_numbers.proofs.widened.write_ints.Given as goal

abbrev pub invariant-loop-k : goal.invariant-loop-k
invariant-loop-k l = take l.k l.out ≡ map pos (take l.k l.bytes)
