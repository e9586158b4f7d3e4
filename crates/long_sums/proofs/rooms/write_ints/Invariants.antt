use Rattle.std.proofs.Common.{◌≡◌, take}
use Rattle.long_sums.proofs.rooms.write_ints.Given as goal

abbrev pub invariant-loop-k : goal.invariant-loop-k
invariant-loop-k l = take l.k l.out ≡ take l.k l.sums
