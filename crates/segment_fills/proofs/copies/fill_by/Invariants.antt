use Rattle.std.proofs.Common.{◌≡◌, replicate, take}
use Rattle.segment_fills.proofs.copies.fill_by.Given as goal

abbrev pub invariant-loop-k : goal.invariant-loop-k
invariant-loop-k g l = take l.k l.room ≡ replicate l.k l.value
