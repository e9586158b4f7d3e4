use Rattle.std.proofs.Common.{◌≡◌, take}
use Rattle.part_records.specs.Carries.{long_total_of}
use Rattle.part_records.proofs.sums.total.Given as goal

abbrev pub invariant-loop-sum : goal.invariant-loop-sum
invariant-loop-sum l = l.so_far ≡ long_total_of (take l.sum-index l.sums)
