use Rattle.std.proofs.Common.{◌≡◌, pos, take}
use Rattle.cvl_base.specs.Folds.{fold_of, scan_of}
use Rattle.long_sums.specs.LongSums.{long_sum_of}
use Rattle.part_records.proofs.sums.write_carries.Given as goal

abbrev pub invariant-loop-k : goal.invariant-loop-k
invariant-loop-k l = record {
  sum : l.so_far ≡ fold_of long_sum_of (pos 0) (take l.k l.sums);
  scanned : take l.k l.out ≡ scan_of long_sum_of (pos 0) (take l.k l.sums);
}
