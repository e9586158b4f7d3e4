use Rattle.scan_walks.proofs.Cited.{◌≡◌, ◌+◌, ◌+ℤ◌, drop, take, fold_of, scan_of, fitting_front}
use Rattle.scan_walks.proofs.blocks.sum_one_by_one.Given as goal

abbrev pub invariant-loop-place : goal.invariant-loop-place
invariant-loop-place l = record {
  front : fitting_front (scan_of ◌+ℤ◌ l.before l.xs) ≡ l.place + fitting_front (scan_of ◌+ℤ◌ l.so_far (drop l.place l.xs));
  sum : l.so_far ≡ fold_of ◌+ℤ◌ l.before (take l.place l.xs);
}
