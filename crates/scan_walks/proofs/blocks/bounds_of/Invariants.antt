use Rattle.scan_walks.proofs.Cited.{◌≡◌, pos, take, fold_of, greater_of, lesser_of, sum_of}
use Rattle.scan_walks.proofs.blocks.bounds_of.Given as goal

abbrev pub invariant-loop-x : goal.invariant-loop-x
invariant-loop-x l = record {
  least : l.least ≡ fold_of lesser_of (pos 0) (take l.x-index l.block);
  greatest : l.greatest ≡ fold_of greater_of (pos 0) (take l.x-index l.block);
  sum : l.sum ≡ fold_of sum_of l.before (take l.x-index l.block);
}
