use Rattle.scan_walks.proofs.Cited.{◌≡◌, pos, take, map, unsigned_abs, sum, fold_of, greater_of}
use Rattle.scan_walks.proofs.segment_fronts.extent_of.Given as goal

abbrev pub invariant-loop-length : goal.invariant-loop-length
invariant-loop-length l = record {
  total : l.total ≡ sum (take l.length-index (map unsigned_abs l.lengths));
  longest : l.longest ≡ fold_of greater_of (pos 0) (take l.length-index l.lengths);
}
