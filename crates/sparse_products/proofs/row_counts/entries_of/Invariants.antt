use Rattle.sparse_products.proofs.Cited.{◌≡◌, map, take, unsigned_abs, sum}
use Rattle.sparse_products.proofs.row_counts.entries_of.Given as goal

abbrev pub invariant-loop-length : goal.invariant-loop-length
invariant-loop-length l = l.entries ≡ sum (take l.length-index (map unsigned_abs l.lengths))
