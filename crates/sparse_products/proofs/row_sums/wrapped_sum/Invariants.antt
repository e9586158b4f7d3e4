use Rattle.sparse_products.proofs.Cited.{◌≡◌, drop, pos, Some, zip}
use Rattle.sparse_products.proofs.Entries.{add_wrapped, value_from}
use Rattle.sparse_products.proofs.row_sums.wrapped_sum.Given as goal

-- the entries that are left, from the sum on, have the row's value
abbrev pub invariant-loop-k : goal.invariant-loop-k
invariant-loop-k l = value_from add_wrapped Some l.x l.sum (drop l.k (zip l.columns l.values)) ≡ value_from add_wrapped Some l.x (pos 0) (zip l.columns l.values)
