use Rattle.sparse_products.proofs.Cited.{◌≡◌, ◌*◌, ◌≤◌, ◌+ℤ◌, drop, pos, unsigned_abs, zip, fitting}
use Rattle.sparse_products.proofs.Entries.{value_from}
use Rattle.sparse_products.proofs.row_sums.fitting_sum.Given as goal

-- the entries that are left, from the sum on, have the row's value; each product is at most 2^62 away from 0
abbrev pub invariant-loop-k : goal.invariant-loop-k
invariant-loop-k l = record {
  so_far : value_from ◌+ℤ◌ fitting l.x l.sum (drop l.k (zip l.columns l.values)) ≡ value_from ◌+ℤ◌ fitting l.x (pos 0) (zip l.columns l.values);
  small : unsigned_abs l.sum ≤ l.k * 4611686018427387904;
}
