use Rattle.sparse_products.proofs.Cited.{◌≡◌, ℕ, ◌≤◌, get_or, length, pos, take, true, zip, wrap, row_total, are_within}
use Rattle.sparse_products.proofs.row_groups.sums_into.Given as goal

abbrev pub invariant-loop-k : goal.invariant-loop-k
invariant-loop-k l = let entries = zip l.columns l.values in record {
  within : are_within (length l.x) (take l.k entries) ≡ true;
  each : (j : ℕ) → j ≤ l.k → get_or l.sums j (pos 0) ≡ wrap (row_total l.x (take j entries));
  last : l.sum ≡ wrap (row_total l.x (take l.k entries));
}
