use Rattle.sparse_products.proofs.Cited.{◌≡◌, ℕ, ◌-◌, ◌<◌, ◌≤◌, length, map, unsigned_abs, start_of}
use Rattle.sparse_products.proofs.row_counts.rows_of_share.Given as goal

-- all rows so far start before the place
abbrev pub invariant-loop-rows : goal.invariant-loop-rows
invariant-loop-rows l = let lengths = map unsigned_abs l.lengths in record {
  begins : l.start ≡ start_of lengths l.rows;
  within : l.rows ≤ length l.lengths;
  front : (s : ℕ) → s < l.rows → start_of lengths s < l.place;
}

abbrev pub decreases-loop-rows : goal.decreases-loop-rows
decreases-loop-rows l = length l.lengths - l.rows
