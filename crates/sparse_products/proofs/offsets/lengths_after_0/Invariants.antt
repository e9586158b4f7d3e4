use Rattle.sparse_products.proofs.Cited.{◌≡◌, ◌≤◌, ◌++◌, drop, length, pos, ◌≤ℤ◌, vec_capacity, vec_len, lengths_after}
use Rattle.sparse_products.proofs.RowLengths.{AreNatural}
use Rattle.sparse_products.proofs.offsets.lengths_after_0.Given as goal

abbrev pub invariant-loop-row : goal.invariant-loop-row
invariant-loop-row g l = record {
  whole : l.lengths.items ++ lengths_after l.before (drop l.row l.offsets) ≡ lengths_after (pos 0) l.offsets;
  natural : AreNatural l.lengths.items;
  before : pos 0 ≤ℤ l.before;
  count : vec_len l.lengths ≡ l.row;
  room : length l.offsets ≤ vec_capacity l.lengths;
}
