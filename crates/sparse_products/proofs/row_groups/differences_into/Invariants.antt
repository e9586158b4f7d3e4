use Rattle.sparse_products.proofs.Cited.{◌≡◌, ◌+◌, ◌-◌, ◌<◌, ◌≤◌, drop, length, map, unsigned_abs, sum, with_items, between}
use Rattle.sparse_products.proofs.row_groups.differences_into.Given as goal

-- what is written with the rows that are left is what the whole has
abbrev pub invariant-loop-length : goal.invariant-loop-length
invariant-loop-length l = let lengths = map unsigned_abs l.lengths in record {
  whole : with_items l.run (between l.sums l.start (drop l.length-index lengths)) ≡ with_items l.fn.run (between l.sums 0 lengths);
  covered : l.start + sum (drop l.length-index lengths) < length l.sums;
  room : length l.lengths - l.length-index ≤ l.run.room;
}
