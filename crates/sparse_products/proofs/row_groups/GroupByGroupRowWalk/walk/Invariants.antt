use Rattle.sparse_products.proofs.Cited.{◌≡◌, ◌+◌, ◌-◌, ◌≤◌, length, drop, map, unsigned_abs, sum, zip, option_or, cut_of, first_without, with_items, row_item, row_value, wrapping}
use Rattle.sparse_products.proofs.row_groups.GroupByGroupRowWalk.walk.Given as goal

-- what is written and found with the rows that are left is what the whole has
abbrev pub invariant-loop-first : goal.invariant-loop-first
invariant-loop-first l =
    let lengths = map unsigned_abs l.rows.lengths.now in
    let all = cut_of lengths (zip l.rows.columns.now l.rows.values.now) in
    let left = cut_of (drop l.first lengths) (zip l.columns_left l.values_left) in
    record {
      whole : with_items l.run (map (row_item wrapping l.x) left) ≡ with_items l.fn.run (map (row_item wrapping l.x) all);
      found : option_or l.found (first_without (l.run.first + length l.run.items) (map (row_value wrapping l.x) left))
          ≡ first_without (l.fn.run.first + length l.fn.run.items) (map (row_value wrapping l.x) all);
      as_many : length l.values_left ≡ length l.columns_left;
      covered : sum (drop l.first lengths) ≤ length l.columns_left;
      room : length l.rows.lengths.now - l.first ≤ l.run.room;
      within : l.first ≤ length l.rows.lengths.now;
    }

-- how many rows are left
abbrev pub decreases-loop-first : goal.decreases-loop-first
decreases-loop-first l = length l.rows.lengths.now - l.first
