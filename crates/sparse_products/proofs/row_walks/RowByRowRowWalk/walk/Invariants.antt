use Rattle.sparse_products.proofs.Cited.{◌≡◌, ◌+◌, ◌-◌, ◌≤◌, length, drop, map, unsigned_abs, sum, zip, option_or, cut_of, first_without, with_items, row_item, row_value}
use Rattle.sparse_products.proofs.row_walks.RowByRowRowWalk.walk.Given as goal

-- what is written and found with the rows that are left is what the whole has
abbrev pub invariant-loop-length : goal.invariant-loop-length
invariant-loop-length g l =
    let rule = g.S.RowSum.rule in
    let lengths = map unsigned_abs l.rows.lengths.now in
    let all = cut_of lengths (zip l.rows.columns.now l.rows.values.now) in
    let left = cut_of (drop l.length-index lengths) (zip l.columns_left l.values_left) in
    record {
      whole : with_items l.run (map (row_item rule l.x) left) ≡ with_items l.fn.run (map (row_item rule l.x) all);
      found : option_or l.found (first_without (l.run.first + length l.run.items) (map (row_value rule l.x) left))
          ≡ first_without (l.fn.run.first + length l.fn.run.items) (map (row_value rule l.x) all);
      as_many : length l.values_left ≡ length l.columns_left;
      covered : sum (drop l.length-index lengths) ≤ length l.columns_left;
      room : length l.rows.lengths.now - l.length-index ≤ l.run.room;
    }
