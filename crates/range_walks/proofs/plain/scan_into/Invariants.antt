use Rattle.range_walks.proofs.Cited.{◌≡◌, IsTrue, map, take, fold_of, scan_of, with_items}
use Rattle.range_walks.proofs.plain.scan_into.Given as goal

abbrev pub invariant-loop-x : goal.invariant-loop-x
invariant-loop-x g l =
    let m = g.M.Monoid in
    let items = map g.E.Reading.item l.xs in
    record {
      item : IsTrue (m.is_item l.so_far);
      sum : l.so_far ≡ fold_of m.join l.fn.before (take l.x-index items);
      written : l.run ≡ with_items l.fn.run (scan_of m.join l.fn.before (take l.x-index items));
    }
