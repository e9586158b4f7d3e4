use Rattle.range_walks.proofs.Cited.{◌≡◌, IsTrue, map, take, fold_of}
use Rattle.range_walks.proofs.plain.sum_from.Given as goal

abbrev pub invariant-loop-x : goal.invariant-loop-x
invariant-loop-x g l =
    let m = g.M.Monoid in
    record {
      item : IsTrue (m.is_item l.sum);
      sum : l.sum ≡ fold_of m.join l.fn.before (take l.x-index (map g.E.Reading.item l.xs));
    }
