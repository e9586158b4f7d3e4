use Rattle.combining_permutes.proofs.Cited.{◌+◌, AllPass, combined, drop, length, map, zip}
use Rattle.permute_walks.proofs.Listed.{IsRest}
use Rattle.combining_permutes.proofs.Owned.{Leaves, is_own}
use Rattle.combining_permutes.proofs.ranges.join_block.Given as goal

abbrev pub invariant-loop-listed : goal.invariant-loop-listed
invariant-loop-listed g l =
    let m = g.M.Monoid in
    let elements = map g.E.Reading.item l.source in
    let whole = combined m.join (zip (drop l.first l.index) (drop l.first elements)) l.lowest l.fn.out in
    let n = length l.fn.out in
    record {
      left : IsRest (is_own m.join l.index elements whole l.lowest n) (Leaves m.join l.index elements whole l.lowest n l.out) (drop l.listed-index l.own) (l.first + length l.fn.list);
      items : AllPass m.is_item l.out;
    }
