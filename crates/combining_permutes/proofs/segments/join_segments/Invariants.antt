use Rattle.combining_permutes.proofs.Cited.{◌≡◌, ◌+◌, ◌++◌, AllPass, drop, length, map, sum, take, combined_by}
use Rattle.combining_permutes.proofs.segments.join_segments.Given as goal

abbrev pub invariant-loop-s : goal.invariant-loop-s
invariant-loop-s g l =
    let m = g.M.Monoid in
    let elements = map g.E.Reading.item l.source in
    record {
      total : l.first + sum (drop l.s l.d) ≡ length l.index;
      room : l.start + sum (drop l.s l.room_d) ≡ length l.out;
      items : AllPass m.is_item l.out;
      so_far : take l.start l.out ++ combined_by m.join (drop l.s l.d) (drop l.s l.room_d) (drop l.first l.index) (drop l.first elements) (drop l.start l.out)
          ≡ combined_by m.join l.d l.room_d l.index elements l.fn.out;
    }
