use Rattle.tile_scans.proofs.Cited.{◌≡◌, map, vec_len, vec_capacity, range_with_len, IsSeatOf, before_tile}
use Rattle.tile_scans.proofs.race.befores.Given as goal

abbrev pub invariant-loop-t : goal.invariant-loop-t
invariant-loop-t g l =
    let m = g.T.M.Monoid in
    record {
      seat : IsSeatOf l.board l.seat;
      long : vec_len l.before ≡ l.t;
      room : vec_capacity l.before ≡ l.count;
      known : l.before.items ≡ map (λ t. (before_tile m.join m.unit l.board.sums t).1) (range_with_len 0 l.t);
    }
