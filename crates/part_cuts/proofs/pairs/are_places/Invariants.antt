use Rattle.std.proofs.Common.{◌≡◌, map, take, true}
use Rattle.std.specs.List.{list_all, zip}
use Rattle.part_cuts.specs.Pairs.{ends_at}
use Rattle.part_cuts.proofs.pairs.are_places.Given as goal

abbrev pub invariant-loop-k : goal.invariant-loop-k
invariant-loop-k g l = record {
  each : list_all (λ p. g.P.Paired.has_place p.0 p.1) (take l.k (zip l.firsts l.seconds)) ≡ true;
  ends : l.ends ≡ ends_at l.len (map (λ p. g.P.Paired.place p.0 p.1) (take l.k (zip l.firsts l.seconds)));
}
