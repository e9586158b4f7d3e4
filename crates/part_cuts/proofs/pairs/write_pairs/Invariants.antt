use Rattle.std.proofs.Common.{◌≡◌, map, take}
use Rattle.std.specs.List.{zip}
use Rattle.part_cuts.proofs.pairs.write_pairs.Given as goal

abbrev pub invariant-loop-k : goal.invariant-loop-k
invariant-loop-k g l = take l.k l.places ≡ map (λ p. g.P.Paired.place p.0 p.1) (take l.k (zip l.firsts l.seconds))
