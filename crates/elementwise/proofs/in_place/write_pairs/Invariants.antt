use Rattle.elementwise.proofs.Cited.{map, zip}
use Rattle.elementwise.proofs.InPlace.{IsWritten}
use Rattle.elementwise.proofs.in_place.write_pairs.Given as goal

abbrev pub invariant-loop-place : goal.invariant-loop-place
invariant-loop-place g l = IsWritten (map (λ p. g.O.Binary.value p.0 p.1) (zip l.fn.a l.b)) l.fn.a l.a l.place
