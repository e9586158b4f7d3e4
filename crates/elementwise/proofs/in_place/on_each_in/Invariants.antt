use Rattle.elementwise.proofs.Cited.{map}
use Rattle.elementwise.proofs.InPlace.{IsWritten}
use Rattle.elementwise.proofs.in_place.on_each_in.Given as goal

abbrev pub invariant-loop-place : goal.invariant-loop-place
invariant-loop-place g l = IsWritten (map g.O.Single.value l.fn.a) l.fn.a l.a l.place
