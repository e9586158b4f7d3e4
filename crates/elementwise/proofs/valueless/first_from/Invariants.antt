use Rattle.elementwise.proofs.Cited.{◌≡◌}
use Rattle.elementwise.specs.Valueless.{least_without}
use Rattle.elementwise.proofs.valueless.first_from.Given as goal

abbrev pub invariant-loop-place : goal.invariant-loop-place
invariant-loop-place g l = least_without g.O.PartialBinary.value l.a l.b l.from ≡ least_without g.O.PartialBinary.value l.a l.b l.place
