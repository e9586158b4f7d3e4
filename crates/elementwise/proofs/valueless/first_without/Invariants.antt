use Rattle.elementwise.proofs.Cited.{◌≡◌, ◌≤◌, length, ◌-◌}
use Rattle.elementwise.specs.Valueless.{least_without}
use Rattle.elementwise.proofs.valueless.first_without.Given as goal

abbrev pub invariant-loop-start : goal.invariant-loop-start
invariant-loop-start g l = record {
  within : l.start ≤ length l.a;
  least : least_without g.O.PartialBinary.value l.a l.b 0 ≡ least_without g.O.PartialBinary.value l.a l.b l.start;
}

abbrev pub decreases-loop-start : goal.decreases-loop-start
decreases-loop-start g l = length l.a - l.start
