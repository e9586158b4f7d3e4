use Rattle.segdes.proofs.Checked.{AreNatural}
use Rattle.segdes.proofs.check.fault_of.Given as goal

abbrev pub invariant-loop-place : goal.invariant-loop-place
invariant-loop-place l = AreNatural l.place l.numbers
