use Rattle.segdes.proofs.Checked.{IsUnsignedTotal}
use Rattle.segdes.proofs.check.unsigned_total.Given as goal

abbrev pub invariant-loop-number : goal.invariant-loop-number
invariant-loop-number l = IsUnsignedTotal l.number-index l.numbers l.total
