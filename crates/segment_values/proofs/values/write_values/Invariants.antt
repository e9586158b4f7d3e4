use Rattle.segment_values.proofs.Each.{IsWritten}
use Rattle.segment_values.proofs.values.write_values.Given as goal

abbrev pub invariant-loop-s : goal.invariant-loop-s
invariant-loop-s g l = IsWritten g.S.SegmentValue.value l.d l.a l.s l.first l.out
