use Rattle.run_parts.proofs.InSegments.{AreWritten}
use Rattle.run_parts.proofs.walks.write_segment_runs.Given as goal

abbrev pub invariant-loop-s : goal.invariant-loop-s
invariant-loop-s g l = AreWritten g.D.Binary.value l.lengths l.a l.s l.first l.from l.end l.fn.own l.own
