use Rattle.run_lengths.proofs.InSegments.{AreWritten}
use Rattle.run_lengths.proofs.segments.write_segments.Given as goal

abbrev pub invariant-loop-s : goal.invariant-loop-s
invariant-loop-s g l = AreWritten g.D.Binary.value g.N.RunNumber.number l.d l.a l.s l.first l.count l.fn.out l.out
