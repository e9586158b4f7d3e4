use Rattle.run_parts.proofs.InSegments.{AreCounted}
use Rattle.run_parts.proofs.walks.write_segment_counts.Given as goal

abbrev pub invariant-loop-s : goal.invariant-loop-s
invariant-loop-s g l = AreCounted g.D.Binary.value l.lengths l.a l.s l.first l.out
