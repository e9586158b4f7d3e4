use Rattle.run_lengths.proofs.InSegments.{AreCounted}
use Rattle.run_lengths.proofs.segments.count_segments.Given as goal

abbrev pub invariant-loop-s : goal.invariant-loop-s
invariant-loop-s g l = AreCounted g.D.Binary.value l.d l.a l.s l.first l.count
