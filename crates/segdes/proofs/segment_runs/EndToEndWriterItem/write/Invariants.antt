use Rattle.segdes.proofs.ListRuns.{Written}
use Rattle.segdes.proofs.segment_runs.EndToEndWriterItem.write.Given as goal

abbrev pub invariant-loop-s : goal.invariant-loop-s
invariant-loop-s g l = Written (g.S.Segments.lists l.self.segments) l.d l.fn.run l.s 0 l.run
