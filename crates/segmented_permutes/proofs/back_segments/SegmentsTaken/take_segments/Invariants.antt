use Rattle.std.proofs.Common.{◌≡◌}
use Rattle.segdes.specs.Starts.{start_of}
use Rattle.segmented_permutes.specs.Backs.{values_at}
use Rattle.segmented_permutes.proofs.Listed.{IsTaken}
use Rattle.segmented_permutes.proofs.back_segments.SegmentsTaken.take_segments.Given as goal

abbrev pub invariant-loop-s : goal.invariant-loop-s
invariant-loop-s g l = record {
  taken : IsTaken (values_at l.self.source_d.now l.self.source.now l.self.index_d.now l.self.index.now) l.self.other l.self.index_d.now l.fn.run l.s l.run l.found;
  start : l.start ≡ start_of l.self.source_d.now l.s;
  end : l.end ≡ start_of l.self.index_d.now l.s;
}
