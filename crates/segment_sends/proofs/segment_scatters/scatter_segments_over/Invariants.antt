use Rattle.std.proofs.Common.{◌≡◌, length, take}
use Rattle.segdes.specs.Starts.{start_of}
use Rattle.segment_sends.specs.SegmentDestinations.{all_in_segments}
use Rattle.segment_sends.specs.Shares.{permuted}
use Rattle.segment_sends.proofs.segment_scatters.scatter_segments_over.Given as goal

abbrev pub invariant-loop-s : goal.invariant-loop-s
invariant-loop-s g l = record {
  first_is : l.first ≡ start_of l.d l.s;
  as_long : length l.out ≡ length l.index;
  so_far : take l.first l.out ≡ take l.first (permuted l.source (all_in_segments l.d l.d l.index) l.source);
}
