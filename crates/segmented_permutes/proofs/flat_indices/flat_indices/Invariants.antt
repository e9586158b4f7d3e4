use Rattle.std.proofs.Common.{◌≡◌, ◌+◌, length, vec_capacity, vec_len}
use Rattle.segmented_permutes.proofs.FlatIndices.{IsFlatThrough}
use Rattle.segmented_permutes.proofs.flat_indices.flat_indices.Given as goal

abbrev pub invariant-loop-s : goal.invariant-loop-s
invariant-loop-s g l = record {
  through : IsFlatThrough (g.D.SegmentDestinations.segments l.segments) l.index l.start l.s l.flat.items l.rest;
  as_long : vec_len l.flat + length l.rest ≡ length l.index;
  capacity : vec_capacity l.flat ≡ length l.index;
}
