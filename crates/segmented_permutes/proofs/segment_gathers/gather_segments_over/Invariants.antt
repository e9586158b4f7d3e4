use Rattle.std.proofs.Common.{◌≡◌, ◌++◌, None, drop, length, take}
use Rattle.fresh.specs.Places.{somes}
use Rattle.segdes.specs.Starts.{start_of}
use Rattle.segmented_permutes.specs.Backs.{outside_from, values_at}
use Rattle.segmented_permutes.proofs.segment_gathers.gather_segments_over.Given as goal

abbrev pub invariant-loop-s : goal.invariant-loop-s
invariant-loop-s g l = record {
  first_is : l.first ≡ start_of l.index_d l.s;
  start_is : l.start ≡ start_of l.source_d l.s;
  as_long : length l.out ≡ length l.index;
  right : None ≡ outside_from (start_of l.index_d l.s) (drop l.s l.source_d) (drop l.s l.index_d) (drop (start_of l.index_d l.s) l.index);
  so_far : take l.first l.out ++ somes (drop l.first (values_at l.source_d l.source l.index_d l.index)) ≡ somes (values_at l.source_d l.source l.index_d l.index);
}
