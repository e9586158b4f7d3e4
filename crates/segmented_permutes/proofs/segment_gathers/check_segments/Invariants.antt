use Rattle.std.proofs.Common.{◌≡◌, drop}
use Rattle.segdes.specs.Starts.{start_of}
use Rattle.segmented_permutes.specs.Backs.{outside_from}
use Rattle.segmented_permutes.proofs.segment_gathers.check_segments.Given as goal

abbrev pub invariant-loop-s : goal.invariant-loop-s
invariant-loop-s l = record {
  first_is : l.first ≡ start_of l.index_d l.s;
  so_far : outside_from 0 l.source_d l.index_d l.index ≡ outside_from (start_of l.index_d l.s) (drop l.s l.source_d) (drop l.s l.index_d) (drop (start_of l.index_d l.s) l.index);
}
