use Rattle.std.proofs.Common.{◌≡◌}
use Rattle.segdes.specs.Starts.{start_of}
use Rattle.segment_sends.specs.SegmentDestinations.{fault_from, all_in_segments}
use Rattle.segment_sends.specs.Shares.{fault_behind}
use Rattle.segment_sends.proofs.segment_scatters.are_permutations_by.Given as goal

abbrev pub invariant-loop-s : goal.invariant-loop-s
invariant-loop-s l = record {
  first_is : l.first ≡ start_of l.d l.s;
  so_far : fault_from 0 (all_in_segments l.d l.d l.index) ≡ fault_behind (all_in_segments l.d l.d l.index) l.s;
}
