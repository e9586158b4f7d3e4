use Rattle.std.proofs.Common.{◌≡◌, ◌+◌, ◌++◌, map, take, vec_capacity, vec_len}
use Rattle.segmented_permutes.specs.FlatIndices.{flat_index}
use Rattle.segmented_permutes.proofs.flat_indices.push_flat.Given as goal

abbrev pub invariant-loop-index : goal.invariant-loop-index
invariant-loop-index g l = record {
  items : l.flat.items ≡ l.fn.flat.items ++ map (flat_index l.start l.places) (take l.index-index l.segment);
  as_long : vec_len l.flat ≡ vec_len l.fn.flat + l.index-index;
  capacity : vec_capacity l.flat ≡ vec_capacity l.fn.flat;
}
