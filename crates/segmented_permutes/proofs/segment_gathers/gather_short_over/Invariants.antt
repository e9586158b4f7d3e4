use Rattle.std.proofs.Common.{◌≡◌, take}
use Rattle.permute_walks.specs.Indices.{elements_at}
use Rattle.segmented_permutes.proofs.segment_gathers.gather_short_over.Given as goal

abbrev pub invariant-loop-k : goal.invariant-loop-k
invariant-loop-k g l = take l.k l.out ≡ elements_at l.source (take l.k l.index)
