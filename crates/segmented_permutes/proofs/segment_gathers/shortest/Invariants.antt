use Rattle.std.proofs.Common.{◌<◌, ◌≤◌, ℕ, slice_index}
use Rattle.segmented_permutes.proofs.segment_gathers.shortest.Given as goal

abbrev pub invariant-loop-length : goal.invariant-loop-length
invariant-loop-length l = (s : ℕ) → s < l.length-index → l.shortest ≤ slice_index l.d s
