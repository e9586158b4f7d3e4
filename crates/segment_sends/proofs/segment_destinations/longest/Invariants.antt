use Rattle.std.proofs.Common.{◌<◌, ◌≤◌, ℕ, slice_index}
use Rattle.segment_sends.proofs.segment_destinations.longest.Given as goal

abbrev pub invariant-loop-length : goal.invariant-loop-length
invariant-loop-length l = (s : ℕ) → s < l.length-index → slice_index l.d s ≤ l.longest
