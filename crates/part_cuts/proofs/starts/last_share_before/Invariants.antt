use Rattle.std.proofs.Common.{◌+◌, ◌<◌, ◌≤◌, ℕ, get_or, length}
use Rattle.part_cuts.proofs.starts.last_share_before.Given as goal

abbrev pub invariant-loop-share : goal.invariant-loop-share
invariant-loop-share l = record {
  within : l.share + 1 < length l.places;
  last : (k : ℕ) → l.share < k → k + 1 < length l.places → l.place ≤ get_or l.places k 0;
}

abbrev pub decreases-loop-share : goal.decreases-loop-share
decreases-loop-share l = l.share
