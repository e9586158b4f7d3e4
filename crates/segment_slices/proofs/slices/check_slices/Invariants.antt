use Rattle.std.proofs.Common.{◌≡◌, ℕ, ◌*◌, ◌<◌, ◌≤◌, true, length, take, get_or, pos}
use Rattle.std.specs.List.{sum_by}
use Rattle.cvl_base.specs.Limits.{most_places}
use Rattle.segment_slices.specs.Slices.{is_slice, slices_of}
use Rattle.segment_slices.proofs.slices.check_slices.Given as goal

abbrev pub invariant-loop-s : goal.invariant-loop-s
invariant-loop-s g l = record {
  within : (k : ℕ) → k < l.s → is_slice (length l.source) (get_or l.starts k (pos 0)) (get_or l.lengths k (pos 0)) ≡ true;
  total_is : l.total ≡ sum_by length (take l.s (slices_of l.source l.starts l.lengths));
  few : l.total ≤ l.s * most_places;
}
