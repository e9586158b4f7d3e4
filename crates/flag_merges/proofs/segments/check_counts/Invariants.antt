use Rattle.std.proofs.Common.{◌≡◌, ℕ, ◌<◌, [], true, get_or, sum, take}
use Rattle.cvl_base.specs.Nests.{cut_of}
use Rattle.flag_merges.specs.Merges.{are_counts}
use Rattle.flag_merges.proofs.segments.check_counts.Given as goal

abbrev pub invariant-loop-s : goal.invariant-loop-s
invariant-loop-s l = record {
  first_is : l.first ≡ sum (take l.s l.d);
  fit : (k : ℕ) → k < l.s → are_counts (get_or (cut_of l.d l.flags) k []) (get_or l.true_d k 0) (get_or l.false_d k 0) ≡ true;
}
