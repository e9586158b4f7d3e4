use Rattle.std.proofs.Common.{◌≡◌, ◌≤◌, ◌-◌, length, not, take, true}
use Rattle.std.specs.List.{list_all}
use Rattle.segment_values.proofs.first_trues.count_passed_over.Given as goal

abbrev pub invariant-loop-over : goal.invariant-loop-over
invariant-loop-over g l = record {
  within : l.over ≤ length l.xs;
  none : list_all (λ x. not (g.T.Single.value x)) (take l.over l.xs) ≡ true;
}

abbrev pub decreases-loop-over : goal.decreases-loop-over
decreases-loop-over g l = length l.xs - l.over
