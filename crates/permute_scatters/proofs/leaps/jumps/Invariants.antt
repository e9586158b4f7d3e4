use Rattle.std.proofs.Common.{◌-◌, ◌*◌, ◌≤◌}
use Rattle.cvl_base.specs.Limits.{most_places}
use Rattle.permute_scatters.proofs.leaps.jumps.Given as goal

abbrev pub invariant-loop-k : goal.invariant-loop-k
invariant-loop-k l = record {
  far : l.far ≤ l.k;
  within : l.k ≤ 2 * most_places;
}

abbrev pub decreases-loop-k : goal.decreases-loop-k
decreases-loop-k l = l.count - l.k
