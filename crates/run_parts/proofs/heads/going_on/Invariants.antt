use Rattle.std.proofs.Common.{◌≡◌, ◌-◌, ◌≤◌, drop, length}
use Rattle.run_lengths.specs.Runs.{runs_from}
use Rattle.run_parts.proofs.heads.going_on.Given as goal

abbrev pub invariant-loop-count : goal.invariant-loop-count
invariant-loop-count g l = record {
  within : l.count ≤ length l.xs;
  same : drop 1 (runs_from g.D.Binary.value l.fn.front l.xs) ≡ drop 1 (runs_from g.D.Binary.value l.last (drop l.count l.xs));
}

abbrev pub decreases-loop-count : goal.decreases-loop-count
decreases-loop-count g l = length l.xs - l.count
