use Rattle.std.proofs.Common.{◌≡◌, ◌≤◌, drop, length, take}
use Rattle.cvl_base.specs.Limits.{most_places}
use Rattle.segment_parts.proofs.StartSums.{last_sums}
use Rattle.segment_parts.proofs.checked_reduces.write_sums.Given as goal

abbrev pub invariant-loop-s : goal.invariant-loop-s
invariant-loop-s l = record {
  few : length l.rest ≤ most_places;
  left : last_sums l.behind (drop l.s l.lengths) l.rest ≡ drop l.s (last_sums l.behind l.lengths l.a);
  written : take l.s l.out ≡ take l.s (last_sums l.behind l.lengths l.a);
}
