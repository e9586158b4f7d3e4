use Rattle.std.proofs.Common.{◌≡◌, ◌+◌, ◌≤◌, drop, length}
use Rattle.cvl_base.specs.Limits.{most_places}
use Rattle.scan_walks.specs.Fronts.{fitting_front}
use Rattle.segment_parts.proofs.StartSums.{last_sums}
use Rattle.segment_parts.proofs.checked_reduces.fitting_sums.Given as goal

abbrev pub invariant-loop-s : goal.invariant-loop-s
invariant-loop-s l = record {
  few : length l.rest ≤ most_places;
  front : fitting_front (last_sums l.behind l.lengths l.a) ≡ l.s + fitting_front (last_sums l.behind (drop l.s l.lengths) l.rest);
}
