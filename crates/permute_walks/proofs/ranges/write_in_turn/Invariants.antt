use Rattle.permute_walks.proofs.Cited.{◌+◌, ◌≤◌, length, set}
use Rattle.permute_walks.proofs.Written.{Leaves}
use Rattle.permute_walks.proofs.ranges.write_in_turn.Given as goal

abbrev pub invariant-loop-k : goal.invariant-loop-k
invariant-loop-k g l = record {
  holds : Leaves l.source (g.D.Destinations.destinations l.destinations) l.lowest (length l.fn.out) l.first l.fn.out l.fn.marks (l.first + l.k) l.out (set l.marks l.held.0 l.held.1);
  in_length : l.count ≤ l.k;
}
