use Rattle.permute_walks.proofs.Cited.{◌≡◌, ◌+◌, ◌≤◌, length, places_between}
use Rattle.permute_walks.proofs.ranges.count_block.Given as goal

abbrev pub invariant-loop-k : goal.invariant-loop-k
invariant-loop-k g l = record {
  count_is : l.count ≡ length (places_between (g.D.Destinations.destinations l.destinations) l.lowest (l.lowest + l.places) l.first l.k);
  in_length : l.count ≤ l.k;
}
