use Rattle.permute_walks.proofs.Cited.{◌≡◌, ◌+◌, ◌≤◌, take, places_between}
use Rattle.permute_walks.proofs.ranges.list_block.Given as goal

abbrev pub invariant-loop-k : goal.invariant-loop-k
invariant-loop-k g l = record {
  listed : take l.count l.list ≡ places_between (g.D.Destinations.destinations l.destinations) l.lowest (l.lowest + l.places) l.first l.k;
  in_length : l.count ≤ l.k;
}
