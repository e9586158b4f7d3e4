use Rattle.permute_walks.proofs.Cited.{◌≡◌, ◌≤◌, take, count_destinations}
use Rattle.permute_walks.proofs.owners.count_destinations.Given as goal

abbrev pub invariant-loop-k : goal.invariant-loop-k
invariant-loop-k g l = record {
  count_is : l.count ≡ count_destinations (take l.k (g.D.Destinations.destinations l.destinations));
  at_most : l.count ≤ l.k;
}
