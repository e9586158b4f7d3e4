use Rattle.combining_permutes.proofs.Cited.{◌≡◌, ◌+◌, ◌≤◌, length, those_between}
use Rattle.combining_permutes.proofs.ranges.count_block.Given as goal

abbrev pub invariant-loop-k : goal.invariant-loop-k
invariant-loop-k l = record {
  count_is : l.count ≡ length (those_between l.index l.lowest (l.lowest + l.places) l.first l.k);
  in_length : l.count ≤ l.k;
}
