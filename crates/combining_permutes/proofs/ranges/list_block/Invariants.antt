use Rattle.combining_permutes.proofs.Cited.{◌≡◌, ◌+◌, ◌≤◌, take, those_between}
use Rattle.combining_permutes.proofs.ranges.list_block.Given as goal

abbrev pub invariant-loop-k : goal.invariant-loop-k
invariant-loop-k l = record {
  listed : take l.count l.list ≡ those_between l.index l.lowest (l.lowest + l.places) l.first l.k;
  in_length : l.count ≤ l.k;
}
