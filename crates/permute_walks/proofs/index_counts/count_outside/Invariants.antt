use Rattle.permute_walks.proofs.Cited.{◌≡◌, take, count_outside}
use Rattle.permute_walks.proofs.index_counts.count_outside.Given as goal

abbrev pub invariant-loop-i : goal.invariant-loop-i
invariant-loop-i l = l.count ≡ count_outside l.places (take l.i-index l.index)
