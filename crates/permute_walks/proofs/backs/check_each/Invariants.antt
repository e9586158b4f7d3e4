use Rattle.permute_walks.proofs.Cited.{◌≡◌, ◌+◌, drop, first_outside}
use Rattle.permute_walks.proofs.backs.check_each.Given as goal

abbrev pub invariant-loop-k : goal.invariant-loop-k
invariant-loop-k l = first_outside l.first l.places l.index ≡ first_outside (l.first + l.k) l.places (drop l.k l.index)
