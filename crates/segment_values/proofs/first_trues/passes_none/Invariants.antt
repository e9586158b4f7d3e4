use Rattle.std.proofs.Common.{◌≡◌, not, take}
use Rattle.std.specs.List.{list_all}
use Rattle.segment_values.proofs.first_trues.passes_none.Given as goal

abbrev pub invariant-loop-x : goal.invariant-loop-x
invariant-loop-x g l = l.none ≡ list_all (λ x. not (g.T.Single.value x)) (take l.x-index l.xs)
