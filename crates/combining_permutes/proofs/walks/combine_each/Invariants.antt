use Rattle.combining_permutes.proofs.Cited.{map}
use Rattle.combining_permutes.proofs.Joined.{IsCombinedTo}
use Rattle.combining_permutes.proofs.walks.combine_each.Given as goal

abbrev pub invariant-loop-k : goal.invariant-loop-k
invariant-loop-k g l = IsCombinedTo g.M.Monoid.is_item g.M.Monoid.join l.index (map g.E.Reading.item l.source) l.fn.out l.k l.out
