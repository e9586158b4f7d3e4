use Rattle.combining_permutes.proofs.Cited.{◌-◌, length, map}
use Rattle.combining_permutes.proofs.Joined.{IsJoinedTo}
use Rattle.combining_permutes.proofs.ranges.combine_range.Given as goal

abbrev pub invariant-loop-first : goal.invariant-loop-first
invariant-loop-first g l = IsJoinedTo g.M.Monoid.is_item g.M.Monoid.join l.index (map g.E.Reading.item l.source) l.fn.out l.lowest l.first l.out l.named

abbrev pub decreases-loop-first : goal.decreases-loop-first
decreases-loop-first g l = length l.index - l.first
