use Rattle.permute_walks.proofs.Cited.{◌-◌, IsWrittenTo}
use Rattle.permute_walks.proofs.ranges.write_range.Given as goal

abbrev pub invariant-loop-first : goal.invariant-loop-first
invariant-loop-first g l = IsWrittenTo l.source (g.D.Destinations.destinations l.destinations) l.lowest l.fn.out l.first l.out l.marks

abbrev pub decreases-loop-first : goal.decreases-loop-first
decreases-loop-first g l = l.places - l.first
