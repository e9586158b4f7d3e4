use Rattle.range_walks.proofs.Cited.{◌-◌, length, map, unsigned_abs}
use Rattle.range_walks.proofs.WalksLeft.{ScansLeft}
use Rattle.range_walks.proofs.short_scans.scans_of_groups.Given as goal

abbrev pub invariant-loop-first : goal.invariant-loop-first
invariant-loop-first g l = let m = g.M.Monoid in ScansLeft m.join m.unit m.is_item g.E.Reading.item (map unsigned_abs l.lengths) l.xs l.fn.run l.first l.rest l.run

-- how many segments are left
abbrev pub decreases-loop-first : goal.decreases-loop-first
decreases-loop-first g l = length l.lengths - l.first
