use Rattle.scan_walks.proofs.Cited.{◌-◌, length, map, unsigned_abs}
use Rattle.scan_walks.proofs.InPlace.{Scanning}
use Rattle.scan_walks.proofs.short_in_place.scans_in_groups.Given as goal

abbrev pub invariant-loop-first : goal.invariant-loop-first
invariant-loop-first g l = Scanning g.M.Monoid.join g.M.Monoid.unit (map unsigned_abs l.lengths) l.fn.a l.a l.start l.first

-- how many segments are left
abbrev pub decreases-loop-first : goal.decreases-loop-first
decreases-loop-first g l = length l.lengths - l.first
