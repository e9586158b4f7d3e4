use Rattle.scan_walks.proofs.Cited.{◌-◌, length, map, unsigned_abs}
use Rattle.scan_walks.proofs.FrontLaws.{FitSoFar}
use Rattle.scan_walks.proofs.segment_fronts.fitting_of_scans.Given as goal

abbrev pub invariant-loop-first : goal.invariant-loop-first
invariant-loop-first l = FitSoFar (map unsigned_abs l.lengths) l.xs l.first l.done l.rest

-- how many segments are left
abbrev pub decreases-loop-first : goal.decreases-loop-first
decreases-loop-first l = length l.lengths - l.first
