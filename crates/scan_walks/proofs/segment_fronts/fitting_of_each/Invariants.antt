use Rattle.scan_walks.proofs.Cited.{map, unsigned_abs}
use Rattle.scan_walks.proofs.FrontLaws.{FitSoFar}
use Rattle.scan_walks.proofs.segment_fronts.fitting_of_each.Given as goal

abbrev pub invariant-loop-length : goal.invariant-loop-length
invariant-loop-length l = FitSoFar (map unsigned_abs l.lengths) l.xs l.length-index l.done l.rest
