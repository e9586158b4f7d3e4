use Rattle.scan_walks.proofs.Cited.{map, unsigned_abs}
use Rattle.scan_walks.proofs.InPlace.{Scanning}
use Rattle.scan_walks.proofs.in_place.scans_in_turn.Given as goal

abbrev pub invariant-loop-length : goal.invariant-loop-length
invariant-loop-length g l = Scanning g.M.Monoid.join g.M.Monoid.unit (map unsigned_abs l.lengths) l.fn.a l.a l.start l.length-index
