use Rattle.range_walks.proofs.Cited.{◌≡◌, take, map, unsigned_abs, sum}
use Rattle.range_walks.proofs.short_segments.total_of.Given as goal

abbrev pub invariant-loop-length : goal.invariant-loop-length
invariant-loop-length l = l.total ≡ sum (take l.length-index (map unsigned_abs l.lengths))
