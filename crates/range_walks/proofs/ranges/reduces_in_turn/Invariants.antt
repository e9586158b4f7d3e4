use Rattle.range_walks.proofs.Cited.{map, unsigned_abs}
use Rattle.range_walks.proofs.WalksLeft.{ReducesLeft}
use Rattle.range_walks.proofs.ranges.reduces_in_turn.Given as goal

abbrev pub invariant-loop-length : goal.invariant-loop-length
invariant-loop-length g l = let m = g.M.Monoid in ReducesLeft m.join m.unit m.is_item g.E.Reading.item (map unsigned_abs l.lengths) l.xs l.fn.run l.length-index l.rest l.run
