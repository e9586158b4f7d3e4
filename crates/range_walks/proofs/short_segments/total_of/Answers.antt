use Rattle.range_walks.proofs.Cited.{arith}
use Rattle.range_walks.proofs.Segments.{length_here}
use Rattle.range_walks.proofs.short_segments.total_of.Goals as goal

pub overflow_cast-total : goal.overflow_cast-total
overflow_cast-total c = (length_here c.requires c.loop-length-test.true).fits

pub loop-length-preserved : goal.loop-length-preserved
loop-length-preserved c = omega (arith, (length_here c.requires c.loop-length-test.true).next, c.loop-length.invariant)
