use Rattle.sparse_products.proofs.Cited.{arith, length_here}
use Rattle.sparse_products.proofs.row_counts.entries_of.Goals as goal

pub overflow_cast-entries : goal.overflow_cast-entries
overflow_cast-entries c = (length_here c.requires c.loop-length-test.true).fits

pub loop-length-preserved : goal.loop-length-preserved
loop-length-preserved c = let here = length_here c.requires c.loop-length-test.true in omega (arith, here.next, c.loop-length.invariant)
