use Rattle.scan_walks.proofs.Cited.{arith, to_z-of_z, fold_more, length_here}
use Rattle.scan_walks.proofs.segment_fronts.extent_of.Goals as goal

pub overflow_cast-total : goal.overflow_cast-total
overflow_cast-total c = (length_here c.requires c.loop-length-test.true).fits

pub loop-length-preserved : goal.loop-length-preserved
loop-length-preserved c =
    let here = length_here c.requires c.loop-length-test.true in
    record {
      total = omega (arith, here.next, c.loop-length.invariant.total);
      longest = grind (arith, to_z-of_z, fold_more);
    }
