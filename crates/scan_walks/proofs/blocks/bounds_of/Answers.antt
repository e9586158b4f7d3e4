use Rattle.scan_walks.proofs.Cited.{arith, to_z-of_z, fold_more}
use Rattle.scan_walks.proofs.blocks.bounds_of.Goals as goal

pub loop-x-preserved : goal.loop-x-preserved
loop-x-preserved c = record {
  least = grind (arith, to_z-of_z, fold_more);
  greatest = grind (arith, to_z-of_z, fold_more);
  sum = grind (arith, to_z-of_z, fold_more);
}
