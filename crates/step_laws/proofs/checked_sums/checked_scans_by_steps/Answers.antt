use Rattle.step_laws.proofs.AnyOrder.{in_any_order}
use Rattle.step_laws.proofs.CheckedScans.{look-fails, scans}
use Rattle.step_laws.specs.CheckedSteps.{LooksAtSums, ScansSums, Totals}
use Rattle.step_laws.proofs.checked_sums.checked_scans_by_steps.Goals as goal

pub returns : goal.returns
returns c = record {
  scanned = λ op start summed carried looked end is_add numbers few rooms first carries looks last.
      scans c.carry_fits.ensures op start summed carried looked end is_add numbers few rooms
      (in_any_order Totals start summed first) carries (in_any_order LooksAtSums carried looked looks) (in_any_order (ScansSums op) looked end last);
  faults = λ start summed carried k own numbers few first carries here fails.
      look-fails c.carry_fits.ensures start summed carried numbers few (in_any_order Totals start summed first) carries k own here fails;
}
