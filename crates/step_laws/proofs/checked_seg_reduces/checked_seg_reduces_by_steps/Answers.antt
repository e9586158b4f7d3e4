use Rattle.step_laws.proofs.AnyOrder.{in_any_order}
use Rattle.step_laws.proofs.CheckedSegReduces.{checked_reduces, look-fails}
use Rattle.step_laws.specs.CheckedReduceSteps.{HeadTotals, LooksAtStarts, SumsStarts}
use Rattle.step_laws.proofs.checked_seg_reduces.checked_seg_reduces_by_steps.Goals as goal

pub returns : goal.returns
returns c = record {
  summed = λ lengths segments start told known looked end is are numbers rooms first goes looks last.
      checked_reduces c.carry_fits.ensures c.checked_segments_in_parts.ensures.reduce_call lengths segments start told known looked end is are numbers rooms
      (in_any_order HeadTotals start told first) goes (in_any_order LooksAtStarts known looked looks) (in_any_order SumsStarts looked end last);
  faults = λ lengths segments start told known k own is are numbers rooms first goes here fails.
      look-fails c.carry_fits.ensures c.checked_segments_in_parts.ensures.reduce_call lengths segments start told known is are numbers rooms
      (in_any_order HeadTotals start told first) goes k own here fails;
}
