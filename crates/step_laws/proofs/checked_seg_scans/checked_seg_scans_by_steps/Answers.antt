use Rattle.step_laws.proofs.AnyOrder.{in_any_order}
use Rattle.step_laws.proofs.CheckedSegScans.{checked_scans, look-fails}
use Rattle.step_laws.specs.CheckedSegmentSteps.{LooksAtSegSums, ScansSegSums, SegTotals}
use Rattle.step_laws.proofs.checked_seg_scans.checked_seg_scans_by_steps.Goals as goal

pub returns : goal.returns
returns c = record {
  scanned = λ op lengths segments start summed carried looked end is_add are cut numbers rooms first carries looks last.
      checked_scans c.carry_fits.ensures c.checked_segments_in_parts.ensures.scan_call op lengths segments start summed carried looked end is_add are cut numbers rooms
      (in_any_order SegTotals start summed first) carries (in_any_order LooksAtSegSums carried looked looks) (in_any_order (ScansSegSums op) looked end last);
  faults = λ lengths segments start summed carried k own are cut numbers rooms first carries here fails.
      look-fails c.carry_fits.ensures c.checked_segments_in_parts.ensures.scan_call lengths segments start summed carried are cut numbers rooms
      (in_any_order SegTotals start summed first) carries k own here fails;
}
