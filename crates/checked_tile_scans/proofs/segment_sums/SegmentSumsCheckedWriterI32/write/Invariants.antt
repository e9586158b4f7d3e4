use Rattle.checked_tile_scans.proofs.Cited.{◌≡◌, ◌-◌, map, fitting, wrap, first_without, part, IsWrittenPart}
use Rattle.checked_tile_scans.specs.Checked.{segment_totals}
use Rattle.checked_tile_scans.proofs.segment_sums.SegmentSumsCheckedWriterI32.write.Given as goal

abbrev pub invariant-loop-run : goal.invariant-loop-run
invariant-loop-run g l =
    let totals = segment_totals l.self.segments.now l.self.vector.now.elements.now in
    record {
      written : IsWrittenPart (map wrap totals) l.fn.run l.run;
      outside : l.outside ≡ first_without l.fn.run.first (part (map fitting totals) l.fn.run.first (l.fn.run.room - l.run.room));
    }

abbrev pub decreases-loop-run : goal.decreases-loop-run
decreases-loop-run g l = l.run.room
