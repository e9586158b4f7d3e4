use Rattle.std.proofs.Common.{arith}
use Rattle.segment_sends.proofs.Ranges.{flagged_segment_of_range}
use Rattle.segment_sends.proofs.Through.{length-flagged}
use Rattle.segment_sends.proofs.segment_destinations.FlaggedInSegmentsSegmentDestinations.of_segment.Goals as goal

pub returns : goal.returns
returns g c =
    let segments = c.args.self.now in
    flagged_segment_of_range segments.d.now segments.index.now c.requires.cut.0 c.args.s c.start-first.result c.length.result c.true_count.result
    (omega (arith, length-flagged segments.d.now segments.index.now segments.flags.now, c.requires.within))
    c.start-first.ensures.value c.length.ensures segments.flags.now c.requires.cut.1 c.true_count.ensures.value
