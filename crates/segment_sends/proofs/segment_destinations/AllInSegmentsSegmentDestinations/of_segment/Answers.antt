use Rattle.std.proofs.Common.{arith}
use Rattle.segment_sends.proofs.Ranges.{segment_of_range}
use Rattle.segment_sends.proofs.Through.{length-all}
use Rattle.segment_sends.proofs.segment_destinations.AllInSegmentsSegmentDestinations.of_segment.Goals as goal

pub returns : goal.returns
returns g c =
    let segments = c.args.self.now in
    segment_of_range segments.d.now segments.index.now c.requires.cut.0 c.args.s c.start-first.result c.length.result c.length-2.result
    (omega (arith, length-all segments.d.now segments.result_d.now segments.index.now c.requires.cut.1, c.requires.within))
    c.start-first.ensures.value c.length.ensures segments.result_d.now c.requires.cut.1 c.length-2.ensures
