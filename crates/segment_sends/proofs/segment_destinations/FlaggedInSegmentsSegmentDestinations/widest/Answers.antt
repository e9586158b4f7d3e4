use Rattle.std.proofs.Common.{◌<◌, ap, arith, get_or, length}
use Rattle.segment_sends.proofs.Through.{flagged_width, length-flagged}
use Rattle.segment_sends.proofs.segment_destinations.FlaggedInSegmentsSegmentDestinations.widest.Goals as goal

pub returns : goal.returns
returns g c = λ s lt.
    let segments = c.args.self.now in
    let in_lengths : s < length segments.d.now = omega (arith, lt, length-flagged segments.d.now segments.index.now segments.flags.now) in
    omega (
      arith,
      flagged_width segments.d.now segments.index.now segments.flags.now s in_lengths,
      ap (λ d. get_or d s 0) c.as_lengths.ensures,
      c.longest.ensures s (omega (arith, in_lengths, ap length c.as_lengths.ensures)),
    )
