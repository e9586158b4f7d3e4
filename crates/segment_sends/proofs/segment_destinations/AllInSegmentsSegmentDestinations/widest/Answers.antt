use Rattle.std.proofs.Common.{◌<◌, ℕ, ℤ, List, Option, ap, arith, get_or, length}
use Rattle.segment_sends.proofs.Through.{length-all, segment_at}
use Rattle.segment_sends.proofs.segment_destinations.AllInSegmentsSegmentDestinations.widest.Goals as goal

pub returns : goal.returns
returns g c = λ s lt.
    let segments = c.args.self.now in
    let in_lengths : s < length segments.d.now = omega (arith, lt, length-all segments.d.now segments.result_d.now segments.index.now c.requires.1) in
    omega (
      arith,
      ap (λ (p : ℕ × List (Option ℤ)). p.0) (segment_at segments.d.now segments.result_d.now segments.index.now c.requires.1 s in_lengths),
      ap (λ d. get_or d s 0) c.as_lengths.ensures,
      c.longest.ensures s (omega (arith, in_lengths, c.requires.1, ap length c.as_lengths.ensures)),
    )
