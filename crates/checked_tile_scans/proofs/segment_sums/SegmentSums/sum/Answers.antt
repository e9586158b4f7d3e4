use Rattle.checked_tile_scans.proofs.Cited.{◌≡◌, ◌+◌, ◌∙◌, to_z, of_z, w64, length, arith, to_z-of_z, option_copied, sum, total_agrees}
use Rattle.checked_tile_scans.proofs.SegmentTotals.{segment_open, segment_ranged}
use Rattle.checked_tile_scans.proofs.segment_sums.SegmentSums.sum.Goals as goal

pub total_between-requires-clause-open : goal.total_between-requires-clause-open
total_between-requires-clause-open g c =
    let sums = c.args.self.now in
    let v = sums.vector.now in
    let d = sums.segments.now in
    let start = c.start-start.result in
    let agrees : sum d ≡ length v.elements.now = total_agrees (option_copied v.segments) d (length v.elements.now) sums.cut v.agrees in
    λ place begun ends.
    segment_open (option_copied v.segments) d v.elements.now c.args.s start place sums.cut (omega (arith, ends, c.start-start.ensures.within, c.length.ensures, agrees))
    c.requires c.start-start.ensures.value begun (omega (arith, ends, c.length.ensures))

pub returns : goal.returns
returns g c =
    let sums = c.args.self.now in
    let start = c.start-start.result in
    let back : to_z w64 (of_z w64 c.total_between.result) ≡ c.total_between.result = grind (arith, to_z-of_z) in
    back
    ∙ c.total_between.ensures
    ∙ segment_ranged sums.segments.now sums.vector.now.elements.now c.args.s c.requires start (start + c.length.result) c.start-start.ensures.value (omega (arith, c.length.ensures))
