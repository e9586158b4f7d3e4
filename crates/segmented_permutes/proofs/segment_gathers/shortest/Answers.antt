use Rattle.std.proofs.Common.{◌≤◌, arith}
use Rattle.segment_sends.proofs.Lengths.{length_read, lengths_more}
use Rattle.segmented_permutes.proofs.segment_gathers.shortest.Goals as goal

pub loop-length-preserved : goal.loop-length-preserved
loop-length-preserved c =
    let row = c.lengths-length-items in
    let read = length_read row.result.now c.args.d.now row.ensures.value row.ensures.total c.loop-length.length-index c.loop-length-test.true c.cast_unsigned.result c.cast_unsigned.ensures in
    lengths_more (λ n. c.min-shortest.result ≤ n) c.args.d.now c.loop-length.length-index
    (λ s below. omega (arith, c.loop-length.invariant s below, c.min-shortest.ensures)) (omega (arith, read, c.min-shortest.ensures))
