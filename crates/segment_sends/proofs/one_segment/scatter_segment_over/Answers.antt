use Rattle.segment_sends.proofs.OneSegment.{one_sent}
use Rattle.segment_sends.proofs.one_segment.scatter_segment_over.Goals as goal

pub returns-then-index-eq1 : goal.returns-then-index-eq1
returns-then-index-eq1 g c =
    one_sent c.args.source.now c.args.out.now c.args.index.now c.index-source-0.result c.if-index-eq1.true c.requires.as_long.0 c.requires.as_long.1 c.requires.apart c.index-source-0.is
