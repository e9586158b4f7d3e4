use Rattle.std.proofs.Common.{arith}
use Rattle.segment_values.proofs.Each.{all_written, one_more}
use Rattle.segment_values.proofs.values.write_values.Goals as goal

pub loop-s-preserved : goal.loop-s-preserved
loop-s-preserved g c =
    one_more c.loop-s.invariant c.requires.total (omega (arith, c.count-s-end.ensures.value, c.loop-s-test.true)) c.length.result c.length.ensures c.of.result c.of.ensures

pub returns : goal.returns
returns g c = all_written c.loop-s.invariant c.requires.total (omega (arith, c.count-s-end.ensures.value, c.loop-s-test.false))
