use Rattle.std.proofs.Common.{◌<◌, ◌+◌, ap, arith, length}
use Rattle.run_parts.proofs.InSegments.{all_counted, all_written, written_more}
use Rattle.run_parts.proofs.walks.write_segment_runs.Goals as goal

pub loop-s-preserved : goal.loop-s-preserved
loop-s-preserved g c =
    let lt : c.loop-s.s < length c.args.lengths.now = omega (arith, c.count-s-end.ensures.value, c.loop-s-test.true) in
    let first = c.loop-s.first in let e = c.write_runs-end.ensures in
    written_more c.loop-s.invariant lt c.length.result (first + c.min.result) c.length.ensures (ap (λ n. first + n) c.min.ensures) c.write_runs-end.result c.write_runs-end.new.own
    e.end e.as_long e.written e.behind

pub returns-clause-end : goal.returns-clause-end
returns-clause-end g c = all_counted c.loop-s.invariant (omega (arith, c.count-s-end.ensures.value, c.loop-s-test.false))

pub returns-clause-written : goal.returns-clause-written
returns-clause-written g c = all_written c.loop-s.invariant (omega (arith, c.count-s-end.ensures.value, c.loop-s-test.false))
