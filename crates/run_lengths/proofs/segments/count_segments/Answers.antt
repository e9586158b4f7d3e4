use Rattle.std.proofs.Common.{◌+◌, ◌<◌, ◌≤◌, ap, arith, length, rules}
use Rattle.run_lengths.proofs.InSegments.{all_counted, counted_more, most_in, next_within}
use Rattle.run_lengths.proofs.segments.count_segments.Goals as goal

pub overflow_add-count : goal.overflow_add-count
overflow_add-count g c =
    let lt : c.loop-s.s < length c.args.d.now = omega (arith, c.count-s-end.ensures.value, c.loop-s-test.true) in
    let within = next_within c.loop-s.invariant lt c.length.result c.length.ensures in
    let fits : c.loop-s.count + c.count_runs-count.result ≤ 2147483647 =
    omega (arith, within, c.count_runs-count.ensures, most_in g.D.Binary.value c.args.d.now c.args.a.now, c.requires.in_limit) in
    search (rules, fits)

pub loop-s-preserved : goal.loop-s-preserved
loop-s-preserved g c =
    let lt : c.loop-s.s < length c.args.d.now = omega (arith, c.count-s-end.ensures.value, c.loop-s-test.true) in
    counted_more c.loop-s.invariant lt c.length.result c.length.ensures (c.loop-s.count + c.count_runs-count.result) (ap (λ m. c.loop-s.count + m) c.count_runs-count.ensures)

pub returns : goal.returns
returns g c = all_counted c.loop-s.invariant (omega (arith, c.count-s-end.ensures.value, c.loop-s-test.false))
