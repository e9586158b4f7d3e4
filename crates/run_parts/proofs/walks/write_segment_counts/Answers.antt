use Rattle.std.proofs.Common.{◌∙◌, ◌<◌, ◌≤◌, ◌+◌, min, ap, arith, length, pos, rules, to_z, w32}
use Rattle.std.proofs.lemmas.Int.{to_z_pos}
use Rattle.run_lengths.proofs.Counted.{most_runs}
use Rattle.run_parts.proofs.InSegments.{counted_more, each_counted, segment_long, segment_of}
use Rattle.run_parts.proofs.walks.write_segment_counts.Goals as goal

pub overflow_cast-out : goal.overflow_cast-out
overflow_cast-out g c =
    let lt : c.loop-s.s < length c.args.lengths.now = omega (arith, c.count-s-end.ensures.value, c.loop-s-test.true) in
    let first = c.loop-s.first in let next = first + c.min.result in let a = c.args.a.now in
    let long = segment_long c.args.lengths.now a c.loop-s.s first c.length.result next c.loop-s.invariant.within lt c.length.ensures (ap (λ n. first + n) c.min.ensures) in
    let few : c.count_runs.result ≤ 2147483647 =
    omega (arith, c.count_runs.ensures, most_runs g.D.Binary.value (segment_of first next a), long, c.min.ensures, c.requires.in_limit) in
    search (rules, few)

pub loop-s-preserved : goal.loop-s-preserved
loop-s-preserved g c =
    let lt : c.loop-s.s < length c.args.lengths.now = omega (arith, c.count-s-end.ensures.value, c.loop-s-test.true) in
    let first = c.loop-s.first in let next = first + c.min.result in let a = c.args.a.now in
    let next_is = ap (λ n. first + n) c.min.ensures in
    let long = segment_long c.args.lengths.now a c.loop-s.s first c.length.result next c.loop-s.invariant.within lt c.length.ensures next_is in
    let count = to_z_pos w32 c.count_runs.result (omega (arith, c.count_runs.ensures, most_runs g.D.Binary.value (segment_of first next a), long, c.min.ensures, c.requires.in_limit)) in
    counted_more c.loop-s.invariant lt c.length.result next c.length.ensures next_is (omega (arith, c.loop-s.auto.out, c.requires.room)) (to_z w32 c.count_runs.result)
    (count ∙ ap pos c.count_runs.ensures)

pub returns : goal.returns
returns g c = each_counted c.loop-s.invariant (omega (arith, c.count-s-end.ensures.value, c.loop-s-test.false))
    (omega (arith, c.count-s-end.ensures.value, c.loop-s-test.false, c.loop-s.auto.out, c.requires.room))
