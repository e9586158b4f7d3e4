use Rattle.std.proofs.Common.{◌<◌, arith, length, rules}
use Rattle.run_lengths.proofs.InSegments.{all_counted, all_written, next_within, segment_within, written_more}
use Rattle.run_lengths.proofs.segments.write_segments.Goals as goal

pub slice_bounds-write_runs-end : goal.slice_bounds-write_runs-end
slice_bounds-write_runs-end g c =
    let lt : c.loop-s.s < length c.args.d.now = omega (arith, c.count-s-end.ensures.value, c.loop-s-test.true) in
    let within = segment_within c.args.d.now c.args.a.now c.loop-s.s c.loop-s.first c.loop-s.invariant.counted.first_is lt c.length.result c.length.ensures c.requires.total in
    search (rules, within)

pub write_runs-count-requires-clause-fits : goal.write_runs-count-requires-clause-fits
write_runs-count-requires-clause-fits g c =
    let lt : c.loop-s.s < length c.args.d.now = omega (arith, c.count-s-end.ensures.value, c.loop-s-test.true) in
    omega (arith, next_within c.loop-s.invariant.counted lt c.length.result c.length.ensures, c.requires.fits, c.loop-s.invariant.as_long)

pub loop-s-preserved : goal.loop-s-preserved
loop-s-preserved g c =
    let lt : c.loop-s.s < length c.args.d.now = omega (arith, c.count-s-end.ensures.value, c.loop-s-test.true) in
    let e = c.write_runs-count.ensures in
    written_more c.loop-s.invariant c.requires.total lt c.length.result c.length.ensures c.write_runs-count.result c.write_runs-count.new.out e.end e.as_long e.written e.behind

pub returns-clause-count : goal.returns-clause-count
returns-clause-count g c = all_counted c.loop-s.invariant.counted (omega (arith, c.count-s-end.ensures.value, c.loop-s-test.false))

pub returns-clause-written : goal.returns-clause-written
returns-clause-written g c = all_written c.loop-s.invariant (omega (arith, c.count-s-end.ensures.value, c.loop-s-test.false))
