use Rattle.std.proofs.Common.{arith, refl, rules}
use Rattle.segment_slices.proofs.Paired.{append_long, pair_at, pair_fits, paired_more, pairs_many}
use Rattle.segment_slices.proofs.Written.{written_all, written_none}
use Rattle.segment_slices.proofs.pairs.write_pairs.Goals as goal

pub loop-s-init : goal.loop-s-init
loop-s-init g c = record {
  first_is = refl;
  second_is = refl;
  end_is = refl;
  written = written_none _ c.args.out.now
      (omega (
        arith,
        c.requires.as_long,
        c.requires.total,
        c.requires.other_total,
        append_long c.args.a.now c.args.d.now c.args.b.now c.args.other.now c.requires.total c.requires.other_total c.requires.count,
      ));
}

pub copy_slice-requires-clause-within : goal.copy_slice-requires-clause-within
copy_slice-requires-clause-within g c =
    let pair = pair_at c.loop-s.invariant c.requires.count c.requires.total c.requires.other_total
    (omega (arith, c.count-s-end.ensures.value, c.loop-s-test.true)) c.length-count.result c.length-more.result c.length-count.ensures c.length-more.ensures in
    pair.first_within

pub copy_slice-requires-clause-room : goal.copy_slice-requires-clause-room
copy_slice-requires-clause-room g c =
    let pair = pair_at c.loop-s.invariant c.requires.count c.requires.total c.requires.other_total
    (omega (arith, c.count-s-end.ensures.value, c.loop-s-test.true)) c.length-count.result c.length-more.result c.length-count.ensures c.length-more.ensures in
    omega (arith, pair_fits c.loop-s.invariant pair)

pub overflow_add-end : goal.overflow_add-end
overflow_add-end g c =
    let pair = pair_at c.loop-s.invariant c.requires.count c.requires.total c.requires.other_total
    (omega (arith, c.count-s-end.ensures.value, c.loop-s-test.true)) c.length-count.result c.length-more.result c.length-count.ensures c.length-more.ensures in
    let fits = pair_fits c.loop-s.invariant pair in search (rules, fits)

pub copy_slice-requires-in-loop-s-clause-within : goal.copy_slice-requires-in-loop-s-clause-within
copy_slice-requires-in-loop-s-clause-within g c =
    let pair = pair_at c.loop-s.invariant c.requires.count c.requires.total c.requires.other_total
    (omega (arith, c.count-s-end.ensures.value, c.loop-s-test.true)) c.length-count.result c.length-more.result c.length-count.ensures c.length-more.ensures in
    pair.second_within

pub copy_slice-requires-in-loop-s-clause-room : goal.copy_slice-requires-in-loop-s-clause-room
copy_slice-requires-in-loop-s-clause-room g c =
    let pair = pair_at c.loop-s.invariant c.requires.count c.requires.total c.requires.other_total
    (omega (arith, c.count-s-end.ensures.value, c.loop-s-test.true)) c.length-count.result c.length-more.result c.length-count.ensures c.length-more.ensures in
    omega (arith, pair_fits c.loop-s.invariant pair, c.copy_slice.auto.out)

pub overflow_add-first : goal.overflow_add-first
overflow_add-first g c =
    let pair = pair_at c.loop-s.invariant c.requires.count c.requires.total c.requires.other_total
    (omega (arith, c.count-s-end.ensures.value, c.loop-s-test.true)) c.length-count.result c.length-more.result c.length-count.ensures c.length-more.ensures in
    let fits = pair.first_within in search (rules, fits)

pub overflow_add-second : goal.overflow_add-second
overflow_add-second g c =
    let pair = pair_at c.loop-s.invariant c.requires.count c.requires.total c.requires.other_total
    (omega (arith, c.count-s-end.ensures.value, c.loop-s-test.true)) c.length-count.result c.length-more.result c.length-count.ensures c.length-more.ensures in
    let fits = pair.second_within in search (rules, fits)

pub overflow_add-end-in-loop-s-2 : goal.overflow_add-end-in-loop-s-2
overflow_add-end-in-loop-s-2 g c =
    let pair = pair_at c.loop-s.invariant c.requires.count c.requires.total c.requires.other_total
    (omega (arith, c.count-s-end.ensures.value, c.loop-s-test.true)) c.length-count.result c.length-more.result c.length-count.ensures c.length-more.ensures in
    let fits = pair_fits c.loop-s.invariant pair in search (rules, fits)

pub loop-s-preserved : goal.loop-s-preserved
loop-s-preserved g c =
    let pair = pair_at c.loop-s.invariant c.requires.count c.requires.total c.requires.other_total
    (omega (arith, c.count-s-end.ensures.value, c.loop-s-test.true)) c.length-count.result c.length-more.result c.length-count.ensures c.length-more.ensures in
    paired_more c.loop-s.invariant pair c.copy_slice.new.out c.copy_slice-in-loop-s.new.out c.copy_slice.auto.out c.copy_slice-in-loop-s.auto.out c.copy_slice.ensures c.copy_slice-in-loop-s.ensures

pub returns : goal.returns
returns g c =
    written_all c.loop-s.invariant.written
    (omega (arith, pairs_many c.args.a.now c.args.d.now c.args.b.now c.args.other.now c.requires.count, c.count-s-end.ensures.value, c.loop-s-test.false))
