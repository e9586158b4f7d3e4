use Rattle.std.proofs.Common.{◌+◌, ◌-◌, ◌<◌, ap, arith, length, refl}
use borrow.Rule.Slice.PartMut.{put_mid}
use Rattle.segment_sends.proofs.Through.{segment_within, start_more}
use Rattle.segmented_permutes.proofs.Gathers.{gathered_all, gathered_more, right_next, segment_inside}
use Rattle.segmented_permutes.proofs.segment_gathers.gather_segments_over.Goals as goal

pub loop-s-init : goal.loop-s-init
loop-s-init g c = record { first_is = refl; start_is = refl; as_long = c.requires.as_long; right = c.requires.inside; so_far = refl }

pub slice_bounds-gather_segment_over-end : goal.slice_bounds-gather_segment_over-end
slice_bounds-gather_segment_over-end g c =
    let fits = c.requires.fits in
    let lt : c.loop-s.s < length c.args.source_d.now = omega (arith, c.count-s-end.ensures.value, c.loop-s-test.true, fits.count) in
    omega (arith, segment_within c.args.source_d.now c.args.source.now fits.source_total c.loop-s.s lt, c.length-in-loop-s.ensures, c.loop-s.invariant.start_is)

pub slice_bounds-gather_segment_over-end-in-loop-s : goal.slice_bounds-gather_segment_over-end-in-loop-s
slice_bounds-gather_segment_over-end-in-loop-s g c =
    let fits = c.requires.fits in
    let lt : c.loop-s.s < length c.args.index_d.now = omega (arith, c.count-s-end.ensures.value, c.loop-s-test.true) in
    omega (arith, segment_within c.args.index_d.now c.args.index.now fits.total c.loop-s.s lt, c.length.ensures, c.loop-s.invariant.first_is)

pub gather_segment_over-requires-clause-inside : goal.gather_segment_over-requires-clause-inside
gather_segment_over-requires-clause-inside g c =
    let lt : c.loop-s.s < length c.args.index_d.now = omega (arith, c.count-s-end.ensures.value, c.loop-s-test.true) in
    let inv = c.loop-s.invariant in
    segment_inside c.requires.fits c.loop-s.s lt c.loop-s.first c.length.result c.loop-s.start c.length-in-loop-s.result inv.first_is c.length.ensures inv.start_is c.length-in-loop-s.ensures inv.right

pub loop-s-preserved : goal.loop-s-preserved
loop-s-preserved g c =
    let d = c.args.index_d.now in
    let s = c.loop-s.s in
    let lt : s < length d = omega (arith, c.count-s-end.ensures.value, c.loop-s-test.true) in
    let inv = c.loop-s.invariant in
    let first = c.loop-s.first in
    let width = first + c.length.result - first in
    let more = gathered_more c.requires.fits s lt first c.length.result c.loop-s.start c.length-in-loop-s.result inv.first_is c.length.ensures inv.start_is c.length-in-loop-s.ensures inv.right
    c.loop-s.out (put_mid first width c.loop-s.out c.gather_segment_over.new.out) inv.as_long inv.so_far (ap (put_mid first width c.loop-s.out) c.gather_segment_over.ensures) in
    record {
      first_is = omega (arith, start_more d s lt, c.length.ensures, inv.first_is);
      start_is = omega (arith, start_more c.args.source_d.now s (omega (arith, lt, c.requires.fits.count)), c.length-in-loop-s.ensures, inv.start_is);
      as_long = more.0;
      right = right_next c.requires.fits s lt first c.length.result c.loop-s.start c.length-in-loop-s.result inv.first_is c.length.ensures inv.start_is c.length-in-loop-s.ensures inv.right;
      so_far = more.1;
    }

pub returns : goal.returns
returns g c =
    let inv = c.loop-s.invariant in
    gathered_all c.requires.fits c.loop-s.s c.loop-s.first c.loop-s.out inv.first_is (omega (arith, c.count-s-end.ensures.value, c.loop-s-test.false)) inv.as_long inv.so_far
