use Rattle.std.proofs.Common.{◌∙◌, ◌+◌, ◌-◌, ◌<◌, ap, arith, length, refl, sym, take}
use borrow.Rule.Slice.PartMut.{put_mid}
use Rattle.segment_sends.specs.SegmentDestinations.{all_in_segments}
use Rattle.segment_sends.specs.Shares.{permuted}
use Rattle.segment_sends.proofs.Scatters.{room_all, room_more, segment_right}
use Rattle.segment_sends.proofs.Through.{start_more}
use Rattle.segment_sends.proofs.segment_scatters.scatter_segments_over.Goals as goal

pub loop-s-init : goal.loop-s-init
loop-s-init g c = record { first_is = refl; as_long = c.requires.as_long.1; so_far = refl }

pub scatter_segment_over-requires-clause-apart : goal.scatter_segment_over-requires-clause-apart
scatter_segment_over-requires-clause-apart g c =
    segment_right c.args.d.now c.args.index.now c.requires.total c.args.source.now c.requires.as_long.0 c.requires.in_limit c.requires.apart c.loop-s.s
    (omega (arith, c.count-s-end.ensures.value, c.loop-s-test.true)) c.loop-s.first c.length.result c.loop-s.invariant.first_is c.length.ensures

pub loop-s-preserved : goal.loop-s-preserved
loop-s-preserved g c =
    let d = c.args.d.now in
    let whole = permuted c.args.source.now (all_in_segments d d c.args.index.now) c.args.source.now in
    let first = c.loop-s.first in
    let width = first + c.length.result - first in
    let lt : c.loop-s.s < length d = omega (arith, c.count-s-end.ensures.value, c.loop-s-test.true) in
    let more = room_more d c.args.index.now c.requires.total c.args.source.now c.requires.as_long.0 c.requires.in_limit c.requires.apart c.loop-s.s lt
    first c.length.result c.loop-s.invariant.first_is c.length.ensures c.loop-s.out (put_mid first width c.loop-s.out c.scatter_segment_over.new.out) c.loop-s.invariant.as_long
    c.loop-s.invariant.so_far
    (ap (put_mid first width c.loop-s.out) c.scatter_segment_over.ensures) in
    record {
      first_is = omega (arith, start_more d c.loop-s.s lt, c.length.ensures, c.loop-s.invariant.first_is);
      as_long = more.0;
      so_far = more.1;
    }

pub returns : goal.returns
returns g c =
    room_all c.args.d.now c.args.index.now c.requires.total c.args.source.now c.requires.as_long.0 c.requires.in_limit c.requires.apart c.loop-s.s c.loop-s.out c.loop-s.invariant.as_long
    (ap (λ k. take k c.loop-s.out) (sym c.loop-s.invariant.first_is) ∙ c.loop-s.invariant.so_far
    ∙ ap (λ k. take k (permuted c.args.source.now (all_in_segments c.args.d.now c.args.d.now c.args.index.now) c.args.source.now)) c.loop-s.invariant.first_is)
    (omega (arith, c.count-s-end.ensures.value, c.loop-s-test.false))
