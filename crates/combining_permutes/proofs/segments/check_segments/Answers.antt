use Rattle.combining_permutes.proofs.Cited.{◌∙◌, ◌<◌, ap, arith, drop, first_outside, length, take}
use Rattle.combining_permutes.proofs.BySegments.{ends_within, segment_passed}
use Rattle.combining_permutes.proofs.segments.check_segments.Goals as goal

pub loop-s-preserved : goal.loop-s-preserved
loop-s-preserved c =
    let lt : c.loop-s.s < length c.args.d.now = omega (arith, c.count-s-end.ensures.value, c.loop-s-test.true) in
    let first = c.loop-s.first in
    let n = c.length.result in
    let m = c.length-in-loop-s.result in
    record {
      total = (ends_within c.args.d.now c.loop-s.s lt first n (length c.args.index.now) c.length.ensures c.loop-s.invariant.total).1;
      so_far = segment_passed c.args.d.now c.args.room_d.now c.requires.count c.loop-s.s lt n m c.length.ensures c.length-in-loop-s.ensures c.args.index.now first c.loop-s.invariant.so_far
          (c.in_ok-check_places_alone.ensures ∙ ap (λ k. first_outside first m (take k (drop first c.args.index.now))) (omega arith));
    }
