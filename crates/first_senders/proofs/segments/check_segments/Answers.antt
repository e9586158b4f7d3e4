use Rattle.first_senders.proofs.Cited.{◌∙◌, ◌<◌, arith, length, told_again, sum_by_more}
use Rattle.first_senders.proofs.BySegments.{places_within, segment_failed, segment_passed}
use Rattle.first_senders.proofs.segments.check_segments.Goals as goal

pub check_indices-requires-clause-within : goal.check_indices-requires-clause-within
check_indices-requires-clause-within g c =
    places_within c.args.d.now c.loop-s.s c.loop-s.first c.length-count.result _ (omega (arith, c.count-s-end.ensures.value, c.loop-s-test.true))
    c.loop-s.invariant.first_is c.length-count.ensures c.requires.total

pub returns-in_err-check_indices : goal.returns-in_err-check_indices
returns-in_err-check_indices g c =
    let ts = g.D.Destinations.destinations c.args.destinations.now in
    let lt : c.loop-s.s < length c.args.d.now = omega (arith, c.count-s-end.ensures.value, c.loop-s-test.true) in
    told_again c.from_residual.result c.in_err-check_indices.field-0.0 c.from_residual.ensures.1
    ∙ segment_failed c.args.d.now c.args.result_d.now ts c.requires.count c.loop-s.s lt c.loop-s.first c.length-count.result c.length.result c.length-count.ensures c.length.ensures
    c.loop-s.invariant.so_far c.in_err-check_indices.field-0.0 c.in_err-check_indices.ensures

pub loop-s-preserved : goal.loop-s-preserved
loop-s-preserved g c =
    let ts = g.D.Destinations.destinations c.args.destinations.now in
    let lt : c.loop-s.s < length c.args.d.now = omega (arith, c.count-s-end.ensures.value, c.loop-s-test.true) in
    record {
      first_is = omega (arith, sum_by_more (λ x. x) c.args.d.now c.loop-s.s 0 lt, c.length-count.ensures, c.loop-s.invariant.first_is);
      so_far = segment_passed c.args.d.now c.args.result_d.now ts c.requires.count c.loop-s.s lt c.loop-s.first c.length-count.result c.length.result c.length-count.ensures c.length.ensures
          c.loop-s.invariant.so_far c.in_ok-check_indices.ensures;
    }
