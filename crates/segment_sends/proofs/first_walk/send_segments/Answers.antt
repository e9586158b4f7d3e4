use Rattle.std.proofs.Common.{◌∙◌, arith, refl}
use Rattle.permute_walks.proofs.Sent.{told_again}
use Rattle.segment_sends.proofs.Through.{through_none, through_all, through_room, through_left, range_fresh, range_fails, range_more}
use Rattle.segment_sends.proofs.first_walk.send_segments.Goals as goal

pub loop-s-init : goal.loop-s-init
loop-s-init g c = through_none (g.D.SegmentDestinations.segments c.args.segments.now) c.args.senders.now c.requires.fresh c.requires.as_long

pub send_places-requires-clause-fresh : goal.send_places-requires-clause-fresh
send_places-requires-clause-fresh g c = range_fresh c.loop-s.invariant (omega (arith, c.segment_count-s-end.ensures, c.loop-s-test.true)) c.of_segment-places.ensures

pub send_places-requires-clause-in_limit : goal.send_places-requires-clause-in_limit
send_places-requires-clause-in_limit g c =
    omega (arith, through_left c.loop-s.invariant (omega (arith, c.segment_count-s-end.ensures, c.loop-s-test.true)) c.of_segment-places.ensures, c.requires.in_limit)

pub slice_bounds-send_places-end : goal.slice_bounds-send_places-end
slice_bounds-send_places-end g c = through_room c.loop-s.invariant (omega (arith, c.segment_count-s-end.ensures, c.loop-s-test.true)) c.of_segment-places.ensures

pub returns-in_err-send_places-clause-fault : goal.returns-in_err-send_places-clause-fault
returns-in_err-send_places-clause-fault g c =
    told_again c.from_residual.result c.in_err-send_places.field-0.0 c.from_residual.ensures.1
    ∙ range_fails c.loop-s.invariant (omega (arith, c.segment_count-s-end.ensures, c.loop-s-test.true)) c.of_segment-places.ensures c.in_err-send_places.field-0.0 c.in_err-send_places.ensures.fault

pub loop-s-preserved : goal.loop-s-preserved
loop-s-preserved g c =
    range_more c.loop-s.invariant (omega (arith, c.segment_count-s-end.ensures, c.loop-s-test.true)) c.of_segment-places.ensures c.send_places.new.senders _ _ c.in_ok-send_places.ensures.fault
    c.in_ok-send_places.ensures.sent refl (omega (arith, c.count-first.ensures))

pub returns-clause-fault : goal.returns-clause-fault
returns-clause-fault g c = (through_all c.loop-s.invariant (omega (arith, c.segment_count-s-end.ensures, c.loop-s-test.false))).0

pub returns-clause-sent : goal.returns-clause-sent
returns-clause-sent g c = (through_all c.loop-s.invariant (omega (arith, c.segment_count-s-end.ensures, c.loop-s-test.false))).1
