use Rattle.std.proofs.Common.{arith}
use Rattle.std.proofs.lemmas.Result.{err_from_is_err_and}
use Rattle.segment_sends.specs.SegmentDestinations.{fault_from, senders_from}
use Rattle.permute_walks.proofs.Told.{found_fault, found_ok}
use Rattle.segment_sends.proofs.first_walk.segment_senders_alone.Goals as goal

pub returns-in_err-send_segments-clause-senders : goal.returns-in_err-send_segments-clause-senders
returns-in_err-send_segments-clause-senders g c =
    let segments = g.D.SegmentDestinations.segments c.args.segments.now in
    let p = err_from_is_err_and c.from_residual-in_err-send_segments.result c.from_residual-in_err-send_segments.ensures.1 in
    rw (p.1, p.2) (found_fault (fault_from 0 segments) (senders_from 0 segments) c.in_err-send_segments.field-0.0 c.in_err-send_segments.ensures.fault)

pub returns-clause-senders : goal.returns-clause-senders
returns-clause-senders g c =
    found_ok _ _ c.send_segments.new.senders c.in_ok-senders.senders.items c.in_ok-senders.senders.len c.in_ok-send_segments.ensures.fault c.in_ok-send_segments.ensures.sent
    (omega (arith, c.send_segments.auto.senders, c.deref_mut.ensures.len))
