use Rattle.segment_sends.proofs.Through.{IsSentThrough}
use Rattle.segment_sends.proofs.first_walk.send_segments.Given as goal

abbrev pub invariant-loop-s : goal.invariant-loop-s
invariant-loop-s g l = IsSentThrough (g.D.SegmentDestinations.segments l.segments) l.first l.start l.s l.senders
