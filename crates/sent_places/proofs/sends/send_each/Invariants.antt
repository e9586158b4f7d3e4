use Rattle.std.proofs.Common.{length}
use Rattle.sent_places.proofs.Sent.{IsSentTo}
use Rattle.sent_places.proofs.sends.send_each.Given as goal

abbrev pub invariant-loop-k : goal.invariant-loop-k
invariant-loop-k g l = IsSentTo l.first (g.T.Destinations.destinations l.destinations) (length l.fn.senders) l.k l.senders
