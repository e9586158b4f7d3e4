use Rattle.first_senders.proofs.Cited.{length}
use Rattle.first_senders.proofs.Found.{IsWalked}
use Rattle.first_senders.proofs.walks.write_first.Given as goal

abbrev pub invariant-loop-left : goal.invariant-loop-left
invariant-loop-left g l = IsWalked (g.D.Destinations.destinations l.destinations) l.first l.count l.lowest (length l.fn.out) l.left l.out l.named

abbrev pub decreases-loop-left : goal.decreases-loop-left
decreases-loop-left g l = l.left
