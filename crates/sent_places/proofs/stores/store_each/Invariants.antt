use Rattle.std.proofs.Common.{◌≡◌, ◌<◌, ◌≤◌, get_or, length}
use Rattle.sent_places.proofs.Stored.{IsStoredTo}
use Rattle.sent_places.proofs.stores.store_each.Given as goal

abbrev pub invariant-loop-k : goal.invariant-loop-k
invariant-loop-k g l = record {
  so_far : IsStoredTo l.first (g.T.Destinations.destinations l.destinations) (length l.fn.senders) l.k l.sent l.senders;
  stands : l.destination < length l.senders → get_or l.senders l.destination 0 ≡ l.sender;
  in_length : l.sent ≤ l.k;
}
