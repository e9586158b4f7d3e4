use Rattle.std.proofs.Common.{◌≡◌, take}
use Rattle.sent_places.specs.Senders.{count_sent}
use Rattle.sent_places.proofs.stores.count_senders.Given as goal

abbrev pub invariant-loop-sender : goal.invariant-loop-sender
invariant-loop-sender l = l.count ≡ count_sent (take l.sender-index l.senders)
