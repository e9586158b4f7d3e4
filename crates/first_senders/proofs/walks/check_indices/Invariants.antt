use Rattle.first_senders.proofs.Cited.{◌≡◌, ◌+◌, drop, take}
use Rattle.first_senders.proofs.Faults.{fault_in}
use Rattle.first_senders.proofs.walks.check_indices.Given as goal

abbrev pub invariant-loop-k : goal.invariant-loop-k
invariant-loop-k g l =
    let ts = take l.count (drop l.first (g.D.Destinations.destinations l.destinations)) in
    fault_in l.places l.first ts ≡ fault_in l.places (l.first + l.k) (drop l.k ts)
