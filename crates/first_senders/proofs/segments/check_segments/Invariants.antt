use Rattle.first_senders.proofs.Cited.{◌≡◌, drop, sum, take}
use Rattle.first_senders.specs.Walks.{fault_by}
use Rattle.first_senders.proofs.segments.check_segments.Given as goal

abbrev pub invariant-loop-s : goal.invariant-loop-s
invariant-loop-s g l =
    let ts = g.D.Destinations.destinations l.destinations in
    record {
      first_is : l.first ≡ sum (take l.s l.d);
      so_far : fault_by 0 l.d l.result_d ts ≡ fault_by l.first (drop l.s l.d) (drop l.s l.result_d) (drop l.first ts);
    }
