use Rattle.first_senders.proofs.Cited.{◌≡◌, ◌++◌, drop, length, sum, take}
use Rattle.first_senders.specs.Walks.{senders_by}
use Rattle.first_senders.proofs.segments.write_segments.Given as goal

abbrev pub invariant-loop-s : goal.invariant-loop-s
invariant-loop-s g l =
    let ts = g.D.Destinations.destinations l.destinations in
    record {
      first_is : l.first ≡ sum (take l.s l.d);
      start_is : l.start ≡ sum (take l.s l.result_d);
      as_long : length l.out ≡ length l.fn.out;
      so_far : take l.start l.out ++ senders_by (drop l.s l.d) (drop l.s l.result_d) (drop l.first ts) ≡ senders_by l.d l.result_d ts;
    }
