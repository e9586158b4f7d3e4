use Rattle.call_laws.proofs.Cited.{length, all_destinations, if_as_long-fits, if_as_long-misfits}
use Rattle.call_laws.proofs.FirstBadPlaces.{fault-again, fault-outside}
use Rattle.call_laws.proofs.Sending.{all_good, destination-here}
use Rattle.call_laws.proofs.permuted.default_fault_law.Goals as goal

pub returns : goal.returns
returns g c = record {
  mismatch = λ source index defaults differ. if_as_long-misfits source index _ differ;
  outside = λ source index defaults k i long within once here out.
      let good = all_good (length defaults) index k within once in
      rw (if_as_long-fits source index _ long, fault-outside (length defaults) (all_destinations index) k i good (destination-here index k i here) out);
  again = λ source index defaults h k i long within once below first here.
      let good = all_good (length defaults) index k within once in
      let bad = fault-again (length defaults) (all_destinations index) h k i good below (destination-here index h i first) (destination-here index k i here) (within h i below first) in
      rw (if_as_long-fits source index _ long, bad);
}
