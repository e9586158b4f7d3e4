use Rattle.call_laws.proofs.Cited.{ℕ, ℤ, Bool, List, length, inl, inr, eqb_tells, count_of, flagged_destinations, if_as_long-fits, if_as_long-misfits, AreOnceFlagged, AreWithinFlagged, IsGoodBefore}
use Rattle.call_laws.proofs.FirstBadPlaces.{fault-again, fault-outside}
use Rattle.call_laws.proofs.Selecting.{flagged-here, here-flagged}
use Rattle.call_laws.proofs.permuted.select_fault_law.Goals as goal

flagged_good : (m : ℕ) (index : List ℤ) (flags : List Bool) (k : ℕ) → AreWithinFlagged m index flags k → AreOnceFlagged index flags k → IsGoodBefore m (flagged_destinations index flags) k
flagged_good m index flags k within once = record {
  within = λ j i below here. let p = here-flagged index flags j i here in within j i below p.0 p.1;
  once = λ h j i before below first second.
      let p = here-flagged index flags h i first in
      let q = here-flagged index flags j i second in
      once h j i before below p.0 q.0 p.1 q.1;
}

pub returns : goal.returns
returns g c = record {
  index_mismatch = λ source index flags differ. if_as_long-misfits source index _ differ;
  flag_mismatch = λ source index flags differ.
      elim (eqb_tells (length source) (length index)) [
        | inl same ↦ rw (if_as_long-fits source index _ same.1) (if_as_long-misfits index flags _ differ)
        | inr other ↦ if_as_long-misfits source index _ other.1
      ];
  outside = λ source index flags k i long flagged within once flag here out.
      let good = flagged_good (count_of flags) index flags k within once in
      let bad = fault-outside (count_of flags) (flagged_destinations index flags) k i good (flagged-here index flags k i flag here) out in
      rw (if_as_long-fits source index _ long, if_as_long-fits index flags _ flagged, bad);
  again = λ source index flags h k i long flagged within once below first_flag flag first here.
      let good = flagged_good (count_of flags) index flags k within once in
      let first_here = flagged-here index flags h i first_flag first in
      let bad = fault-again (count_of flags) (flagged_destinations index flags) h k i good below first_here (flagged-here index flags k i flag here) (within h i below first_flag first) in
      rw (if_as_long-fits source index _ long, if_as_long-fits index flags _ flagged, bad);
}
