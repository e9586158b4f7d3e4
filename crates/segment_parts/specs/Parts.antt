-- The scan of a part of a segmented vector that is cut at any place: a segment may begin before the part, and one may go on behind it.
-- Source: Blelloch, Vector Models for Data-Parallel Computing, 1990, segmented scans; the parts are this library's.
use Rattle.std.specs.Prelude.{ℕ, ◌+◌, nat_lt, List, ◌++◌, drop, length, sum, take, Result, Ok}
use Rattle.cvl_base.specs.declared.fault.Fault.{Fault}
use Rattle.cvl_base.specs.declared.fault.FaultNo.TheVariants as no
use Rattle.cvl_base.specs.Faults.{fault}
use Rattle.cvl_base.specs.Folds.{scan_of}
use Rattle.cvl_base.specs.Gives.{fault_if}
use Rattle.range_walks.specs.Ranges.{scans_of}

module _ {Item : Type 0} (join : Item → Item → Item) (unit : Item) where
  -- the scans in a part: of its head, the elements that go on from a segment before the part, after what that segment's elements before
  -- the part join to; of each whole segment behind it; and of the elements behind these, with which another segment begins
  abbrev pub scans_in_part : Item → ℕ → List ℕ → List Item → List Item
  scans_in_part before head lengths xs =
      scan_of join before (take head xs) ++ scans_of join unit lengths (drop head xs)
      ++ scan_of join unit (drop (head + sum lengths) xs)

  -- the scan of a part, or LengthMismatch if its head and its whole segments have more elements than the part
  abbrev pub part_scan_of : Item → ℕ → List ℕ → List Item → Result (List Item) Fault
  part_scan_of before head lengths xs =
      fault_if (nat_lt (length xs) (head + sum lengths)) (fault no.LengthMismatch) (Ok (scans_in_part before head lengths xs))
