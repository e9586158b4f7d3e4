-- What stands before each part of a segmented vector that is cut at any places: the elements since the last start of a segment, joined.
-- Source: the pair operator of Blelloch's segmented scans (Vector Models for Data-Parallel Computing, 1990), on the parts' pairs.
use Rattle.std.specs.Prelude.{Bool, List, map, Result, Ok}
use Rattle.std.specs.List.{zip}
use Rattle.cvl_base.specs.declared.fault.Fault.{Fault}
use Rattle.cvl_base.specs.Elementwise.{if_as_long}
use Rattle.cvl_base.specs.Folds.{scan_of}
use Rattle.cvl_base.specs.SegmentMonoid.{seg_join, seg_unit}

module _ {Item : Type 0} (join : Item → Item → Item) (unit : Item) where
  -- what stands before each part: the values of the pairs' scan, where a part's pair is whether a segment starts in it, and what its
  -- elements since its last start join to
  unfoldable pub before_each : List Bool → List Item → List Item
  before_each starts told = map (λ p. p.1) (scan_of (seg_join join) (seg_unit unit) (zip starts told))

  -- what stands before each part, or LengthMismatch if the two lists are not equally long
  abbrev pub seg_carries_of : List Bool → List Item → Result (List Item) Fault
  seg_carries_of starts told = if_as_long starts told (Ok (before_each starts told))
