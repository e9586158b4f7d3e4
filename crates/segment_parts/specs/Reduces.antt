-- The reduces of the segments that start in a part of a segmented vector, which is cut at any place: its last segment may go on behind it.
-- Source: CVL's segmented reduces; the parts are this library's.
use Rattle.std.specs.Prelude.{ℕ, ◌+◌, ◌-◌, ◌&&◌, nat_le, not, Bool, List, [], ◌∷◌, drop, length, sum, take, Result, Ok}
use Rattle.cvl_base.specs.declared.fault.Fault.{Fault}
use Rattle.cvl_base.specs.declared.fault.FaultNo.TheVariants as no
use Rattle.cvl_base.specs.Faults.{fault}
use Rattle.cvl_base.specs.Gives.{fault_if}
use Rattle.range_walks.specs.Ranges.{reduces_of}

-- all but the last
abbrev pub but_last : {X : Type 0} → List X → List X
but_last xs = take (length xs - 1) xs

-- whether a part may have so many elements: its head, and behind it segments of these lengths, the last of which may go on behind the part
abbrev pub is_part : ℕ → List ℕ → ℕ → Bool
is_part head lengths n = nat_le (head + sum (but_last lengths)) n && nat_le n (head + sum lengths)

module _ {Item : Type 0} (join : Item → Item → Item) where
  -- some values, the last of them joined with one more
  abbrev pub join_last : List Item → Item → List Item
  join_last [] more = []
  join_last (x ∷ []) more = join x more ∷ []
  join_last (x ∷ y ∷ others) more = x ∷ join_last (y ∷ others) more

module _ {Item : Type 0} (join : Item → Item → Item) (unit : Item) where
  -- the reduces of the segments that start behind a part's head, the last one joined with what goes on behind the part
  abbrev pub start_reduces_of : Item → ℕ → List ℕ → List Item → List Item
  start_reduces_of behind head lengths xs = join_last join (reduces_of join unit lengths (drop head xs)) behind

  -- the reduces of a part, or LengthMismatch if no part with this head and these lengths has so many elements
  abbrev pub part_reduces_of : Item → ℕ → List ℕ → List Item → Result (List Item) Fault
  part_reduces_of behind head lengths xs =
      fault_if (not (is_part head lengths (length xs))) (fault no.LengthMismatch) (Ok (start_reduces_of behind head lengths xs))
