-- Combining permutes by ranges of their room: a range's owner reads all indices, joins the elements that are sent to it, and counts the
-- indices that name a place of it.
-- Source: what the whole joins at each place; the ranges are this library's.
use Rattle.std.specs.Prelude.{ℕ, ℤ, ◌+ℤ◌, List, length, Result, Ok}
use Rattle.std.specs.List.{zip}
use Rattle.cvl_base.specs.declared.fault.Fault.{Fault}
use Rattle.cvl_base.specs.Elementwise.{if_as_long}
use Rattle.cvl_base.specs.Gives.{◌>>=◌}
use Rattle.combining_permutes.specs.CombiningPermutes.{combined, named_between, place_counts}
use Rattle.long_sums.specs.RoomSums.{all_growing}
use Rattle.part_calls.specs.Limits.{range_within}

-- what is joined at the places from `low` on, if the room holds what stands there, and how many indices name one of them
abbrev pub joined_and_counted : {X : Type 0} → (X → X → X) → List X → List ℤ → ℕ → List X → List X × ℕ
joined_and_counted join source index low before =
    (combined join (zip index source) low before, named_between index low (length before))

-- one range of a combining permute, whose room holds the places from `low` on
abbrev pub combine_range_of : {X : Type 0} → (X → X → X) → List X → List ℤ → ℕ → List X → Result (List X × ℕ) Fault
combine_range_of join source index low before =
    range_within (length index) low (length before) (if_as_long source index (Ok (joined_and_counted join source index low before)))

-- one range of a combining permute into sums of 64 bits, each of which may grow
abbrev pub exact_range_of : List ℤ → List ℤ → ℕ → List ℤ → Result (List ℤ × ℕ) Fault
exact_range_of source index low before = range_within (length index) low (length before)
    (all_growing low before >>= λ sums. if_as_long source index (Ok (joined_and_counted ◌+ℤ◌ source index low sums)))

-- how many indices name each of the n places from `low` on, and how many name one of them
abbrev pub counts_range_of : List ℤ → ℕ → ℕ → Result (List ℤ × ℕ) Fault
counts_range_of index low n =
    range_within (length index) low n (Ok (place_counts index low n, named_between index low n))
