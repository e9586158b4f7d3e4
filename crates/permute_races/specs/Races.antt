-- What the boards of a permute look for: the first place that is sent to each place of the result, and then the first bad place.
-- Source: CVL's permute, d[i[k]] = s[k]; which of two places counts is this library's profile.
use Rattle.std.specs.Prelude.{ℕ, ◌==◌, ℤ, not, if◌then◌else◌, unsigned_abs, List, length, map, take, slice_index, option_map, Option, Some}
use Rattle.std.specs.Prelude.{None}
use Rattle.std.specs.List.{enumerate_from}
use Rattle.cvl_base.specs.Limits.{most_elements}
use Rattle.cvl_base.specs.Permutes.{is_place, place_among}
use Rattle.cvl_base.specs.declared.fault.FaultNo.{FaultNo}
use Rattle.cvl_base.specs.declared.fault.FaultNo.TheVariants.{IndexOutOfRange, IndexRepeated}

-- the place of the result to which a destination sends, among m places
abbrev pub slot_of : ℕ → Option ℤ → Option ℕ
slot_of m None = None
slot_of m (Some i) = place_among m i

-- the same for each destination that a board has room for
abbrev pub slots_of : ℕ → List (Option ℤ) → List (Option ℕ)
slots_of m destinations = take most_elements (map (slot_of m) destinations)

-- what is wrong with the destination of a place, if these are the least places that are sent to each place of the result
abbrev pub wrong_beside : List ℕ → ℕ → Option ℤ → Option FaultNo
wrong_beside senders place None = None
wrong_beside senders place (Some i) =
    if not (is_place (length senders) i) then Some IndexOutOfRange
    else if slice_index senders (unsigned_abs i) == place then None else Some IndexRepeated

-- what is wrong with each place
abbrev pub wrongs_beside : List ℕ → List (Option ℤ) → List (Option FaultNo)
wrongs_beside senders destinations = map (λ p. wrong_beside senders p.0 p.1) (enumerate_from 0 destinations)

-- the bad places that a board has room for are all in one slot
abbrev pub bad_slots : List (Option FaultNo) → List (Option ℕ)
bad_slots wrongs = take most_elements (map (λ w. option_map (λ number. 0) w) wrongs)
