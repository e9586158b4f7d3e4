-- Targets: the slot of each place, if it has one, and the least place of each slot.
-- Source: the priority write of a parallel machine with concurrent writes, by which the least of all writers of a cell wins.
use Rattle.std.specs.Prelude.{ℕ, ◌+◌, ◌==◌, Bool, false, List, [], ◌∷◌, map, if◌then◌else◌, Option, Some, None}
use Rattle.std.specs.List.{range_with_len}

-- the target is this slot
abbrev pub is_slot : ℕ → Option ℕ → Bool
is_slot slot None = false
is_slot slot (Some x) = x == slot

-- the least place with this slot, if the first of all places has the number given
abbrev pub least_from : ℕ → List (Option ℕ) → ℕ → Option ℕ
least_from place [] slot = None
least_from place (target ∷ targets) slot = if is_slot slot target then Some place else least_from (place + 1) targets slot

-- the least place of each of so many slots
abbrev pub leasts_of : List (Option ℕ) → ℕ → List (Option ℕ)
leasts_of targets slots = map (least_from 0 targets) (range_with_len 0 slots)
