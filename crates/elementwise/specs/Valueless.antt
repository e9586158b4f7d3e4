-- The places at which an operator has no value, as the targets of a race.
-- Source: the fault of an elementwise call is the one at the least such place.
use Rattle.std.specs.Prelude.{ℕ, List, map, drop, Option, Some, None}
use Rattle.std.specs.List.{zip}
use Rattle.boards.specs.Slots.{least_from}

-- a place without a value is in the one slot, and a place with one is no target
abbrev pub slot_without : {Y : Type 0} → Option Y → Option ℕ
slot_without None = Some 0
slot_without (Some y) = None

module _ {X Y Z : Type 0} (value : X → Y → Option Z) (xs : List X) (ys : List Y) where
  -- the slots of all places
  abbrev pub slots_without : List (Option ℕ)
  slots_without = map (λ (p : X × Y). slot_without (value p.0 p.1)) (zip xs ys)

  -- the least place without a value, from this place on
  abbrev pub least_without : ℕ → Option ℕ
  least_without place = least_from place (drop place slots_without) 0
