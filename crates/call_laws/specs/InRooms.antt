-- Combining permutes in blocks: each block is joined into a room of its own, which holds the unit at each place before, and the rooms are
-- joined into what stood before, place by place.
-- Source: Blelloch's reduce in parts, at each place of a combining send.
use Rattle.std.specs.Prelude.{ℕ, ℤ, List, map, replicate}
use Rattle.std.specs.List.{zip}
use Rattle.combining_permutes.specs.CombiningPermutes.{combined}
use Rattle.cvl_base.specs.Folds.{fold_of}

-- what a block is joined to in a room of so many places from `lowest` on
abbrev pub own_room : {X : Type 0} → (X → X → X) → X → ℕ → ℕ → List (ℤ × X) → List X
own_room join unit lowest places sends = combined join sends lowest (replicate places unit)

-- each place joined with the same place of another room
abbrev pub with_room : {X : Type 0} → (X → X → X) → List X → List X → List X
with_room join before room = map (λ p. join p.0 p.1) (zip before room)

-- what stood before, joined with some rooms in their order
abbrev pub with_rooms : {X : Type 0} → (X → X → X) → List X → List (List X) → List X
with_rooms join before rooms = fold_of (with_room join) before rooms
