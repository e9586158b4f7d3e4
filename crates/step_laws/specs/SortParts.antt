-- What the parts of a sort have of their own: in a pass a part writes its elements in the order of a digit, as a block, and gathers some of
-- the pieces of all blocks; behind the passes of a sort by key it writes keys and values.
-- Source: Knuth, The Art of Computer Programming, volume 3, 5.2.5, sorting by distribution; the parts are this library's.
use Rattle.std.specs.Prelude.{◌≡◌, ℕ, ◌+◌, ◌-◌, ℤ, List, [], ◌∷◌, length, map}
use Rattle.cvl_base.specs.Lists.{joined}
use Rattle.digit_partitions.specs.Partitions.{most_digits}
use Rattle.stable_sorts.specs.declared.keys.Placed.{Placed}

-- how many elements stand before the part's, these, its block, and where each digit ends in it among all blocks; the pieces that it
-- gathers, from one with a number on, and its range of the result
pub record PassPart (X : Type 0) : Type 0 where
  pub before : ℕ
  pub elements : List X
  pub block : List X
  pub ends : List ℕ
  pub piece : ℕ
  pub count : ℕ
  pub range : List X

-- how many elements stand before each of some lists in a row, if so many stand before the first
abbrev pub places_from : {X : Type 0} → ℕ → List (List X) → List ℕ
places_from before [] = []
places_from before (xs ∷ lists) = before ∷ places_from (before + length xs) lists

module _ {X : Type 0} where
  -- the elements of the whole
  abbrev pub whole_of : List (PassPart X) → List X
  whole_of parts = joined (map (λ p. p.elements) parts)

  -- all blocks
  abbrev pub blocks_of : List (PassPart X) → List X
  blocks_of parts = joined (map (λ p. p.block) parts)

  -- where each digit of each block ends there
  abbrev pub ends_of : List (PassPart X) → List ℕ
  ends_of parts = joined (map (λ p. p.ends) parts)

  -- the result
  abbrev pub result_of : List (PassPart X) → List X
  result_of parts = joined (map (λ p. p.range) parts)

  -- each part knows how many elements stand before its own
  abbrev pub KnowPlaces : List (PassPart X) → Type 0
  KnowPlaces parts = map (λ p. p.before) parts ≡ places_from 0 (map (λ p. p.elements) parts)

  -- a part has room for its block, and for where each digit ends
  abbrev pub HasBlock : PassPart X → Type 0
  HasBlock part = (length part.block ≡ length part.elements) × (length part.ends ≡ most_digits)

  -- each part gathers from its piece up to that of the next, and its range has room for what is between their places
  abbrev pub HaveShares : List ℕ → List ℕ → List (PassPart X) → Type 0
  HaveShares (piece ∷ next ∷ pieces) (place ∷ end ∷ places) (part ∷ parts) =
      (part.piece ≡ piece) × (part.count ≡ next - piece) × (length part.range ≡ end - place)
      × HaveShares (next ∷ pieces) (end ∷ places) parts
  HaveShares (piece ∷ []) (place ∷ []) [] = Unit {0}
  HaveShares pieces places parts = ⊥

  -- a part leaves what it had, but for its block and where the digits end
  abbrev pub BlocksAlone : PassPart X → PassPart X → Type 0
  BlocksAlone own left = left ≡ record own { block = left.block; ends = left.ends }

  -- but for the pieces that it gathers, and its range
  abbrev pub SharesAlone : PassPart X → PassPart X → Type 0
  SharesAlone own left = left ≡ record own { piece = left.piece; count = left.count; range = left.range }

  -- but for its range
  abbrev pub GathersAlone : PassPart X → PassPart X → Type 0
  GathersAlone own left = left ≡ record own { range = left.range }

-- ---- keys and values

-- the keys beside their values that a part has behind the passes, and its ranges of two rooms, of keys and of values
pub record ValuesPart : Type 0 where
  pub placed : List Placed
  pub keys : List ℤ
  pub values : List ℤ

-- those of the whole
abbrev pub placed_of : List ValuesPart → List Placed
placed_of parts = joined (map (λ p. p.placed) parts)

-- its room of keys
abbrev pub keys_of : List ValuesPart → List ℤ
keys_of parts = joined (map (λ p. p.keys) parts)

-- its room of values
abbrev pub values_of : List ValuesPart → List ℤ
values_of parts = joined (map (λ p. p.values) parts)

-- each of a part's rooms has a place for each of its keys
abbrev pub HasBothRooms : ValuesPart → Type 0
HasBothRooms part = (length part.keys ≡ length part.placed) × (length part.values ≡ length part.placed)

-- a part leaves what it had, but for its rooms
abbrev pub WritesAlone : ValuesPart → ValuesPart → Type 0
WritesAlone own left = left ≡ record own { keys = left.keys; values = left.values }
