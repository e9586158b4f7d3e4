-- Pieces of a list, each the number of a tile and the tile's elements, and the list that they make.
-- Source: the tiles of Merrill and Garland, Single-pass Parallel Prefix Scan with Decoupled Look-back, 2016, which end in any order.
use Rattle.std.specs.Prelude.{◌≡◌, ℕ, ◌<◌, ◌≤◌, ◌==◌, List, length}
use Rattle.std.specs.List.{All, count_by, flat_map, range_with_len, slice_range}
use Rattle.tile_plan.specs.Ranges.{tile_count, range_of, length_of}

-- each tile has one piece, each piece is as long as its tile, and there is no other piece
pub record AreAllPieces {X : Type 0} (len tile : ℕ) (pieces : List (ℕ × List X)) : Type 0 where
  pub of_tiles : All (λ p. p.0 < tile_count len tile) pieces
  pub once : (t : ℕ) → t < tile_count len tile → count_by (λ p. p.0 == t) pieces ≡ 1
  pub as_long : All (λ p. length p.1 ≡ length_of len tile p.0) pieces

-- each tile has one piece, each piece has the elements that its tile is made into, and there is no other piece
pub record AreOfTiles {X : Type 0} (count : ℕ) (made : ℕ → List X) (pieces : List (ℕ × List X)) : Type 0 where
  pub of_tiles : All (λ p. p.0 < count) pieces
  pub once : (t : ℕ) → t < count → count_by (λ p. p.0 == t) pieces ≡ 1
  pub as_made : All (λ p. p.1 ≡ made p.0) pieces

-- what the tiles are made into, in order
abbrev pub in_order_of_tiles : {X : Type 0} → ℕ → (ℕ → List X) → List X
in_order_of_tiles count made = flat_map made (range_with_len 0 count)

-- the whole list, in which each piece stands at the range of its tile
pub record IsGathered {X : Type 0} (len tile : ℕ) (pieces : List (ℕ × List X)) (whole : List X) : Type 0 where
  pub as_long : length whole ≡ len
  pub in_place : All (λ p. slice_range whole (range_of len tile p.0).0 (range_of len tile p.0).1 ≡ p.1) pieces

-- a list that is made of pieces: if they are the pieces of all tiles, it is what the tiles are made into, in order
abbrev pub IsWholeOfTiles : {X : Type 0} → List (ℕ × List X) → List X → Type 0
IsWholeOfTiles {X} pieces whole = (count : ℕ) (made : ℕ → List X) → AreOfTiles count made pieces
    → whole ≡ in_order_of_tiles count made

-- the same if each piece is as long as its tile of a plan: it stands at the range of its tile
abbrev pub IsWholeOfRanges : {X : Type 0} → List (ℕ × List X) → List X → Type 0
IsWholeOfRanges pieces whole = (len tile : ℕ) → 1 ≤ tile → AreAllPieces len tile pieces
    → IsGathered len tile pieces whole
