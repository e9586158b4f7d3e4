-- The sums of tiles. A tile is a run of elements of a segmented vector, each with whether a segment starts at it.
-- Source: Merrill and Garland, Single-pass Parallel Prefix Scan with Decoupled Look-back, 2016.
use Rattle.std.specs.Prelude.{◌≡◌, ℕ, zero, suc, ◌+◌, ◌-◌, ◌<◌, ◌≤◌, ℤ, pos, Bool, true, false, IsTrue, List, [], ◌∷◌, length, take, drop}
use Rattle.std.specs.Prelude.{map, slice_index_or}
use Rattle.std.specs.List.{All, AllPass}
use Rattle.operators.specs.Folds.{fold_of}
use Rattle.operators.specs.Lists.{joined}
use Rattle.operators.specs.SegmentMonoid.{is_seg_item, seg_unit, seg_join}

-- the elements of a run of tiles, joined in order
abbrev pub sum_of_tiles : {Item : Type 0} → (Item → Item → Item) → Item → List (List (Bool × Item)) → Bool × Item
sum_of_tiles join unit tiles = fold_of (seg_join join) (seg_unit unit) (joined tiles)

-- the aggregate of tile t: its elements joined in order
abbrev pub sum_at : {Item : Type 0} → (Item → Item → Item) → Item → List (List (Bool × Item)) → ℕ → Bool × Item
sum_at join unit tiles t = fold_of (seg_join join) (seg_unit unit) (slice_index_or tiles t [])

-- the inclusive prefix of tile t: that of tiles 0 to t
abbrev pub upto : {Item : Type 0} → (Item → Item → Item) → Item → List (List (Bool × Item)) → ℕ → Bool × Item
upto join unit tiles t = sum_of_tiles join unit (take (t + 1) tiles)

-- the exclusive prefix of tile t
abbrev pub before : {Item : Type 0} → (Item → Item → Item) → Item → List (List (Bool × Item)) → ℕ → Bool × Item
before join unit tiles zero = seg_unit unit
before join unit tiles (suc t) = upto join unit tiles t

-- that of the tiles from `first` on that stand before tile t
abbrev pub between : {Item : Type 0} → (Item → Item → Item) → Item → List (List (Bool × Item)) → ℕ → ℕ → Bool × Item
between join unit tiles first t = sum_of_tiles join unit (take (t - first) (drop first tiles))

-- ---- the same if each tile is given only by its sum

-- the sum of each tile, in order
abbrev pub listed_sums : {Item : Type 0} → (Item → Item → Item) → Item → List (List (Bool × Item)) → List (Bool × Item)
listed_sums join unit tiles = map (fold_of (seg_join join) (seg_unit unit)) tiles

-- that of tile t
abbrev pub own_sum : {Item : Type 0} → Item → List (Bool × Item) → ℕ → Bool × Item
own_sum unit sums t = slice_index_or sums t (seg_unit unit)

-- what those of the tiles before tile t join to
abbrev pub before_tile : {Item : Type 0} → (Item → Item → Item) → Item → List (Bool × Item) → ℕ → Bool × Item
before_tile join unit sums t = fold_of (seg_join join) (seg_unit unit) (take t sums)

-- what those of the tiles up to tile t join to
abbrev pub upto_tile : {Item : Type 0} → (Item → Item → Item) → Item → List (Bool × Item) → ℕ → Bool × Item
upto_tile join unit sums t = before_tile join unit sums (t + 1)

-- what those of the tiles from `first` on that stand before tile t join to
abbrev pub between_tiles : {Item : Type 0} → (Item → Item → Item) → Item → List (Bool × Item) → ℕ → ℕ → Bool × Item
between_tiles join unit sums first t = fold_of (seg_join join) (seg_unit unit) (take (t - first) (drop first sums))

-- how these fit together, and how a look-back nears the tiles before tile t: it starts from no tile, takes one tile more in front, and is
-- done at a tile before which the sum is known
pub record SumsLaws {Item : Type 0} (is_item : Item → Bool) (join : Item → Item → Item) (unit : Item)
    (sums : List (Bool × Item)) : Type 0 where
  pub own : (t : ℕ) → IsTrue (is_seg_item is_item (own_sum unit sums t))
  pub exclusive : (t : ℕ) → IsTrue (is_seg_item is_item (before_tile join unit sums t))
  pub middle : (first t : ℕ) → IsTrue (is_seg_item is_item (between_tiles join unit sums first t))
  pub none_before : before_tile join unit sums 0 ≡ seg_unit unit
  pub before_next : (t : ℕ) → t < length sums →
      upto_tile join unit sums t ≡ seg_join join (before_tile join unit sums t) (own_sum unit sums t)
  pub none_between : (t : ℕ) → between_tiles join unit sums t t ≡ seg_unit unit
  pub one_more : (first t : ℕ) → first < t → t ≤ length sums →
      between_tiles join unit sums first t ≡ seg_join join (own_sum unit sums first) (between_tiles join unit sums (first + 1) t)
  pub met : (first t : ℕ) → first ≤ t →
      seg_join join (before_tile join unit sums first) (between_tiles join unit sums first t) ≡ before_tile join unit sums t
  pub all_between : (t : ℕ) → between_tiles join unit sums 0 t ≡ before_tile join unit sums t

-- ---- the elements of tiles

-- each element of each tile is an item
abbrev pub AllTilesPass : {Element : Type 0} → (Element → Bool) → List (List Element) → Type 0
AllTilesPass is_item tiles = All (AllPass is_item) tiles

-- the tiles of the worked values: segments of lengths 2 and 3 over the numbers 5 1 7 7 1, in tiles of two elements
abbrev pub worked_tiles : List (List (Bool × ℤ))
worked_tiles = ((true, pos 5) ∷ (false, pos 1) ∷ []) ∷ ((true, pos 7) ∷ (false, pos 7) ∷ []) ∷ ((false, pos 1) ∷ []) ∷ []
