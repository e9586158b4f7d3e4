-- How a list is cut into tiles: runs of one length in order, the last of which may be shorter.
-- Source: the tiles of Merrill and Garland, Single-pass Parallel Prefix Scan with Decoupled Look-back, 2016.
use Rattle.std.specs.Prelude.{◌≡◌, ℕ, ◌+◌, ◌-◌, ◌*◌, ◌<◌, min, List, [], length, slice_index_or}
use Rattle.std.specs.Int.{div_ceil}
use Rattle.cvl_base.specs.Lists.{joined}

-- how many elements a list has, and the length of the tiles that it is cut into
pub record Tiling : Type 0 where
  pub len : ℕ
  pub tile : ℕ

-- how many tiles there are: len / tile, rounded up
abbrev pub tile_count : ℕ → ℕ → ℕ
tile_count len tile = div_ceil len tile

-- where tile t starts and ends, without the end
abbrev pub range_of : ℕ → ℕ → ℕ → ℕ × ℕ
range_of len tile t = (t * tile, min len ((t + 1) * tile))

-- how many places tile t has
abbrev pub length_of : ℕ → ℕ → ℕ → ℕ
length_of len tile t = (range_of len tile t).1 - (range_of len tile t).0

-- `count` ranges that part the places below `len`: the first begins at 0, each next where the one before it ends, the last ends at
-- `len`, and none is empty
pub record IsPartition (len count : ℕ) (range : ℕ → ℕ × ℕ) : Type 0 where
  pub first : 0 < count → (range 0).0 ≡ 0
  pub next : (t : ℕ) → t + 1 < count → (range (t + 1)).0 ≡ (range t).1
  pub last : (t : ℕ) → t + 1 ≡ count → (range t).1 ≡ len
  pub filled : (t : ℕ) → t < count → (range t).0 < (range t).1
  pub none : count ≡ 0 → len ≡ 0

-- the tiles that a plan cuts a list into: as many as its ranges, each as long as its range, and in order the list
pub record IsCutBy {Element : Type 0} (len tile : ℕ) (xs : List Element) (tiles : List (List Element)) : Type 0 where
  pub whole : joined tiles ≡ xs
  pub as_many : length tiles ≡ tile_count len tile
  pub as_long : (t : ℕ) → t < tile_count len tile → length (slice_index_or tiles t []) ≡ length_of len tile t
