-- What a pack keeps, and where it puts it.
-- Source: Blelloch, Vector Models for Data-Parallel Computing, 1990 (a pack sends each element whose flag is true to the
-- number of true flags before it); the tiles of Merrill and Garland, Single-pass Parallel Prefix Scan with Decoupled Look-back, 2016.
use Rattle.std.specs.Prelude.{◌≡◌, ℕ, ◌+◌, ◌*◌, ◌≤◌, ℤ, pos, Bool, List, length, map, take, filter}
use Rattle.std.specs.List.{range_with_len, zip}
use Rattle.cvl_base.specs.Packs.{count_of}
use Rattle.tile_plan.specs.Ranges.{tile_count}

-- the elements whose flag is true, in order
abbrev pub kept_of : {X : Type 0} → List X → List Bool → List X
kept_of xs flags = map (λ p. p.0) (filter (λ p. p.1) (zip xs flags))

-- the number of true flags before tile t, which is the place of the first element kept of the tile; that of all flags if there is no such
-- tile
abbrev pub count_before : List Bool → ℕ → ℕ → ℕ
count_before flags tile t = count_of (take (t * tile) flags)

-- that of each tile, as integers
abbrev pub counts_before : List Bool → ℕ → List ℤ
counts_before flags tile = map (λ t. pos (count_before flags tile t)) (range_with_len 0 (tile_count (length flags) tile))

-- the `room` places from `first` on hold what is kept of the tiles from one up to another, without that
pub record ArePlacesOf {X : Type 0} (xs : List X) (flags : List Bool) (tile from to first room : ℕ) : Type 0 where
  pub begin : first ≡ count_before flags tile from
  pub end : first + room ≡ count_before flags tile to
  pub within : first + room ≤ length (kept_of xs flags)
