-- Vectors walked in tiles: what each tile sums up to.
-- Source: the tiles of Merrill and Garland, Single-pass Parallel Prefix Scan with Decoupled Look-back, 2016.
use Rattle.std.specs.Prelude.{ℕ, Bool, List, Option, Some, None, map, slice_range, sum}
use Rattle.std.specs.List.{range_with_len}
use Rattle.cvl_base.specs.Folds.{fold_of}
use Rattle.cvl_base.specs.SegmentMonoid.{seg_unit, seg_join}
use Rattle.tile_plan.specs.Ranges.{tile_count, range_of}
use Rattle.scan_walks.specs.Ranges.{continued, with_starts}

-- the elements of a vector, each with whether a segment starts at it; in a flat vector none does
abbrev pub flagged : {Item : Type 0} → Option (List ℕ) → List Item → List (Bool × Item)
flagged None xs = continued xs
flagged (Some lengths) xs = with_starts lengths xs

-- how many elements the segments have together, or this number if the vector is flat
abbrev pub elements_of : Option (List ℕ) → ℕ → ℕ
elements_of None n = n
elements_of (Some lengths) n = sum lengths

-- of a list that is cut into tiles, the elements of tile t
abbrev pub tile_of : {X : Type 0} → ℕ → ℕ → List X → ℕ → List X
tile_of len tile xs t = slice_range xs (range_of len tile t).0 (range_of len tile t).1

-- the sum of each tile, in order
abbrev pub sums_of : {Item : Type 0} → (Item → Item → Item) → Item → ℕ → ℕ → List (Bool × Item) → List (Bool × Item)
sums_of join unit len tile ws =
    map (λ t. fold_of (seg_join join) (seg_unit unit) (tile_of len tile ws t)) (range_with_len 0 (tile_count len tile))
