-- Checked scans in tiles: what stands before each tile over whole numbers, and which results don't fit 32 bits.
-- Source: Blelloch's segmented scans and the tiles of Merrill and Garland; the fault, at the first result that doesn't fit, is this
-- library's profile.
use Rattle.std.specs.Prelude.{ℕ, ◌+◌, Bool, ℤ, pos, ◌+ℤ◌, List, length, map, take, nat_lt, Option, Some, None, option_map, if◌then◌else◌}
use Rattle.std.specs.List.{range_with_len}
use Rattle.cvl_base.specs.Folds.{fold_of}
use Rattle.cvl_base.specs.SegmentMonoid.{seg_join, seg_unit}
use Rattle.tile_plan.specs.Ranges.{Tiling, tile_count, range_of}
use Rattle.scan_walks.specs.Fronts.{fitting_front}
use Rattle.scan_walks.specs.Ranges.{reduces_of, range_scan_of}
use Rattle.tile_scans.specs.TiledSums.{tile_of}

-- what elements add up to since the last start of a segment
abbrev pub total_since : List (Bool × ℤ) → Bool × ℤ
total_since ws = fold_of (seg_join ◌+ℤ◌) (seg_unit (pos 0)) ws

-- what stands before each tile
abbrev pub totals_before : Tiling → List (Bool × ℤ) → List ℤ
totals_before plan ws =
    map (λ t. (total_since (take (range_of plan.len plan.tile t).0 ws)).1) (range_with_len 0 (tile_count plan.len plan.tile))

-- the results of the scan, whether they fit or not
abbrev pub total_scan : List (Bool × ℤ) → List ℤ
total_scan ws = range_scan_of ◌+ℤ◌ (pos 0) (pos 0) ws

-- whether a number of a list doesn't fit
abbrev pub has_outside : List ℤ → Bool
has_outside zs = nat_lt (fitting_front zs) (length zs)

-- the place of the first one that doesn't
abbrev pub first_outside : List ℤ → Option ℕ
first_outside zs = if has_outside zs then Some (fitting_front zs) else None

-- of a list that is cut into tiles, the place of the first number of tile t that doesn't fit
abbrev pub tile_outside : Tiling → List ℤ → ℕ → Option ℕ
tile_outside plan zs t = option_map (λ k. (range_of plan.len plan.tile t).0 + k) (first_outside (tile_of plan.len plan.tile zs t))

-- the slots of tiles: one slot for all tiles with a result that doesn't fit, and none for the others
abbrev pub slots_of_tiles : Tiling → List (Bool × ℤ) → List (Option ℕ)
slots_of_tiles plan ws =
    map (λ t. option_map (λ _. 0) (tile_outside plan (total_scan ws) t)) (range_with_len 0 (tile_count plan.len plan.tile))

-- the sum of each segment, whether it fits or not
abbrev pub segment_totals : List ℕ → List ℤ → List ℤ
segment_totals lengths xs = reduces_of ◌+ℤ◌ (pos 0) lengths xs
