-- The elements of a vector, each with whether a segment starts at it, flat or segmented: as many, items, and a range of them.
use Rattle.tile_scans.proofs.Cited.{◌≡◌, ℕ, ◌≤◌, Bool, false, true, List, length, map, sym, ap, ◌∙◌, arith, Option, Some, None, slice_range, sum, AllPass, list_all, length-map}
use Rattle.tile_scans.proofs.Cited.{AllPass-from_list_all, most_elements, is_seg_item, continued, range_between, range_scan_of, length-with_starts, Tiling}
use Rattle.std.proofs.lemmas.List.Folds.{list_all-map}
use Rattle.scan_walks.proofs.RangeParts.{length-range_scan_of}
use Rattle.tile_scans.specs.TiledSums.{elements_of, flagged}
use Rattle.tile_scans.proofs.RangeScans.{continued_passes, continued_slice, range_is_slice, with_starts_passes}
use Rattle.tile_scans.proofs.SumsOfTiles.{IsTiled}

-- the segments have all of the elements
pub total_agrees : (segments : Option (List ℕ)) (lengths : List ℕ) (n : ℕ) → segments ≡ Some lengths → elements_of segments n ≡ n → sum lengths ≡ n
total_agrees segments lengths n cut agrees = ap (λ s. elements_of s n) (sym cut) ∙ agrees

module _ {Item : Type 0} where
  pub flagged_passes : (is_item : Item → Bool) (segments : Option (List ℕ)) (xs : List Item) → AllPass is_item xs → AllPass (is_seg_item is_item) (flagged segments xs)
  flagged_passes is_item None xs items = continued_passes is_item xs items
  flagged_passes is_item (Some lengths) xs items = with_starts_passes is_item lengths xs items

  pub length-flagged : (segments : Option (List ℕ)) (xs : List Item) → elements_of segments (length xs) ≡ length xs → length (flagged segments xs) ≡ length xs
  length-flagged None xs agrees = length-map xs (λ x. (false, x))
  length-flagged (Some lengths) xs agrees = length-with_starts lengths xs (omega (arith, agrees))

  pub tiled : (is_item : Item → Bool) (segments : Option (List ℕ)) (xs : List Item) (plan : Tiling) → list_all is_item xs ≡ true → elements_of segments (length xs) ≡ length xs
      → plan.len ≡ length xs → plan.len ≤ most_elements → 1 ≤ plan.tile → IsTiled is_item plan (flagged segments xs)
  tiled is_item segments xs plan items agrees whole few some = record {
    some = some;
    few = few;
    whole = length-flagged segments xs agrees ∙ sym whole;
    items = flagged_passes is_item segments xs (AllPass-from_list_all is_item xs items);
  }

  -- a range of them, where the vector is flat and where it is not
  module _ (segments : Option (List ℕ)) (xs : List Item) (from to : ℕ) where
    pub flat_range : segments ≡ None → continued (slice_range xs from to) ≡ slice_range (flagged segments xs) from to
    flat_range flat = sym (continued_slice xs from to) ∙ ap (λ s. slice_range (flagged s xs) from to) (sym flat)

    pub cut_range : (lengths : List ℕ) → segments ≡ Some lengths → range_between lengths xs from to ≡ slice_range (flagged segments xs) from to
    cut_range lengths cut = range_is_slice lengths xs from to ∙ ap (λ s. slice_range (flagged s xs) from to) (sym cut)

-- ---- elements that are read as items

module _ {X Item : Type 0} (item : X → Item) (segments : Option (List ℕ)) (xs : List X) (agrees : elements_of segments (length xs) ≡ length xs) where
  agrees_read : elements_of segments (length (map item xs)) ≡ length (map item xs)
  agrees_read = ap (elements_of segments) (length-map xs item) ∙ agrees ∙ sym (length-map xs item)

  -- the scan is as long as the vector
  pub length-scanned : (join : Item → Item → Item) (unit : Item) → length (range_scan_of join unit unit (flagged segments (map item xs))) ≡ length xs
  length-scanned join unit = length-range_scan_of join unit unit (flagged segments (map item xs)) ∙ length-flagged segments (map item xs) agrees_read ∙ length-map xs item

  pub tiled_read : (is_item : Item → Bool) (plan : Tiling) → list_all (λ x. is_item (item x)) xs ≡ true → plan.len ≡ length xs → plan.len ≤ most_elements → 1 ≤ plan.tile
      → IsTiled is_item plan (flagged segments (map item xs))
  tiled_read is_item plan items whole few some =
      tiled is_item segments (map item xs) plan (list_all-map is_item item xs ∙ items) agrees_read (whole ∙ sym (length-map xs item)) few some
