-- The results of a tile, and the first of them that doesn't fit 32 bits, as a walk over the tile finds it; and the scan that is written
-- where all results fit.
-- Source: what the definitions of Checked imply.
use Rattle.checked_tile_scans.proofs.Cited.{◌≡◌, ◌∙◌, ◌+◌, ◌-◌, ◌<◌, ◌≤◌, ◌+ℤ◌, if◌then◌else◌, refl, sym, ap, subst, ℕ, Bool, false, ℤ, pos, to_z, of_z, w64, FitsSigned, List, length, map, take}
use Rattle.checked_tile_scans.proofs.Cited.{drop, get_or, arith, Option, Some, None, Ok, option_map, le-ltb, lt-ltb, to_z-of_z, length-drop, length-take, get_or-map-range_with_len}
use Rattle.checked_tile_scans.proofs.Cited.{length-map-range_with_len, exact_laws, word-in, fitting, values_from, sum_of, is_number, is_word, fitting_front, range_scan_of, zero_wrapped, range_of}
use Rattle.checked_tile_scans.proofs.Cited.{tile_count, tile_of, Tiling, IsTiled, IsTrue, Overflow, none_overflows, range_scan-drop, range_scan-take, front_is_item}
use Rattle.scan_walks.proofs.RangeParts.{length-range_scan_of}
use Rattle.checked_tile_scans.specs.Checked.{first_outside, slots_of_tiles, tile_outside, total_scan, total_since, totals_before}
use Rattle.checked_tile_scans.proofs.Outsides.{none_outside}
use Rattle.checked_tile_scans.proofs.SegmentTotals.{before_there}
use Rattle.checked_tile_scans.proofs.WholeSums.{front_total, worded, wrapped_since}
use Rattle.checked_tile_scans.proofs.WideSums.{fits_wide}

module _ {plan : Tiling} {ws : List (Bool × ℤ)} (is : IsTiled is_number plan ws) where
  total_fits : (k : ℕ) → FitsSigned w64 (total_since (take k ws)).1
  total_fits k =
      fits_wide (total_since (take k ws)).1 (word-in (total_since (take k ws)).1 (subst (λ w. IsTrue (is_word w.1)) (front_total is k) (front_is_item exact_laws (worded is) k)))

  pub length-total_scan : length (total_scan ws) ≡ plan.len
  length-total_scan = length-range_scan_of ◌+ℤ◌ (pos 0) (pos 0) ws ∙ is.whole

  -- how many results of tile t fit, from the first one on, as a walk from what is known to stand before it finds
  pub tile_front : (known : List ℤ) (t k : ℕ) → known ≡ totals_before plan ws → t < tile_count plan.len plan.tile
      → k ≡ fitting_front (range_scan_of ◌+ℤ◌ (pos 0) (to_z w64 (of_z w64 (get_or known t (pos 0)))) (tile_of plan.len plan.tile ws t))
      → k ≡ fitting_front (tile_of plan.len plan.tile (total_scan ws) t)
  tile_front known t k known_is below met =
      let from : ℕ = (range_of plan.len plan.tile t).0 in
      let n : ℕ = (range_of plan.len plan.tile t).1 - from in
      let before = total_since (take from ws) in
      met
      ∙ ap (λ z. fitting_front (range_scan_of ◌+ℤ◌ (pos 0) (to_z w64 (of_z w64 z)) (tile_of plan.len plan.tile ws t))) (before_there plan ws known t known_is below)
      ∙ ap (λ z. fitting_front (range_scan_of ◌+ℤ◌ (pos 0) z (tile_of plan.len plan.tile ws t))) (to_z-of_z w64 before.1 (total_fits from))
      ∙ ap fitting_front (sym (ap (take n) (range_scan-drop ◌+ℤ◌ (pos 0) false (pos 0) from ws) ∙ range_scan-take ◌+ℤ◌ (pos 0) before.1 n (drop from ws)))

  -- so the walk finds the first that doesn't
  module _ (t k : ℕ) (range : ℕ × ℕ) (range_is : range ≡ range_of plan.len plan.tile t) (k_is : k ≡ fitting_front (tile_of plan.len plan.tile (total_scan ws) t)) where
    tile_long : length (tile_of plan.len plan.tile (total_scan ws) t) ≡ range.1 - range.0
    tile_long =
        let from : ℕ = (range_of plan.len plan.tile t).0 in
        let n : ℕ = (range_of plan.len plan.tile t).1 - from in
        omega (arith, length-take n (drop from (total_scan ws)), length-drop from (total_scan ws), length-total_scan, ap (λ r. r.0) range_is, ap (λ r. r.1) range_is)

    pub outside_there : k < range.1 - range.0 → Some (range.0 + k) ≡ tile_outside plan (total_scan ws) t
    outside_there lt =
        let piece = tile_of plan.len plan.tile (total_scan ws) t in
        let outside = lt-ltb (fitting_front piece) (length piece) (omega (arith, lt, k_is, tile_long)) in
        (λ i. Some ((range_is i).0 + k_is i)) ∙ sym (ap (λ b. option_map (λ j. (range_of plan.len plan.tile t).0 + j) (if b then Some (fitting_front piece) else None)) outside)

    pub none_there : range.1 - range.0 ≤ k → None ≡ tile_outside plan (total_scan ws) t
    none_there ge =
        let piece = tile_of plan.len plan.tile (total_scan ws) t in
        let within = le-ltb (fitting_front piece) (length piece) (omega (arith, ge, k_is, tile_long)) in
        sym (ap (λ b. option_map (λ j. (range_of plan.len plan.tile t).0 + j) (if b then Some (fitting_front piece) else None)) within)

  -- ---- the scan, written where all results fit

  pub scan_meant : first_outside (total_scan ws) ≡ None → values_from Overflow 0 (map fitting (total_scan ws)) ≡ Ok (range_scan_of sum_of (pos 0) (pos 0) ws)
  scan_meant fit =
      none_overflows _ (total_scan ws) refl (range_scan_of sum_of (pos 0) (pos 0) ws) (none_outside (total_scan ws) fit)
      (ap (λ z. range_scan_of sum_of (pos 0) z ws) (sym zero_wrapped) ∙ (wrapped_since false (pos 0) ws is.items).1)

-- the slots of tiles
module _ (plan : Tiling) (ws : List (Bool × ℤ)) where
  pub length-slots : length (slots_of_tiles plan ws) ≡ tile_count plan.len plan.tile
  length-slots = length-map-range_with_len (λ t. option_map (λ _. 0) (tile_outside plan (total_scan ws) t)) 0 (tile_count plan.len plan.tile)

  pub slot_there : (t : ℕ) (place : Option ℕ) → t < length (slots_of_tiles plan ws) → place ≡ tile_outside plan (total_scan ws) t → option_map (λ _. 0) place ≡ get_or (slots_of_tiles plan ws) t None
  slot_there t place below is =
      ap (option_map (λ _. 0)) is
      ∙ sym (get_or-map-range_with_len (λ k. option_map (λ _. 0) (tile_outside plan (total_scan ws) k)) 0 (tile_count plan.len plan.tile) t t None (omega (arith, below, length-slots)) (omega arith))
