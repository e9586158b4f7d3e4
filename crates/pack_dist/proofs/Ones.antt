-- The sum of flags that are read as 1 and 0 is the number of true ones.
use Rattle.pack_dist.proofs.Cited.{◌≡◌, ℕ, ◌+◌, ◌*◌, ◌≤◌, ℤ, pos, w32, Bool, true, false, cond, List, [], ◌∷◌, length, take, map, refl, ap, ◌∙◌, arith, None, list_all, range_with_len, int_wrap_fits}
use Rattle.pack_dist.proofs.Cited.{fits_signed_from_abs, length-take, take-map, integer_of, fold_of, sum_of, wrap, most_elements, most_places, count_of, count-cons, continued, tile_count}
use Rattle.cvl_base.specs.ItemWords.{is_number}
use Rattle.cvl_base.specs.Monoid.{MonoidLaws}
use Rattle.cvl_base.specs.SegmentMonoid.{seg_join, seg_unit}
use Rattle.scan_walks.proofs.LastStart.{continued_summed}
use Rattle.tile_scans.specs.TiledSums.{flagged, sums_of}
use Rattle.tile_scans.specs.Written.{befores_of}
use Rattle.tile_scans.proofs.Flagged.{tiled_read}
use Rattle.tile_scans.proofs.SumsOfTiles.{befores_are, stands_before}
use Rattle.pack_dist.specs.Kept.{counts_before}

wrap-few : (n : ℕ) → n ≤ most_places → wrap (pos n) ≡ pos n
wrap-few n few = int_wrap_fits w32 (pos n) (fits_signed_from_abs w32 (pos n) (omega arith))

one_more : (n : ℕ) (flag : Bool) → n + 1 ≤ most_places → sum_of (pos n) (integer_of flag) ≡ pos (n + cond flag 1 0)
one_more n true few = wrap-few (n + 1) few
one_more n false few = wrap-few (n + 0) (omega (arith, few))

ones_from : (n : ℕ) (flags : List Bool) → n + length flags ≤ most_places → fold_of sum_of (pos n) (map integer_of flags) ≡ pos (n + count_of flags)
ones_from n [] few = ap pos (omega arith)
ones_from n (true ∷ flags) few =
    ap (λ z. fold_of sum_of z (map integer_of flags)) (one_more n true (omega (arith, few)))
    ∙ ones_from (n + 1) flags (omega (arith, few))
    ∙ ap pos (omega (arith, count-cons true flags))
ones_from n (false ∷ flags) few =
    ap (λ z. fold_of sum_of z (map integer_of flags)) (one_more n false (omega (arith, few)))
    ∙ ones_from (n + 0) flags (omega (arith, few))
    ∙ ap pos (omega (arith, count-cons false flags))

pub ones_counted : (flags : List Bool) → length flags ≤ most_places → fold_of sum_of (pos 0) (map integer_of flags) ≡ pos (count_of flags)
ones_counted flags few = ones_from 0 flags (omega (arith, few)) ∙ ap pos (omega arith)

-- ---- the counts before each tile

ones_are_numbers : (flags : List Bool) → list_all (λ flag. is_number (integer_of flag)) flags ≡ true
ones_are_numbers [] = refl
ones_are_numbers (true ∷ flags) = ones_are_numbers flags
ones_are_numbers (false ∷ flags) = ones_are_numbers flags

-- flags that are read as 1 and 0, in none of which a segment starts
abbrev ones : List Bool → List (Bool × ℤ)
ones flags = flagged None (map integer_of flags)

stand_before : (flags : List Bool) (place : ℕ) → length flags ≤ most_elements → stands_before sum_of (pos 0) (ones flags) place ≡ pos (count_of (take place flags))
stand_before flags place few =
    ap (λ ws. (fold_of (seg_join sum_of) (seg_unit (pos 0)) ws).1)
    (take-map (λ x. (false, x)) place (map integer_of flags) ∙ ap continued (take-map integer_of place flags))
    ∙ ap (λ w. w.1) (continued_summed sum_of false (pos 0) (map integer_of (take place flags)))
    ∙ ones_counted (take place flags) (omega (arith, few, length-take place flags))

-- what stands before each tile of them is the number of true flags there
pub tiles_counted : MonoidLaws is_number (pos 0) sum_of → (flags : List Bool) (tile : ℕ) → 1 ≤ tile → length flags ≤ most_elements
    → befores_of sum_of (pos 0) (sums_of sum_of (pos 0) (length flags) tile (ones flags)) ≡ counts_before flags tile
tiles_counted laws flags tile some few =
    befores_are laws (tiled_read integer_of None flags refl is_number (record { len = length flags; tile = tile }) (ones_are_numbers flags) refl few some)
    ∙ λ i. map (λ t. stand_before flags (t * tile) few i) (range_with_len 0 (tile_count (length flags) tile))
