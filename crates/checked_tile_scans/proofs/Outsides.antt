-- The first number of a list that doesn't fit 32 bits, and the first tile that has one.
-- Source: what the definitions of Checked and CheckedSums imply.
use Rattle.checked_tile_scans.proofs.Cited.{◌≡◌, ◌∙◌, ◌+◌, ◌<◌, ◌≤◌, ◌∷◌, ◌++◌, if◌then◌else◌, refl, sym, ap, subst, ℕ, Bool, true, false, ℤ, List, length, map, take, drop, arith, Option, Some}
use Rattle.checked_tile_scans.proofs.Cited.{None, Err, option_map, range_with_len, le-ltb, lt-ltb, length-append, length-take, none-some, fitting, values_from, fault_at, fitting_front, range_of}
use Rattle.checked_tile_scans.proofs.Cited.{tile_count, tile_of, zero, suc, ◌*◌, min, false_from_ne_true, ltb-false, ltb-true, append_assoc, take-append-drop, take_all, cond_some, Overflow}
use Rattle.checked_tile_scans.proofs.Cited.{overflows, tiles_more, Tiling}
use Rattle.boards.specs.Slots.{least_from}
use Rattle.scan_walks.proofs.FrontLaws.{front_past, front_within}
use Rattle.tile_plan.proofs.Numbers.{starts_past, starts_within}
use Rattle.checked_tile_scans.specs.Checked.{first_outside, has_outside, tile_outside}

-- ---- one list

pub overflow_meant : (zs : List ℤ) (p : ℕ) → first_outside zs ≡ Some p → values_from Overflow 0 (map fitting zs) ≡ Err (fault_at Overflow p)
overflow_meant zs p is =
    let at = cond_some (has_outside zs) (fitting_front zs) p is in
    let none : 0 + fitting_front zs ≡ fitting_front zs = omega arith in
    overflows 0 zs (ltb-true (fitting_front zs) (length zs) at.0) ∙ ap (λ q. Err (fault_at Overflow q)) (none ∙ at.1)

pub none_outside : (zs : List ℤ) → first_outside zs ≡ None → length zs ≤ fitting_front zs
none_outside zs is =
    ltb-false (fitting_front zs) (length zs)
    (false_from_ne_true (has_outside zs) (λ outside. none-some (fitting_front zs) (sym is ∙ ap (λ b. if b then Some (fitting_front zs) else None) outside)))

-- ---- the first tile with such a number, as the race for it tells

abbrev pub Told : Tiling → List ℤ → Option ℕ → Type 0
Told plan zs None = first_outside zs ≡ None
Told plan zs (Some t) = (t < tile_count plan.len plan.tile) × (first_outside zs ≡ tile_outside plan zs t)

module _ (plan : Tiling) (zs : List ℤ) (some : 1 ≤ plan.tile) (whole : length zs ≡ plan.len) where
  -- the numbers before tile t
  abbrev front : ℕ → List ℤ
  front t = take (min plan.len (t * plan.tile)) zs

  abbrev slots : ℕ → ℕ → List (Option ℕ)
  slots t n = map (λ k. option_map (λ _. 0) (tile_outside plan zs k)) (range_with_len t n)

  -- where all numbers before tile t fit, and one of the tile doesn't
  stops : (t : ℕ) → t < tile_count plan.len plan.tile → length (front t) ≤ fitting_front (front t) → has_outside (tile_of plan.len plan.tile zs t) ≡ true → first_outside zs ≡ tile_outside plan zs t
  stops t below fits outside =
      let piece = tile_of plan.len plan.tile zs t in
      let end : ℕ = min plan.len ((t + 1) * plan.tile) in
      let rest = drop end zs in
      let start : ℕ = (range_of plan.len plan.tile t).0 in
      let parts : zs ≡ front t ++ (piece ++ rest) = sym (take-append-drop end zs) ∙ ap (λ ys. ys ++ rest) (tiles_more plan t zs some below) ∙ append_assoc (front t) piece rest in
      let lt = ltb-true (fitting_front piece) (length piece) outside in
      let long : length (front t) ≡ start = omega (arith, length-take (min plan.len (t * plan.tile)) zs, whole, starts_within plan.len plan.tile t some below) in
      let at : fitting_front (front t ++ (piece ++ rest)) ≡ start + fitting_front piece = omega (arith, front_past (front t) (piece ++ rest) fits, front_within piece rest lt, long) in
      let same : fitting_front zs ≡ start + fitting_front piece = ap fitting_front parts ∙ at in
      let inside : fitting_front zs < length zs = omega (arith, same, lt, long, ap length parts, length-append (front t) (piece ++ rest), length-append piece rest) in
      (λ i. if lt-ltb (fitting_front zs) (length zs) inside i then Some (same i) else None)
      ∙ sym (ap (λ b. option_map (λ k. start + k) (if b then Some (fitting_front piece) else None)) outside)

  found_at : (outside : Bool) (t : ℕ) (ts : List (Option ℕ)) → has_outside (tile_of plan.len plan.tile zs t) ≡ outside → t < tile_count plan.len plan.tile → length (front t) ≤ fitting_front (front t)
      → (length (front (t + 1)) ≤ fitting_front (front (t + 1)) → Told plan zs (least_from (t + 1) ts 0))
      → Told plan zs (least_from t (option_map (λ _. 0)
      (option_map (λ k. (range_of plan.len plan.tile t).0 + k) (if outside then Some (fitting_front (tile_of plan.len plan.tile zs t)) else None)) ∷ ts) 0)
  found_at true t ts is below fits later = (below, stops t below fits is)
  found_at false t ts is below fits later =
      let piece = tile_of plan.len plan.tile zs t in
      let here = ltb-false (fitting_front piece) (length piece) is in
      later (subst (λ ys. length ys ≤ fitting_front ys) (sym (tiles_more plan t zs some below)) (omega (arith, length-append (front t) piece, front_past (front t) piece fits, here)))

  -- from tile t on, where all numbers before it fit
  found_from : (t n : ℕ) → t + n ≡ tile_count plan.len plan.tile → length (front t) ≤ fitting_front (front t) → Told plan zs (least_from t (slots t n) 0)
  found_from t zero all fits =
      let end : t ≡ tile_count plan.len plan.tile = omega arith in
      let same = take_all (min plan.len (tile_count plan.len plan.tile * plan.tile)) zs (omega (arith, whole, starts_past plan.len plan.tile some)) in
      let fit = subst (λ ys. length ys ≤ fitting_front ys) same (subst (λ k. length (front k) ≤ fitting_front (front k)) end fits) in
      ap (λ b. if b then Some (fitting_front zs) else None) (le-ltb (fitting_front zs) (length zs) fit)
  found_from t (suc n) all fits =
      found_at (has_outside (tile_of plan.len plan.tile zs t)) t (slots (t + 1) n) refl (omega arith) fits (λ more. found_from (t + 1) n (omega arith) more)

  pub first_told : (told : Option ℕ) → told ≡ least_from 0 (slots 0 (tile_count plan.len plan.tile)) 0 → Told plan zs told
  first_told told is =
      let none : min plan.len (0 * plan.tile) ≡ 0 = omega arith in
      subst (Told plan zs) (sym is)
      (found_from 0 (tile_count plan.len plan.tile) (omega arith) (subst (λ k. length (take k zs) ≤ fitting_front (take k zs)) (sym none) (omega arith)))
