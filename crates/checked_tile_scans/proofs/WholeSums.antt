-- What the tiles of a vector of integers join to: exactly their sum over whole numbers, and, wrapped to 32 bits, their wrapped sum.
-- Source: what the definitions of Exact and Integers imply.
use Rattle.checked_tile_scans.proofs.Cited.{◌≡◌, ◌∙◌, ◌+◌, ◌≤◌, ◌+ℤ◌, ◌∷◌, ◌++◌, refl, sym, ap, ℕ, Bool, true, false, ℤ, pos, w32, List, [], length, map, take, get_or, arith, AllPass}
use Rattle.checked_tile_scans.proofs.Cited.{range_with_len, ints, length-append, length-take, exact_sum_of, total_of, exact_laws, number_words, sum_of, wrap, is_number, is_word, range_scan_of}
use Rattle.checked_tile_scans.proofs.Cited.{zero_wrapped, range_of, tile_count, sums_of, befores_of, IsTiled, int_wrap-add_left, All-append, All-cons, All-head, All-nil, All-tail, fold-append}
use Rattle.checked_tile_scans.proofs.Cited.{exact_fold_on, sum_laws, fold_of, befores_are, front_passes, Tiling}
use Rattle.std.proofs.lemmas.Simd.{map-map}
use Rattle.cvl_base.specs.Booleans.{either}
use Rattle.cvl_base.specs.SegmentMonoid.{is_seg_item, seg_join, seg_unit}
use Rattle.checked_tile_scans.specs.Checked.{total_since, totals_before}

-- numbers are words
pub worded : {plan : Tiling} {ws : List (Bool × ℤ)} → IsTiled is_number plan ws → IsTiled is_word plan ws
worded {ws = ws} is = record { some = is.some; few = is.few; whole = is.whole; items = λ i d lt. number_words.fits (get_or ws i d).1 (is.items i d lt) }

one_number : (x : ℤ) → is_number x ≡ true → AllPass is_number (x ∷ [])
one_number x number = All-cons (λ y. is_number y ≡ true) x [] number (All-nil (λ y. is_number y ≡ true))

-- ---- exact sums since the last start, where numbers that add up to the value stand before

exact_since : (f : Bool) (before : List ℤ) (ws : List (Bool × ℤ)) → length before + length ws ≤ 4194304 → AllPass is_number before → AllPass (is_seg_item is_number) ws
    → fold_of (seg_join exact_sum_of) (f, total_of before) ws ≡ fold_of (seg_join ◌+ℤ◌) (f, total_of before) ws
exact_since f before [] few first numbers = refl
exact_since f before ((true, x) ∷ ws) few first numbers =
    let number : is_number x ≡ true = All-head (λ w. is_seg_item is_number w ≡ true) (true, x) ws numbers in
    let start : x ≡ total_of (x ∷ []) = omega (arith, ints) in
    ap (λ z. fold_of (seg_join exact_sum_of) (either f true, z) ws) start
    ∙ exact_since (either f true) (x ∷ []) ws (omega (arith, few)) (one_number x number) (All-tail (λ w. is_seg_item is_number w ≡ true) (true, x) ws numbers)
    ∙ ap (λ z. fold_of (seg_join ◌+ℤ◌) (either f true, z) ws) (sym start)
exact_since f before ((false, x) ∷ ws) few first numbers =
    let number : is_number x ≡ true = All-head (λ w. is_seg_item is_number w ≡ true) (false, x) ws numbers in
    let more : List ℤ = before ++ x ∷ [] in
    let long : length more ≡ length before + 1 = omega (arith, length-append before (x ∷ [])) in
    let joined : exact_sum_of (total_of before) x ≡ total_of more = exact_fold_on before (x ∷ []) (omega (arith, few)) first (one_number x number) in
    let plain : total_of before +ℤ x ≡ total_of more = sym (fold-append ◌+ℤ◌ (pos 0) before (x ∷ [])) in
    ap (λ z. fold_of (seg_join exact_sum_of) (either f false, z) ws) joined
    ∙ exact_since (either f false) more ws (omega (arith, few, long)) (All-append (λ y. is_number y ≡ true) before (x ∷ []) first (one_number x number))
    (All-tail (λ w. is_seg_item is_number w ≡ true) (false, x) ws numbers)
    ∙ ap (λ z. fold_of (seg_join ◌+ℤ◌) (either f false, z) ws) (sym plain)

-- a run of few numbers joins to its sum
pub exact_total : (ws : List (Bool × ℤ)) → length ws ≤ 4194304 → AllPass (is_seg_item is_number) ws → fold_of (seg_join exact_sum_of) (seg_unit (pos 0)) ws ≡ total_since ws
exact_total ws few numbers = exact_since false [] ws (omega (arith, few)) (All-nil (λ y. is_number y ≡ true)) numbers

-- ---- wrapped sums: where the value before is wrapped, that of all is, and so are the results of the scan

pub wrapped_since : (f : Bool) (z : ℤ) (ws : List (Bool × ℤ)) → AllPass (is_seg_item is_number) ws
    → ((fold_of (seg_join sum_of) (f, wrap z) ws).1 ≡ wrap (fold_of (seg_join ◌+ℤ◌) (f, z) ws).1) × (range_scan_of sum_of (pos 0) (wrap z) ws ≡ map wrap (range_scan_of ◌+ℤ◌ (pos 0) z ws))
wrapped_since f z [] numbers = (refl, refl)
wrapped_since f z ((true, x) ∷ ws) numbers =
    let same = sym (number_words.inverse x (All-head (λ w. is_seg_item is_number w ≡ true) (true, x) ws numbers)) in
    let rest = wrapped_since (either f true) x ws (All-tail (λ w. is_seg_item is_number w ≡ true) (true, x) ws numbers) in (
      ap (λ y. (fold_of (seg_join sum_of) (either f true, y) ws).1) same ∙ rest.0,
      ap (λ y. pos 0 ∷ range_scan_of sum_of (pos 0) y ws) same ∙ (λ i. sym zero_wrapped i ∷ rest.1 i),
    )
wrapped_since f z ((false, x) ∷ ws) numbers =
    let rest = wrapped_since (either f false) (z +ℤ x) ws (All-tail (λ w. is_seg_item is_number w ≡ true) (false, x) ws numbers) in (
      ap (λ y. (fold_of (seg_join sum_of) (either f false, y) ws).1) (int_wrap-add_left w32 z x) ∙ rest.0,
      ap (λ y. wrap z ∷ range_scan_of sum_of (pos 0) y ws) (int_wrap-add_left w32 z x) ∙ ap (λ ys. wrap z ∷ ys) rest.1,
    )

-- ---- what stands before each tile

module _ {plan : Tiling} {ws : List (Bool × ℤ)} (is : IsTiled is_number plan ws) where
  pub front_total : (k : ℕ) → fold_of (seg_join exact_sum_of) (seg_unit (pos 0)) (take k ws) ≡ total_since (take k ws)
  front_total k = exact_total (take k ws) (omega (arith, length-take k ws, is.whole, is.few)) (front_passes is k)

  -- of the exact sums of tiles
  pub exact_befores : (known : List ℤ) → known ≡ befores_of exact_sum_of (pos 0) (sums_of exact_sum_of (pos 0) plan.len plan.tile ws) → known ≡ totals_before plan ws
  exact_befores known known_is =
      known_is
      ∙ befores_are exact_laws (worded is)
      ∙ (λ i. map (λ t. (front_total (range_of plan.len plan.tile t).0 i).1) (range_with_len 0 (tile_count plan.len plan.tile)))

  -- and of the wrapped ones
  pub wrapped_befores : (known : List ℤ) → known ≡ map wrap (totals_before plan ws) → known ≡ befores_of sum_of (pos 0) (sums_of sum_of (pos 0) plan.len plan.tile ws)
  wrapped_befores known known_is =
      let before : (t : ℕ) → (fold_of (seg_join sum_of) (seg_unit (pos 0)) (take t ws)).1 ≡ wrap (total_since (take t ws)).1 =
      λ t. ap (λ z. (fold_of (seg_join sum_of) (false, z) (take t ws)).1) (sym zero_wrapped) ∙ (wrapped_since false (pos 0) (take t ws) (front_passes is t)).0 in
      known_is
      ∙ map-map wrap (λ t. (total_since (take (range_of plan.len plan.tile t).0 ws)).1) (range_with_len 0 (tile_count plan.len plan.tile))
      ∙ (λ i. map (λ t. sym (before (range_of plan.len plan.tile t).0) i) (range_with_len 0 (tile_count plan.len plan.tile)))
      ∙ sym (befores_are sum_laws is)
