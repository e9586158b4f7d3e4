-- The sum of a range over whole numbers, from what stands before the tile that holds its last element, and its elements in the tile.
-- Source: what the definitions of Checked and Exact imply.
use Rattle.checked_tile_scans.proofs.Cited.{◌≡◌, ◌∙◌, ◌+◌, ◌-◌, ◌<◌, ◌≤◌, ◌+ℤ◌, ◌++◌, sym, ap, subst, ℕ, Bool, true, false, ℤ, pos, w64, FitsSigned, to_z, of_z, List, length, take, drop, get_or}
use Rattle.checked_tile_scans.proofs.Cited.{slice_range, arith, Option, Some, None, AllPass, length-drop, length-map, length-take, get_or-map-range_with_len, length-map-range_with_len, total_of}
use Rattle.checked_tile_scans.proofs.Cited.{InWords, word-in, is_number, most_elements, continued_summed, all_whole, whole_laws, range_of, tile_count, flagged, take-add, drop-drop, All-drop}
use Rattle.checked_tile_scans.proofs.Cited.{All-take, sum_by_more, total-is_word, continued, segment_total, continued_slice, Tiling}
use Rattle.operators.proofs.FoldLaws.{fold_of-append}
use Rattle.segdes.specs.Starts.{start_of}
use Rattle.scan_walks.proofs.Segmented.{length-reduces_of}
use Rattle.tile_scans.proofs.OpenSegments.{since_start}
use Rattle.checked_tile_scans.specs.Checked.{segment_totals, total_since, totals_before}
use Rattle.checked_tile_scans.proofs.WideSums.{wide_fits, wide_sum}

pub length-segment_totals : (lengths : List ℕ) (xs : List ℤ) → length (segment_totals lengths xs) ≡ length lengths
length-segment_totals lengths xs = length-reduces_of ◌+ℤ◌ (pos 0) xs lengths

pub length-totals_before : (plan : Tiling) (ws : List (Bool × ℤ)) → length (totals_before plan ws) ≡ tile_count plan.len plan.tile
length-totals_before plan ws = length-map-range_with_len (λ t. (total_since (take (range_of plan.len plan.tile t).0 ws)).1) 0 (tile_count plan.len plan.tile)

-- the sum of a segment, as its elements' range
pub segment_ranged : (lengths : List ℕ) (xs : List ℤ) (s : ℕ) → s < length lengths → (start end : ℕ) → start ≡ start_of lengths s → end ≡ start + get_or lengths s 0
    → total_of (slice_range xs start end) ≡ get_or (segment_totals lengths xs) s (pos 0)
segment_ranged lengths xs s lt start end is_start is_end =
    let long : end - start ≡ get_or lengths s 0 = omega (arith, is_end) in
    (λ i. total_of (take (long i) (drop (is_start i) xs))) ∙ sym (segment_total lengths xs s lt)

-- the sum of few numbers that follow one another fits 54 bits
pub range_in_words : (xs : List ℤ) (from to : ℕ) → length xs ≤ most_elements → AllPass is_number xs → InWords (total_of (slice_range xs from to))
range_in_words xs from to few numbers =
    let piece = slice_range xs from to in
    let short : length piece ≤ 4194304 = omega (arith, length-take (to - from) (drop from xs), length-drop from xs, few) in
    word-in (total_of piece) (total-is_word piece short (All-take (λ y. is_number y ≡ true) (to - from) (drop from xs) (All-drop (λ y. is_number y ≡ true) from xs numbers)))

-- what is known to stand before a tile
pub before_there : (plan : Tiling) (ws : List (Bool × ℤ)) (known : List ℤ) (t : ℕ) → known ≡ totals_before plan ws → t < tile_count plan.len plan.tile
    → get_or known t (pos 0) ≡ (total_since (take (range_of plan.len plan.tile t).0 ws)).1
before_there plan ws known t is below =
    ap (λ ks. get_or ks t (pos 0)) is
    ∙ get_or-map-range_with_len (λ k. (total_since (take (range_of plan.len plan.tile k).0 ws)).1) 0 (tile_count plan.len plan.tile) t t (pos 0) below (omega arith)

-- a range in two parts
slice_parted : (xs : List ℤ) (from middle to : ℕ) → from ≤ middle → middle ≤ to → slice_range xs from to ≡ slice_range xs from middle ++ slice_range xs middle to
slice_parted xs from middle to begun ends =
    let split : to - from ≡ (middle - from) + (to - middle) = omega (arith, begun, ends) in
    let at : from + (middle - from) ≡ middle = omega (arith, begun) in
    ap (λ n. take n (drop from xs)) split
    ∙ take-add (middle - from) (to - middle) (drop from xs)
    ∙ ap (λ ys. slice_range xs from middle ++ take (to - middle) ys) (drop-drop (middle - from) from xs ∙ ap (λ p. drop p xs) at)

-- the sum of a range from what is known to stand before the tile that holds its last element, and its own elements in the tile, as a
-- program adds them in 64 bits
pub parts_summed : (plan : Tiling) (ws : List (Bool × ℤ)) (xs known : List ℤ) (t start from end : ℕ) (own : ℤ) → length xs ≤ most_elements → AllPass is_number xs
    → known ≡ totals_before plan ws → t < tile_count plan.len plan.tile → from ≡ (range_of plan.len plan.tile t).0 → start < from → from ≤ end
    → ((place : ℕ) → start < place → place ≤ end → (total_since (take place ws)).1 ≡ total_of (slice_range xs start place)) → own ≡ total_of (slice_range xs from end)
    → FitsSigned w64 (to_z w64 (of_z w64 (get_or known t (pos 0))) +ℤ to_z w64 (of_z w64 own))
    × (to_z w64 (of_z w64 (to_z w64 (of_z w64 (get_or known t (pos 0))) +ℤ to_z w64 (of_z w64 own))) ≡ total_of (slice_range xs start end))
parts_summed plan ws xs known t start from end own few numbers known_is below begins lt ends since is_own =
    let front = slice_range xs start from in
    let back = slice_range xs from end in
    let is_before = before_there plan ws known t known_is below ∙ ap (λ p. (total_since (take p ws)).1) (sym begins) ∙ since from lt ends in
    let first = subst InWords (sym is_before) (range_in_words xs start from few numbers) in
    let second = subst InWords (sym is_own) (range_in_words xs from end few numbers) in (
      wide_fits _ own first second,
      wide_sum _ own first second
          ∙ (λ i. is_before i +ℤ is_own i)
          ∙ sym (fold_of-append whole_laws front back (all_whole front) (all_whole back))
          ∙ ap total_of (sym (slice_parted xs start from end (omega (arith, lt)) ends)),
    )

-- ---- ranges in which no segment starts but the first

-- a flat vector
pub flat_open : (segments : Option (List ℕ)) (xs : List ℤ) (place : ℕ) → segments ≡ None → (total_since (take place (flagged segments xs))).1 ≡ total_of (slice_range xs 0 place)
flat_open segments xs place flat =
    let same : place ≡ place - 0 = omega arith in
    ap (λ s. (total_since (take place (flagged s xs))).1) flat
    ∙ ap (λ n. (total_since (take n (continued xs))).1) same
    ∙ ap (λ ws. (total_since ws).1) (continued_slice xs 0 place)
    ∙ ap (λ w. w.1) (continued_summed ◌+ℤ◌ false (pos 0) (slice_range xs 0 place))

-- a segment
pub segment_open : (segments : Option (List ℕ)) (lengths : List ℕ) (xs : List ℤ) (s start place : ℕ) → segments ≡ Some lengths → place ≤ length xs
    → s < length lengths → start ≡ start_of lengths s → start < place → place ≤ start + get_or lengths s 0
    → (total_since (take place (flagged segments xs))).1 ≡ total_of (slice_range xs start place)
segment_open segments lengths xs s start place cut within lt is_start begun ends =
    let next : start_of lengths (s + 1) ≡ start_of lengths s + get_or lengths s 0 = sum_by_more (λ x. x) lengths s 0 lt in
    ap (λ ls. (total_since (take place (flagged ls xs))).1) cut
    ∙ since_start whole_laws lengths xs (all_whole xs) place s within lt (omega (arith, begun, is_start)) (omega (arith, ends, is_start, next))
    ∙ ap (λ p. total_of (slice_range xs p place)) (sym is_start)

-- how many sums of segments there are
pub ruleset totals_long = (length-map, length-segment_totals)
