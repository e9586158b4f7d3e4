-- Checked scans and reduces of segments as values of one list of numbers: those that are written where all fit.
-- Source: what the definitions of CheckedSums and Ranges imply.
use Rattle.scan_walks.proofs.Cited.{rules, ◌≡◌, ◌∙◌, ◌+◌, ◌<◌, ◌+ℤ◌, ◌∷◌, ◌++◌, ◌>>=◌, refl, sym, ap, ℕ, ℤ, pos, List, [], length, map, take, drop, get_or, arith, Some, None, Result, Ok, Err, sum}
use Rattle.scan_walks.proofs.Cited.{ok_or, drop_more, length-drop, length-map, map-append, sum_by_more, length-scan_of, checked_reduce_of, checked_scan_of, checked_seg_reduce_of}
use Rattle.scan_walks.proofs.Cited.{checked_seg_scan_of, fitting, total_of, values_from, fault_at, after, cut_of, at_segment, end_to_end, in_vector, moved, one_each, results_from, after-none}
use Rattle.scan_walks.proofs.Cited.{sum-cons, cut_at, length-cut, nest-fits, reduces_of, scans_of, start_of, Option, get_or-map, length-take-le, totals_of, Fault, Overflow}
use Rattle.cvl_base.specs.Lists.{joined}
use Rattle.cvl_base.specs.declared.fault.FaultNo.{FaultNo}

module _ {Y : Type 0} where
  moved-then : (to : ℕ → ℕ) (y : Y) (r : Result (List Y) Fault) → moved to (r >>= λ ys. Ok (y ∷ ys)) ≡ (moved to r >>= λ ys. Ok (y ∷ ys))
  moved-then to y (Ok ys) = refl
  moved-then to y (Err f) = refl

  -- the place of a fault is counted from n on
  moved_on : (number : FaultNo) (n k : ℕ) (vs : List (Option Y)) → moved (λ p. n + p) (values_from number k vs) ≡ values_from number (n + k) vs
  moved_on number n k [] = refl
  moved_on number n k (None ∷ vs) = refl
  moved_on number n k (Some y ∷ vs) = search (rules, moved-then, moved_on number n (k + 1) vs)

  chained : (first : Result (List Y) Fault) (others : Result (List (List Y)) Fault)
      → ((first >>= λ r. others >>= λ rs. Ok (r ∷ rs)) >>= λ lists. Ok (joined lists)) ≡ (first >>= λ r. after r (others >>= λ lists. Ok (joined lists)))
  chained (Ok r) (Ok rs) = refl
  chained (Ok r) (Err f) = refl
  chained (Err f) others = refl

  one_first : (y : Y) (first others : Result (List Y) Fault)
      → ((first >>= λ ys. after ys others) >>= λ zs. Ok (y ∷ zs)) ≡ ((first >>= λ ys. Ok (y ∷ ys)) >>= λ ys. after ys others)
  one_first y (Ok ys) (Ok zs) = refl
  one_first y (Ok ys) (Err f) = refl
  one_first y (Err f) others = refl

  -- the values of some and then of others
  values-append : (number : FaultNo) (n : ℕ) (vs ws : List (Option Y))
      → values_from number n (vs ++ ws) ≡ (values_from number n vs >>= λ ys. after ys (values_from number (n + length vs) ws))
  values-append number n [] ws = sym (after-none (values_from number (n + 0) ws) ∙ ap (λ p. values_from number p ws) (omega arith))
  values-append number n (None ∷ vs) ws = refl
  values-append number n (Some y ∷ vs) ws = search (rules, one_first, values-append number (n + 1) vs ws)

heads : (k m : ℕ) (ks ms : List ℕ) → k ∷ ks ≡ m ∷ ms → (k ≡ m) × (ks ≡ ms)
heads k m ks ms is = (cc, cc)

-- the scans of the segments from number s on, the first of which stands at place n
scans_are : (all : List ℕ) (s n : ℕ) (lengths : List ℕ) (xs : List ℤ) → lengths ≡ drop s all → n ≡ sum (take s all) → sum lengths ≡ length xs
    → (results_from (in_vector all) checked_scan_of s (cut_of lengths xs) >>= λ lists. Ok (joined lists)) ≡ values_from Overflow n (map fitting (scans_of ◌+ℤ◌ (pos 0) lengths xs))
scans_are all s n [] xs rest start total = refl
scans_are all s n (k ∷ lengths) xs rest start total =
    let lt : s < length all = omega (arith, ap length rest, length-drop s all) in
    let same = heads k (get_or all s 0) lengths (drop (s + 1) all) (rest ∙ drop_more all s 0 lt) in
    let next : n + k ≡ sum (take (s + 1) all) = omega (arith, start, same.0, sum_by_more (λ x. x) all s 0 lt) in
    let front = take k xs in
    let vs = map fitting (totals_of front) in
    let others = map fitting (scans_of ◌+ℤ◌ (pos 0) lengths (drop k xs)) in
    let whole : k + sum lengths ≡ length xs = omega (arith, total, sum-cons k lengths) in
    let long : length vs ≡ k = length-map (totals_of front) fitting ∙ length-scan_of ◌+ℤ◌ (pos 0) front ∙ length-take-le k xs (omega (arith, whole)) in
    let first : moved (in_vector all s) (values_from Overflow 0 vs) ≡ values_from Overflow n vs =
    moved_on Overflow (sum (take s all)) 0 vs ∙ ap (λ p. values_from Overflow p vs) (omega (arith, start)) in
    let behind = scans_are all (s + 1) (n + k) lengths (drop k xs) same.1 next (omega (arith, whole, length-drop k xs)) ∙ ap (λ m. values_from Overflow (n + m) others) (sym long) in
    chained (moved (in_vector all s) (values_from Overflow 0 vs)) (results_from (in_vector all) checked_scan_of (s + 1) (cut_of lengths (drop k xs)))
    ∙ (λ i. first i >>= λ ys. after ys (behind i))
    ∙ sym (values-append Overflow n vs others)
    ∙ ap (values_from Overflow n) (sym (map-append fitting (totals_of front) (scans_of ◌+ℤ◌ (pos 0) lengths (drop k xs))))

-- a checked scan of segments is a scan of each, one after another, where all results fit, or the fault of the first that doesn't
pub scans_valued : (lengths : List ℕ) (xs : List ℤ) → sum lengths ≡ length xs
    → checked_seg_scan_of xs lengths ≡ values_from Overflow 0 (map fitting (scans_of ◌+ℤ◌ (pos 0) lengths xs))
scans_valued lengths xs total = ap (end_to_end (in_vector lengths) checked_scan_of) (nest-fits lengths xs total) ∙ scans_are lengths 0 0 lengths xs refl refl total

placed : (s : ℕ) (v : Option ℤ) → moved (at_segment s) (ok_or v (fault_at Overflow 0)) ≡ ok_or v (fault_at Overflow s)
placed s (Some y) = refl
placed s None = refl

sums_are : (s : ℕ) (lists : List (List ℤ)) → results_from at_segment checked_reduce_of s lists ≡ values_from Overflow s (map fitting (map total_of lists))
sums_are s [] = refl
sums_are s (xs ∷ lists) = λ i. placed s (fitting (total_of xs)) i >>= λ y. sums_are (s + 1) lists i >>= λ ys. Ok (y ∷ ys)

-- and a checked reduce the sum of each
pub sums_valued : (lengths : List ℕ) (xs : List ℤ) → sum lengths ≡ length xs
    → checked_seg_reduce_of xs lengths ≡ values_from Overflow 0 (map fitting (reduces_of ◌+ℤ◌ (pos 0) lengths xs))
sums_valued lengths xs total = ap (one_each at_segment checked_reduce_of) (nest-fits lengths xs total) ∙ sums_are 0 (cut_of lengths xs)

-- the sum of a segment is that of its elements
pub segment_total : (lengths : List ℕ) (xs : List ℤ) (s : ℕ) → s < length lengths
    → get_or (reduces_of ◌+ℤ◌ (pos 0) lengths xs) s (pos 0) ≡ total_of (take (get_or lengths s 0) (drop (start_of lengths s) xs))
segment_total lengths xs s lt = cc (get_or-map total_of (cut_of lengths xs) s [] (pos 0) (omega (arith, lt, length-cut lengths xs)), cut_at lengths xs s lt)
