-- Lists of numbers of which the first ones fit 32 bits, and the checked scans of such results: the fault of the first that doesn't
-- fit, or the scans that wrap.
-- Source: what the definitions of CheckedSums, Fronts and Integers imply.
use Rattle.scan_walks.proofs.Cited.{rules, ◌≡◌, ◌∙◌, ◌+◌, ◌<◌, ◌≤◌, ◌+ℤ◌, ◌∷◌, if◌then◌else◌, ◌>>=◌, refl, sym, ap, ℕ, Bool, true, false, cond, ℤ, pos, w32, List, [], length, map, drop, get_or}
use Rattle.scan_walks.proofs.Cited.{arith, Some, None, Ok, Err, sum, int_wrap-add_left, map-append, length-scan_of, number_words, checked_scan_of, checked_seg_scan_of, fitting, values_from}
use Rattle.scan_walks.proofs.Cited.{fault_at, scan_of, sum_of, wrap, is_number, scans_of, scan_of-cons, length-scans_of, map_fixed, prefix_len_passes, Overflow, fitting_front}
use Rattle.scan_walks.proofs.Valued.{scans_valued}

fails_at : (b : Bool) (n : ℕ) (z : ℤ) (zs : List ℤ) → cond b (1 + fitting_front zs) 0 < 1 + length zs
    → (fitting_front zs < length zs → values_from Overflow (n + 1) (map fitting zs) ≡ Err (fault_at Overflow (n + 1 + fitting_front zs)))
    → values_from Overflow n ((if b then Some z else None) ∷ map fitting zs) ≡ Err (fault_at Overflow (n + cond b (1 + fitting_front zs) 0))
fails_at true n z zs lt others =
    ap (λ r. r >>= λ ys. Ok (z ∷ ys)) (others (omega (arith, lt))) ∙ ap (λ p. Err (fault_at Overflow p)) (omega arith)
fails_at false n z zs lt others = ap (λ p. Err (fault_at Overflow p)) (omega arith)

-- the fault is that of the first number that doesn't fit
pub overflows : (n : ℕ) (zs : List ℤ) → fitting_front zs < length zs → values_from Overflow n (map fitting zs) ≡ Err (fault_at Overflow (n + fitting_front zs))
overflows n [] lt = absurd (omega (arith, lt))
overflows n (z ∷ zs) lt = fails_at (is_number z) n z zs (omega (arith, lt)) (overflows (n + 1) zs)

fits_at : (b : Bool) (n : ℕ) (z : ℤ) (zs : List ℤ) → 1 + length zs ≤ cond b (1 + fitting_front zs) 0
    → (length zs ≤ fitting_front zs → values_from Overflow (n + 1) (map fitting zs) ≡ Ok zs)
    → values_from Overflow n ((if b then Some z else None) ∷ map fitting zs) ≡ Ok (z ∷ zs)
fits_at true n z zs ge others = ap (λ r. r >>= λ ys. Ok (z ∷ ys)) (others (omega (arith, ge)))
fits_at false n z zs ge others = absurd (omega (arith, ge))

-- where all fit they are the values
pub all_fit : (n : ℕ) (zs : List ℤ) → length zs ≤ fitting_front zs → values_from Overflow n (map fitting zs) ≡ Ok zs
all_fit n [] ge = refl
all_fit n (z ∷ zs) ge = fits_at (is_number z) n z zs (omega (arith, ge)) (all_fit (n + 1) zs)

-- and to wrap them changes nothing
wrapped_same : (zs : List ℤ) → length zs ≤ fitting_front zs → map wrap zs ≡ zs
wrapped_same zs ge = map_fixed wrap zs (λ i d lt. number_words.inverse (get_or zs i d) (prefix_len_passes is_number zs i d (omega (arith, ge, lt))))

-- ---- the scan that wraps is the wrapped scan

pub zero_wrapped : wrap (pos 0) ≡ pos 0
zero_wrapped = number_words.inverse (pos 0) refl

wrapped_after : (before : ℤ) (xs : List ℤ) → scan_of sum_of (wrap before) xs ≡ map wrap (scan_of ◌+ℤ◌ before xs)
wrapped_after before [] = refl
wrapped_after before (x ∷ xs) = cc (scan_of-cons sum_of (wrap before) x xs, int_wrap-add_left w32 before x, wrapped_after (before +ℤ x) xs, scan_of-cons ◌+ℤ◌ before x xs)

wrapped_scan : (xs : List ℤ) → scan_of sum_of (pos 0) xs ≡ map wrap (scan_of ◌+ℤ◌ (pos 0) xs)
wrapped_scan xs = ap (λ z. scan_of sum_of z xs) (sym zero_wrapped) ∙ wrapped_after (pos 0) xs

pub wrapped_scans : (lengths : List ℕ) (xs : List ℤ) → scans_of sum_of (pos 0) lengths xs ≡ map wrap (scans_of ◌+ℤ◌ (pos 0) lengths xs)
wrapped_scans [] xs = refl
wrapped_scans (n ∷ ls) xs = search (rules, wrapped_scan, map-append, wrapped_scans ls (drop n xs))

-- ---- checked scans, where it is known how many results fit from the first one on

module _ (n : ℕ) (zs : List ℤ) (is : n ≡ fitting_front zs) where
  one_overflows : n < length zs → values_from Overflow 0 (map fitting zs) ≡ Err (fault_at Overflow n)
  one_overflows lt = let at : 0 + fitting_front zs ≡ n = omega (arith, is) in overflows 0 zs (omega (arith, is, lt)) ∙ ap (λ p. Err (fault_at Overflow p)) at

  pub none_overflows : (ys : List ℤ) → length zs ≤ n → ys ≡ map wrap zs → values_from Overflow 0 (map fitting zs) ≡ Ok ys
  none_overflows ys ge wrapped = let all : length zs ≤ fitting_front zs = omega (arith, is, ge) in all_fit 0 zs all ∙ ap Ok (sym (wrapped ∙ wrapped_same zs all))

-- of a flat vector
module _ (n : ℕ) (xs : List ℤ) (is : n ≡ fitting_front (scan_of ◌+ℤ◌ (pos 0) xs)) where
  pub scan_overflows : n < length xs → checked_scan_of xs ≡ Err (fault_at Overflow n)
  scan_overflows lt = one_overflows n (scan_of ◌+ℤ◌ (pos 0) xs) is (omega (arith, lt, length-scan_of ◌+ℤ◌ (pos 0) xs))

  pub scan_fits : length xs ≤ n → checked_scan_of xs ≡ Ok (scan_of sum_of (pos 0) xs)
  scan_fits ge = none_overflows n (scan_of ◌+ℤ◌ (pos 0) xs) is _ (omega (arith, ge, length-scan_of ◌+ℤ◌ (pos 0) xs)) (wrapped_scan xs)

-- and of a segmented one
module _ (n : ℕ) (lengths : List ℕ) (xs : List ℤ) (total : sum lengths ≡ length xs) (is : n ≡ fitting_front (scans_of ◌+ℤ◌ (pos 0) lengths xs)) where
  pub scans_overflow : n < length xs → checked_seg_scan_of xs lengths ≡ Err (fault_at Overflow n)
  scans_overflow lt = scans_valued lengths xs total ∙ one_overflows n (scans_of ◌+ℤ◌ (pos 0) lengths xs) is (omega (arith, lt, length-scans_of ◌+ℤ◌ (pos 0) lengths xs (omega (arith, total))))

  pub scans_fit : length xs ≤ n → checked_seg_scan_of xs lengths ≡ Ok (scans_of sum_of (pos 0) lengths xs)
  scans_fit ge = scans_valued lengths xs total ∙ none_overflows n (scans_of ◌+ℤ◌ (pos 0) lengths xs) is _ (omega (arith, ge, length-scans_of ◌+ℤ◌ (pos 0) lengths xs (omega (arith, total))))
      (wrapped_scans lengths xs)
