-- Blocks of numbers whose sums are seen to fit 32 bits by the least and the greatest of the numbers.
-- Source: arithmetic.
use Rattle.scan_walks.proofs.Cited.{◌≡◌, ◌∙◌, ◌+◌, ◌≤◌, ◌+ℤ◌, ◌*ℤ◌, ◌∷◌, refl, sym, ap, ℕ, true, ℤ, pos, unsigned_abs, w32, w64, List, [], length, map, take, drop, arith, sum, int_wrap-add_left}
use Rattle.scan_walks.proofs.Cited.{ints, length-drop, length-take, All-drop, All-take, number_words, fold_of, scan_of, greater_of, lesser_of, sum_of, wrap, is_number, sum-cons, scans_of}
use Rattle.scan_walks.proofs.Cited.{scan_of-cons, suc, zero, negsuc, ◌≤ℤ◌, FitsSigned, All, fits_signed_mul, fold-int_max_bounds, fold-int_min_bounds, unsigned_abs-mul, All-head, All-tail}
use Rattle.scan_walks.proofs.Cited.{fits-is_number, is_number-fits, fitting_front}
use Rattle.std.proofs.Math.IntN.{suc_ℤ-*ℤ, zero-*ℤ}
use Rattle.std.proofs.Math.Nat.{mul-le-mul}
use Rattle.scan_walks.proofs.FrontLaws.{scan_past}

-- a step of 32 bits, taken so often, leads at most 2^62 far
pub reaches : (from steps step : ℤ) → FitsSigned w32 from → FitsSigned w32 steps → FitsSigned w32 step → FitsSigned w64 (steps *ℤ step) × FitsSigned w64 (from +ℤ (steps *ℤ step))
reaches from steps step fits fits_2 fits_3 =
    let often : unsigned_abs steps ≤ 2147483648 = omega (arith, ints, fits_2.sfits) in
    let long : unsigned_abs step ≤ 2147483648 = omega (arith, ints, fits_3.sfits) in
    let far : unsigned_abs (steps *ℤ step) ≤ 4611686018427387904 = omega (arith, unsigned_abs-mul steps step, mul-le-mul often long) in
    (fits_signed_mul w64 steps step 2147483648 2147483648 often long (omega arith), omega (arith, ints, far, fits.sfits))

-- ---- steps of which none is longer than the least one down and the greatest one up

module _ (least greatest : ℤ) (down : least ≤ℤ pos 0) (up : pos 0 ≤ℤ greatest) where
  -- n of the least and n of the greatest lead to numbers of 32 bits
  record LeadsWithin (n : ℕ) (before : ℤ) : Type 0 where
    low : FitsSigned w32 (before +ℤ (pos n *ℤ least))
    high : FitsSigned w32 (before +ℤ (pos n *ℤ greatest))

  leads : (n : ℕ) (before : ℤ) → is_number (before +ℤ (pos n *ℤ least)) ≡ true → is_number (before +ℤ (pos n *ℤ greatest)) ≡ true → LeadsWithin n before
  leads n before lowest highest = record { low = fits-is_number (before +ℤ (pos n *ℤ least)) lowest; high = fits-is_number (before +ℤ (pos n *ℤ greatest)) highest }

  signs : (n : ℕ) → ((pos n *ℤ least) ≤ℤ pos 0) × (pos 0 ≤ℤ (pos n *ℤ greatest))
  signs zero = (omega (arith, ints, zero-*ℤ least), omega (arith, ints, zero-*ℤ greatest))
  signs (suc m) = let rest = signs m in (omega (arith, ints, down, rest.0, suc_ℤ-*ℤ (pos m) least), omega (arith, ints, up, rest.1, suc_ℤ-*ℤ (pos m) greatest))

  begins : (n : ℕ) (before : ℤ) → LeadsWithin n before → is_number before ≡ true
  begins n before room = let low = room.low in let high = room.high in let s = signs n in is_number-fits before (omega (arith, ints, s.0, s.1, low, high))

  goes_on : (m : ℕ) (before x : ℤ) → LeadsWithin (suc m) before → least ≤ℤ x → x ≤ℤ greatest → LeadsWithin m (before +ℤ x)
  goes_on m before x room from to =
      let low = room.low in
      let high = room.high in
      let s = signs m in
      let lower = suc_ℤ-*ℤ (pos m) least in
      let higher = suc_ℤ-*ℤ (pos m) greatest in
      record { low = omega (arith, ints, lower, higher, s.0, s.1, low, high, from, to); high = omega (arith, ints, lower, higher, s.0, s.1, low, high, from, to) }

  -- so all sums of at most n such numbers fit, the last one too
  steps_fit : (n : ℕ) (before : ℤ) (xs : List ℤ) → length xs ≤ n → LeadsWithin n before → All (λ x. least ≤ℤ x) xs → All (λ x. x ≤ℤ greatest) xs
      → (fitting_front (scan_of ◌+ℤ◌ before xs) ≡ length xs) × (is_number (fold_of ◌+ℤ◌ before xs) ≡ true)
  steps_fit n before [] few room from to = (refl, begins n before room)
  steps_fit zero before (x ∷ xs) few room from to = absurd (omega (arith, few))
  steps_fit (suc m) before (x ∷ xs) few room from to =
      let rest = steps_fit m (before +ℤ x) xs (omega (arith, few)) (goes_on m before x room (All-head (λ y. least ≤ℤ y) x xs from) (All-head (λ y. y ≤ℤ greatest) x xs to))
      (All-tail (λ y. least ≤ℤ y) x xs from) (All-tail (λ y. y ≤ℤ greatest) x xs to) in
      let first : fitting_front (scan_of ◌+ℤ◌ before (x ∷ xs)) ≡ 1 + fitting_front (scan_of ◌+ℤ◌ (before +ℤ x) xs) = cc (scan_of-cons ◌+ℤ◌ before x xs, begins (suc m) before room) in
      (omega (arith, first, rest.0), rest.1)

  -- and all results of the scans of segments of which none is longer than n
  each_fits : (n : ℕ) (lengths : List ℕ) (xs : List ℤ) → LeadsWithin n (pos 0) → All (λ z. z ≤ℤ pos n) (map pos lengths) → length xs ≤ sum lengths
      → All (λ x. least ≤ℤ x) xs → All (λ x. x ≤ℤ greatest) xs → fitting_front (scans_of ◌+ℤ◌ (pos 0) lengths xs) ≡ length xs
  each_fits n [] xs room short covered from to = omega (arith, covered)
  each_fits n (m ∷ ls) xs room short covered from to =
      let segment = take m xs in
      let few = All-head (λ z. z ≤ℤ pos n) (pos m) (map pos ls) short in
      let first = steps_fit n (pos 0) segment (omega (arith, ints, few, length-take m xs)) room (All-take (λ x. least ≤ℤ x) m xs from) (All-take (λ x. x ≤ℤ greatest) m xs to) in
      let rest = each_fits n ls (drop m xs) room (All-tail (λ z. z ≤ℤ pos n) (pos m) (map pos ls) short) (omega (arith, covered, sum-cons m ls, length-drop m xs))
      (All-drop (λ x. least ≤ℤ x) m xs from) (All-drop (λ x. x ≤ℤ greatest) m xs to) in
      let past = scan_past (pos 0) segment (scans_of ◌+ℤ◌ (pos 0) ls (drop m xs)) (length segment) (sym first.0) (omega arith) in
      omega (arith, past, rest, length-take m xs, length-drop m xs)

-- where there is room for as many of the least and of the greatest number as the longest segment has
pub segments_fit : (longest least greatest : ℤ) (lengths : List ℕ) (xs : List ℤ) → longest ≡ fold_of greater_of (pos 0) (map pos lengths) → length xs ≤ sum lengths
    → least ≡ fold_of lesser_of (pos 0) xs → greatest ≡ fold_of greater_of (pos 0) xs → is_number (pos 0 +ℤ (longest *ℤ least)) ≡ true → is_number (pos 0 +ℤ (longest *ℤ greatest)) ≡ true
    → fitting_front (scans_of ◌+ℤ◌ (pos 0) lengths xs) ≡ length xs
segments_fit (negsuc k) least greatest lengths xs is_longest covered is_least is_greatest lowest highest =
    absurd (omega (arith, ints, (fold-int_max_bounds (pos 0) (map pos lengths) (negsuc k) is_longest).0))
segments_fit (pos n) least greatest lengths xs is_longest covered is_least is_greatest lowest highest =
    let short = fold-int_max_bounds (pos 0) (map pos lengths) (pos n) is_longest in
    let from = fold-int_min_bounds (pos 0) xs least is_least in
    let to = fold-int_max_bounds (pos 0) xs greatest is_greatest in
    each_fits least greatest from.0 to.0 n lengths xs (leads least greatest from.0 to.0 n (pos 0) lowest highest) short.1 covered from.1 to.1

-- ---- the sum that wraps is the wrapped sum

wrapped_sum : (before : ℤ) (xs : List ℤ) → fold_of sum_of (wrap before) xs ≡ wrap (fold_of ◌+ℤ◌ before xs)
wrapped_sum before [] = refl
wrapped_sum before (x ∷ xs) = ap (λ z. fold_of sum_of z xs) (int_wrap-add_left w32 before x) ∙ wrapped_sum (before +ℤ x) xs

-- ---- a block of at most n numbers, for so many of whose least and of whose greatest there is room

pub block_walked : (n : ℕ) (before least greatest : ℤ) (xs : List ℤ) → length xs ≤ n → least ≡ fold_of lesser_of (pos 0) xs → greatest ≡ fold_of greater_of (pos 0) xs
    → is_number (before +ℤ (pos n *ℤ least)) ≡ true → is_number (before +ℤ (pos n *ℤ greatest)) ≡ true → (sum : ℤ) → sum ≡ fold_of sum_of before xs
    → (fitting_front (scan_of ◌+ℤ◌ before xs) ≡ length xs) × (sum ≡ fold_of ◌+ℤ◌ before xs)
block_walked n before least greatest xs few is_least is_greatest lowest highest sum is_sum =
    let from = fold-int_min_bounds (pos 0) xs least is_least in
    let to = fold-int_max_bounds (pos 0) xs greatest is_greatest in
    let room = leads least greatest from.0 to.0 n before lowest highest in
    let fit = steps_fit least greatest from.0 to.0 n before xs few room from.1 to.1 in (
      fit.0,
      cc (is_sum, number_words.inverse before (begins least greatest from.0 to.0 n before room), wrapped_sum before xs, number_words.inverse (fold_of ◌+ℤ◌ before xs) fit.1),
    )
