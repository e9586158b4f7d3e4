-- Checked scans after a number, where it is known how many results fit from the first one on.
-- Source: what the definitions of CheckedSums and Sums imply.
use Rattle.part_calls.proofs.Cited.{◌≡◌, ◌∙◌, refl, sym, ap, subst, ℕ, ◌+◌, ◌<◌, ◌≤◌, Bool, true, false, cond, ℤ, pos, ◌+ℤ◌, List, [], ◌∷◌, length, map, arith, Ok, Err, unwrap_or, fitting, Overflow}
use Rattle.part_calls.proofs.Cited.{fault_at}
use Rattle.operators.proofs.FoldLaws.{length-scan_of, scan_of-cons}
use Rattle.operators.specs.NumberLaws.{number_words}
use Rattle.cvl_base.specs.Folds.{fold_of, fronts, scan_of}
use Rattle.cvl_base.specs.Integers.{sum_of, wrap}
use Rattle.cvl_base.specs.ItemWords.{is_number}
use Rattle.scan_walks.specs.Fronts.{fitting_front}
use Rattle.scan_walks.proofs.Fitted.{all_fit, overflows}
use Rattle.part_calls.specs.Sums.{checked_scan_after}

-- where some of the results fit, the first does
first_fits : (b : Bool) (some others : ℕ) → 0 < some → some ≤ cond b (1 + others) 0 → (b ≡ true) × (some ≤ 1 + others)
first_fits true some others lt all = (refl, all)
first_fits false some others lt all = absurd (omega (arith, lt, all))

-- where all results fit, the scan that wraps does not wrap
unwrapped : (before : ℤ) (xs : List ℤ) → length xs ≤ fitting_front (scan_of ◌+ℤ◌ before xs) → scan_of sum_of before xs ≡ scan_of ◌+ℤ◌ before xs
unwrapped before [] all = refl
unwrapped before (x ∷ []) all = refl
unwrapped before (x ∷ y ∷ ys) all =
    let next = before +ℤ x in
    let tail = fitting_front (scan_of ◌+ℤ◌ next (y ∷ ys)) in
    let whole : length (x ∷ y ∷ ys) ≤ cond (is_number before) (1 + tail) 0 =
    subst (λ zs. length (x ∷ y ∷ ys) ≤ fitting_front zs) (scan_of-cons ◌+ℤ◌ before x (y ∷ ys)) all in
    let rest : length (y ∷ ys) ≤ tail = omega (arith, (first_fits (is_number before) (length (x ∷ y ∷ ys)) tail (omega arith) whole).1) in
    let fits : wrap next ≡ next =
    number_words.inverse next (first_fits (is_number next) (length (y ∷ ys)) (fitting_front (map (fold_of ◌+ℤ◌ next) (map (λ front. y ∷ front) (fronts ys)))) (omega arith) rest).0 in
    scan_of-cons sum_of before x (y ∷ ys)
    ∙ ap (λ z. before ∷ scan_of sum_of z (y ∷ ys)) fits
    ∙ ap (λ zs. before ∷ zs) (unwrapped next (y ∷ ys) rest)
    ∙ sym (scan_of-cons ◌+ℤ◌ before x (y ∷ ys))

-- and starts from the number itself
started : (before : ℤ) (xs : List ℤ) → length xs ≤ fitting_front (scan_of ◌+ℤ◌ before xs)
    → scan_of sum_of (unwrap_or (fitting before) (pos 0)) xs ≡ scan_of ◌+ℤ◌ before xs
started before [] all = refl
started before (x ∷ xs) all =
    let fits = first_fits (is_number before) (length (x ∷ xs)) (fitting_front (map (fold_of ◌+ℤ◌ before) (map (λ front. x ∷ front) (fronts xs)))) (omega arith) all in
    let start : unwrap_or (fitting before) (pos 0) ≡ before = rw fits.0 in
    ap (λ z. scan_of sum_of z (x ∷ xs)) start ∙ unwrapped before (x ∷ xs) all

module _ (n : ℕ) (before : ℤ) (xs : List ℤ) (is : n ≡ fitting_front (scan_of ◌+ℤ◌ before xs)) where
  pub after_overflows : n < length xs → checked_scan_after before xs ≡ Err (fault_at Overflow n)
  after_overflows lt =
      let zs = scan_of ◌+ℤ◌ before xs in
      overflows 0 zs (omega (arith, is, lt, length-scan_of ◌+ℤ◌ before xs)) ∙ ap (λ p. Err (fault_at Overflow p)) (omega (arith, is))

  pub after_fits : length xs ≤ n → checked_scan_after before xs ≡ Ok (scan_of sum_of (unwrap_or (fitting before) (pos 0)) xs)
  after_fits ge =
      let zs = scan_of ◌+ℤ◌ before xs in
      all_fit 0 zs (omega (arith, is, ge, length-scan_of ◌+ℤ◌ before xs)) ∙ ap Ok (sym (started before xs (omega (arith, is, ge))))
