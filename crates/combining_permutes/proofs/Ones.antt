-- Ones that are joined by addition count the indices beside which they stand.
use Rattle.combining_permutes.proofs.Cited.{◌≡◌, ◌∙◌, ◌∷◌, [], ℕ, zero, suc, ◌+◌, ◌+ℤ◌, ◌≤◌, List, Bool, true, false, cond, length, map, replicate, zip, refl, ap, arith, ints, rules, ℤ, pos}
use Rattle.combining_permutes.proofs.Cited.{count_by, w32}
use Rattle.combining_permutes.proofs.Cited.{int_wrap_fits, sum_by-cons, fold_of, sum_of, most_places, combined, names, place_counts, sent_there}
use Rattle.combining_permutes.proofs.Joined.{sent_first, sent_others}

abbrev pub ones : List ℤ → List ℤ
ones index = map (λ i. pos 1) index

abbrev one_if : Bool → ℕ
one_if b = cond b 1 0

one_more : (c : ℕ) → c + 1 ≤ most_places → sum_of (pos c) (pos 1) ≡ pos (c + 1)
one_more c few = int_wrap_fits w32 (pos c +ℤ pos 1) (search (rules, ints, few))

-- so many are joined to c, where the first index names the place or not
counted_if : (d c : ℕ) (i : ℤ) (index : List ℤ) → c + 1 ≤ most_places → (b : Bool) → names d i ≡ b
    → fold_of sum_of (pos (c + 1)) (sent_there (zip index (ones index)) d) ≡ pos (c + 1 + count_by (names d) index)
    → fold_of sum_of (pos c) (sent_there (zip index (ones index)) d) ≡ pos (c + count_by (names d) index)
    → fold_of sum_of (pos c) (sent_there ((i, pos 1) ∷ zip index (ones index)) d) ≡ pos (c + count_by (names d) (i ∷ index))
counted_if d c i index few true is one_on same =
    ap (fold_of sum_of (pos c)) (sent_first d i (pos 1) (zip index (ones index)) is)
    ∙ ap (λ z. fold_of sum_of z (sent_there (zip index (ones index)) d)) (one_more c few)
    ∙ one_on
    ∙ ap (λ n. pos n) (omega (arith, sum_by-cons (λ j. one_if (names d j)) i index, ap one_if is))
counted_if d c i index few false is one_on same =
    ap (fold_of sum_of (pos c)) (sent_others d i (pos 1) (zip index (ones index)) is)
    ∙ same
    ∙ ap (λ n. pos n) (omega (arith, sum_by-cons (λ j. one_if (names d j)) i index, ap one_if is))

counted_from : (d c : ℕ) (index : List ℤ) → c + length index ≤ most_places → fold_of sum_of (pos c) (sent_there (zip index (ones index)) d) ≡ pos (c + count_by (names d) index)
counted_from d c [] few = ap (λ n. pos n) (omega arith)
counted_from d c (i ∷ index) few =
    counted_if d c i index (omega (arith, few)) (names d i) refl (counted_from d (c + 1) index (omega (arith, few))) (counted_from d c index (omega (arith, few)))

-- over a room of zeros
pub counted : (index : List ℤ) → length index ≤ most_places → (lowest m : ℕ) → combined sum_of (zip index (ones index)) lowest (replicate m (pos 0)) ≡ place_counts index lowest m
counted index few lowest zero = refl
counted index few lowest (suc m) =
    let here = counted_from lowest 0 index (omega (arith, few)) ∙ ap (λ n. pos n) (omega arith) in
    (λ t. here t ∷ counted index few (lowest + 1) m t)
