-- A fold of integers of 32 bits onto a sum that may grow is the same in 64 bits as over whole numbers.
-- Source: what the definitions of LongSums and Folds imply.
use Rattle.std.proofs.Common.{◌≡◌, ◌∙◌, ◌-◌, ◌*◌, ◌^◌, ◌≤◌, refl, ap, arith, ℕ, zero, suc, List, [], ◌∷◌, length, IsTrue, true}
use Rattle.std.proofs.Common.{ℤ, pos, negsuc, ◌+ℤ◌, ◌-ℤ◌, ◌≤ℤ◌, FitsSigned}
use Rattle.std.specs.Int.{w64}
use Rattle.std.specs.List.{fold, AllPass}
use Rattle.std.proofs.lemmas.Bool.{ltb-true}
use Rattle.std.proofs.lemmas.Int.{ints, int_wrap_fits}
use Rattle.std.proofs.lemmas.List.Elements.{All-head, All-tail}
use Rattle.cvl_base.specs.ItemWords.{is_number}
use Rattle.cvl_base.specs.Limits.{most_places}
use Rattle.operators.specs.NumberLaws.{fits-is_number}
use Rattle.long_sums.specs.LongSums.{long_sum_of, may_grow}

-- n integers of 32 bits that are added to z do not leave 64 bits
record MayTake (n : ℕ) (z : ℤ) : Type 0 where
  low : negsuc (2 ^ 63 - 1) ≤ℤ (z -ℤ pos (n * 2147483648))
  high : (z +ℤ pos (n * 2147483648)) ≤ℤ pos (2 ^ 63 - 1)

one_less : (n : ℕ) (z x : ℤ) → MayTake (suc n) z → IsTrue (is_number x) → MayTake n (z +ℤ x)
one_less n z x t number = omega (arith, ints, fits-is_number x number, t.low, t.high)

still_fits : (n : ℕ) (z : ℤ) → MayTake n z → FitsSigned w64 z
still_fits n z t = omega (arith, ints, t.low, t.high)

takes_all : (z : ℤ) → IsTrue (may_grow z) → MayTake most_places z
takes_all (pos n) h = let below = ltb-true n (2 ^ 62) h in omega (arith, ints, below)
takes_all (negsuc n) h = let below = ltb-true n (2 ^ 62) h in omega (arith, ints, below)

fold_from : (n : ℕ) (z : ℤ) (xs : List ℤ) → length xs ≤ n → MayTake n z → AllPass is_number xs → fold long_sum_of z xs ≡ fold ◌+ℤ◌ z xs
fold_from n z [] few t numbers = refl
fold_from zero z (x ∷ xs) few t numbers = absurd (omega (arith, few))
fold_from (suc n) z (x ∷ xs) few t numbers =
    let less = one_less n z x t (All-head (λ y. is_number y ≡ true) x xs numbers) in
    ap (λ start. fold long_sum_of start xs) (int_wrap_fits w64 (z +ℤ x) (still_fits n (z +ℤ x) less))
    ∙ fold_from n (z +ℤ x) xs (omega (arith, few)) less (All-tail (λ y. is_number y ≡ true) x xs numbers)

pub fold_same : (z : ℤ) (xs : List ℤ) → IsTrue (may_grow z) → length xs ≤ most_places → AllPass is_number xs
    → fold long_sum_of z xs ≡ fold ◌+ℤ◌ z xs
fold_same z xs grows few numbers = fold_from most_places z xs few (takes_all z grows) numbers
