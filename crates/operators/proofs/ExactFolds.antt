-- A fold of numbers of 32 bits in 54 bits is their sum over whole numbers, as long as there are at most 4194304 of them.
-- Source: what the definitions of Exact and Folds imply.
use Rattle.std.proofs.Common.{◌≡◌, refl, sym, ap, ◌∙◌, ℕ, ◌+◌, ◌*◌, ◌≤◌, List, [], ◌∷◌, ◌++◌, length, IsTrue, true, ℤ, pos, ◌+ℤ◌, ◌≤ℤ◌, arith}
use Rattle.std.specs.List.{fold, AllPass}
use Rattle.std.proofs.lemmas.Int.{ints}
use Rattle.std.proofs.lemmas.List.Elements.{All-head, All-tail}
use Rattle.std.proofs.lemmas.List.Sums.{fold-append}
use Rattle.operators.specs.Exact.{exact_sum_of, total_of}
use Rattle.operators.specs.ExactLaws.{in-word, word_wraps}
use Rattle.operators.specs.Folds.{fold_of}
use Rattle.operators.specs.ItemWords.{is_number, is_word}
use Rattle.operators.specs.NumberLaws.{fits-is_number}

-- z may be the sum of n numbers of 32 bits
record IsSumOf (n : ℕ) (z : ℤ) : Type 0 where
  low : pos 0 ≤ℤ (z +ℤ pos (n * 2147483648))
  high : z ≤ℤ pos (n * 2147483647)

one_more : (n : ℕ) (z x : ℤ) → IsSumOf n z → IsTrue (is_number x) → IsSumOf (n + 1) (z +ℤ x)
one_more n z x bound number = omega (arith, ints, fits-is_number x number, bound.low, bound.high)

sum-is_word : (n : ℕ) (z : ℤ) → n ≤ 4194304 → IsSumOf n z → IsTrue (is_word z)
sum-is_word n z few bound = in-word z (omega (arith, ints, bound.low, bound.high))

none : IsSumOf 0 (pos 0)
none = omega (arith, ints)

-- what a fold of numbers reaches from z, where z may be the sum of n numbers
bound_from : (n : ℕ) (z : ℤ) (xs : List ℤ) → IsSumOf n z → AllPass is_number xs → IsSumOf (n + length xs) (fold ◌+ℤ◌ z xs)
bound_from n z [] bound numbers = omega (arith, ints, bound.low, bound.high)
bound_from n z (x ∷ xs) bound numbers =
    let more = one_more n z x bound (All-head (λ y. is_number y ≡ true) x xs numbers) in
    let rest = bound_from (n + 1) (z +ℤ x) xs more (All-tail (λ y. is_number y ≡ true) x xs numbers) in
    omega (arith, ints, rest.low, rest.high)

exact_from : (n : ℕ) (z : ℤ) (xs : List ℤ) → IsSumOf n z → n + length xs ≤ 4194304 → AllPass is_number xs → fold exact_sum_of z xs ≡ fold ◌+ℤ◌ z xs
exact_from n z [] bound few numbers = refl
exact_from n z (x ∷ xs) bound few numbers =
    let more = one_more n z x bound (All-head (λ y. is_number y ≡ true) x xs numbers) in
    ap (λ start. fold exact_sum_of start xs) (word_wraps (z +ℤ x) (sum-is_word (n + 1) (z +ℤ x) (omega arith) more))
    ∙ exact_from (n + 1) (z +ℤ x) xs more (omega arith) (All-tail (λ y. is_number y ≡ true) x xs numbers)

total_bound : (xs : List ℤ) → AllPass is_number xs → IsSumOf (length xs) (total_of xs)
total_bound xs numbers =
    let bound = bound_from 0 (pos 0) xs none numbers in
    omega (arith, ints, bound.low, bound.high)

pub exact_fold : (xs : List ℤ) → length xs ≤ 4194304 → AllPass is_number xs → fold_of exact_sum_of (pos 0) xs ≡ total_of xs
exact_fold xs few numbers = exact_from 0 (pos 0) xs none (omega arith) numbers

pub exact_fold_on : (before xs : List ℤ) → length before + length xs ≤ 4194304 → AllPass is_number before → AllPass is_number xs
    → fold exact_sum_of (total_of before) xs ≡ total_of (before ++ xs)
exact_fold_on before xs few first numbers =
    exact_from (length before) (total_of before) xs (total_bound before first) few numbers
    ∙ sym (fold-append ◌+ℤ◌ (pos 0) before xs)

pub total-is_word : (xs : List ℤ) → length xs ≤ 4194304 → AllPass is_number xs → IsTrue (is_word (total_of xs))
total-is_word xs few numbers = sum-is_word (length xs) (total_of xs) few (total_bound xs numbers)
