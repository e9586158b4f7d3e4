-- Sums in 54 bits, which are exact as long as they lie from -2^53 to 2^53 - 1.
-- Source: two's complement arithmetic, at the width of a word's value.
use Rattle.std.specs.Prelude.{◌≡◌, ◌^◌, IsTrue, List, ℤ, pos, ◌+ℤ◌, ◌-ℤ◌, ◌*ℤ◌}
use Rattle.std.specs.Int.{int_rem_euclid}
use Rattle.operators.specs.Folds.{fold_of}
use Rattle.operators.specs.ItemWords.{is_word}

-- the number from -2^53 to 2^53 - 1 that is congruent to x modulo 2^54
abbrev pub wrap_word : ℤ → ℤ
wrap_word x = int_rem_euclid (x +ℤ pos (2 ^ 53)) (pos (2 ^ 54)) -ℤ pos (2 ^ 53)

-- what `wrap_word` means: the result lies in that range, and differs from x by a multiple of 2^54
pub record IsWordWrapped (x wrapped : ℤ) : Type 0 where
  pub fits : IsTrue (is_word wrapped)
  pub congruent : (turns : ℤ) × (x ≡ wrapped +ℤ turns *ℤ pos (2 ^ 54))

-- the sum in 54 bits
abbrev pub exact_sum_of : ℤ → ℤ → ℤ
exact_sum_of a b = wrap_word (a +ℤ b)

-- the sum of whole numbers, of any size, without wrapping
abbrev pub total_of : List ℤ → ℤ
total_of xs = fold_of ◌+ℤ◌ (pos 0) xs
