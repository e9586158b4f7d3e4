-- Marks, 32 in a word: bit b of word w is mark 32 w + b, and the bits after the last mark are 0.
use Rattle.std.specs.Prelude.{ℕ, zero, suc, ◌+◌, ◌/◌, Bool, List, [], ◌∷◌, drop, length, take}
use Rattle.std.specs.Simd.Lanes.{mask_l}

-- how many words so many marks take
abbrev pub words_for : ℕ → ℕ
words_for n = (n + 31) / 32

-- so many words of marks
abbrev pub words_of : ℕ → List Bool → List ℕ
words_of zero marks = []
words_of (suc n) marks = mask_l (take 32 marks) ∷ words_of n (drop 32 marks)

-- the words that hold these marks
abbrev pub mark_words : List Bool → List ℕ
mark_words marks = words_of (words_for (length marks)) marks
