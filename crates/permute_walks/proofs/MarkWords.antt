-- Marks in words: one more, none, and how many are set.
use Rattle.permute_walks.proofs.Cited.{◌≡◌, ◌∙◌, ℕ, zero, suc, ◌+◌, ◌-◌, ◌*◌, ◌/◌, ◌%◌, ◌^◌, ◌<◌, ◌≤◌, Bool, true, false, cond, List, [], ◌∷◌, drop, get_or, length, replicate, set, take, refl, sym}
use Rattle.permute_walks.proofs.Cited.{ap, arith, inl, inr, bit_or, count_ones, w32, sum_by, cases_eq, cases_lt, drop-replicate, drop-set-add, drop-set-lt, get_or-set_other, get_or-set_same}
use Rattle.permute_walks.proofs.Cited.{length-drop, length-replicate, length-set, length-take, map-id, take-set-le, sum_by-cons, sum_by-take-drop, count_of, mark_words, words_for, words_of}
use Rattle.std.specs.Int.{bit_at}
use Rattle.std.specs.Simd.Lanes.{mask_l}
use Rattle.std.proofs.Math.Seq.{take-set-lt}
use Rattle.std.proofs.lemmas.List.{set-get_or, set-set}
use Rattle.std.proofs.lemmas.Nat.Bits.{bit_at_set_other, bit_at_set_same, same_from_bits}
use Rattle.std.proofs.lemmas.Simd.{bit_mask_l, ones-mask_l}

-- ---- one more mark

-- a word with one more bit
abbrev pub with_bit : ℕ → ℕ → ℕ
with_bit word b = bit_or word (1 * 2 ^ b % 4294967296)

abbrev pub with_mark : List ℕ → ℕ → List ℕ
with_mark words d = set words (d / 32) (with_bit (get_or words (d / 32) 0) (d % 32))

pub mask_set : (ms : List Bool) (b : ℕ) → b < length ms → b < 32 → mask_l (set ms b true) ≡ with_bit (mask_l ms) b
mask_set ms b within below = same_from_bits (mask_l (set ms b true)) (with_bit (mask_l ms) b) (λ i. bit_mask_l (set ms b true) i ∙ elim (cases_eq i b) [
  | inl same ↦
      ap (λ j. cond (get_or (set ms b true) j false) 1 0) same ∙ ap (λ m. cond m 1 0) (get_or-set_same ms b true false within)
      ∙ sym (ap (bit_at (with_bit (mask_l ms) b)) same ∙ bit_at_set_same w32 (mask_l ms) b below)
  | inr other ↦
      ap (λ m. cond m 1 0) (get_or-set_other ms b i true false other) ∙ sym (bit_mask_l ms i) ∙ sym (bit_at_set_other w32 (mask_l ms) b below i other)
])

-- in the first word
set_here : (n : ℕ) (marks : List Bool) (d : ℕ) → d < length marks → d < 32 → words_of (suc n) (set marks d true) ≡ with_mark (words_of (suc n) marks) d
set_here n marks d within below =
    let first : d / 32 ≡ 0 = omega arith in
    let bit : d % 32 ≡ d = omega arith in
    cc (take-set-lt 32 marks d true below, drop-set-lt 32 marks d true below, mask_set (take 32 marks) d (omega (arith, length-take 32 marks, below, within)) below, first, bit)

-- in a later one
set_there : (n : ℕ) (marks : List Bool) (e d : ℕ) → 32 + e ≡ d → words_of n (set (drop 32 marks) e true) ≡ with_mark (words_of n (drop 32 marks)) e
    → words_of (suc n) (set marks d true) ≡ with_mark (words_of (suc n) marks) d
set_there n marks e d is rest =
    let next : suc (e / 32) ≡ d / 32 = omega (arith, is) in
    let bit : e % 32 ≡ d % 32 = omega (arith, is) in
    cc (take-set-le 32 marks d true (omega (arith, is)), is, drop-set-add 32 marks e true, rest, next, bit)

words_set : (n : ℕ) (marks : List Bool) (d : ℕ) → d < length marks → length marks ≤ 32 * n → words_of n (set marks d true) ≡ with_mark (words_of n marks) d
words_set zero marks d within all = absurd (omega (arith, within, all))
words_set (suc n) marks d within all = elim (cases_lt d 32) [
  | inl below ↦ set_here n marks d within below
  | inr above ↦
      set_there n marks (d - 32) d (omega (arith, above))
      (words_set n (drop 32 marks) (d - 32) (omega (arith, length-drop 32 marks, above, within)) (omega (arith, length-drop 32 marks, all)))
]

pub marked_one : (marks : List Bool) (d : ℕ) → d < length marks → mark_words (set marks d true) ≡ with_mark (mark_words marks) d
marked_one marks d within = cc (length-set marks d true, words_set (words_for (length marks)) marks d within (omega arith))

-- ---- a word that is held back

pub first_held : (words : List ℕ) (value : ℕ) → value ≡ get_or words 0 0 → set words 0 value ≡ words
first_held words value is = ap (set words 0) is ∙ set-get_or words 0 0

-- one more mark in it
pub held_more : (words : List ℕ) (w value d : ℕ) → d / 32 ≡ w → w < length words → set words w (with_bit value (d % 32)) ≡ with_mark (set words w value) d
held_more words w value d here within =
    sym (set-set words w value (with_bit value (d % 32)))
    ∙ (λ i. set (set words w value) (sym here i) (with_bit (sym (get_or-set_same words w value 0 within) i) (d % 32)))
    ∙ ap (λ j. set (set words w value) (d / 32) (with_bit (get_or (set words w value) j 0) (d % 32))) (sym here)

-- ---- no mark

mask_none : (n m : ℕ) → mask_l (take n (replicate m false)) ≡ 0
mask_none zero m = refl
mask_none (suc n) zero = refl
mask_none (suc n) (suc m) = omega (arith, mask_none n m)

words_none : (n m : ℕ) → words_of n (replicate m false) ≡ replicate n 0
words_none zero m = refl
words_none (suc n) m = (λ i. mask_none 32 m i ∷ words_of n (drop-replicate 32 m false i)) ∙ ap (λ ws. 0 ∷ ws) (words_none n (m - 32))

pub no_marks : (m : ℕ) → mark_words (replicate m false) ≡ replicate (words_for m) 0
no_marks m = ap (λ n. words_of (words_for n) (replicate m false)) (length-replicate m false) ∙ words_none (words_for m) m

-- ---- how many are set

words_count : (n : ℕ) (marks : List Bool) → length marks ≤ 32 * n → sum_by count_ones (words_of n marks) ≡ count_of marks
words_count zero [] all = refl
words_count zero (m ∷ marks) all = absurd (omega (arith, all))
words_count (suc n) marks all =
    let first : count_ones (mask_l (take 32 marks)) ≡ count_of (take 32 marks) = ap (λ ms. count_ones (mask_l ms)) (sym (map-id (take 32 marks))) ∙ ones-mask_l (λ m. m) (take 32 marks) in
    omega (
      arith,
      sum_by-cons count_ones (mask_l (take 32 marks)) (words_of n (drop 32 marks)),
      first,
      words_count n (drop 32 marks) (omega (arith, length-drop 32 marks, all)),
      sum_by-take-drop (λ m. cond m 1 0) marks 32,
    )

pub marks_count : (marks : List Bool) → sum_by count_ones (mark_words marks) ≡ count_of marks
marks_count marks = words_count (words_for (length marks)) marks (omega arith)
