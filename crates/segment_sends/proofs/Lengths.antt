-- The lengths of segments, read one after another without their signs.
use Rattle.std.proofs.Common.{◌≡◌, ◌∙◌, ℕ, ◌+◌, ◌<◌, ◌≤◌, List, length, map, sum, get_or, ap, arith, subst, inl, inr, ℤ, pos, of_z, to_z, w32}
use Rattle.std.proofs.lemmas.Int.{ints}
use Rattle.std.proofs.lemmas.Bool.{cases_lt}
use Rattle.cvl_base.specs.Limits.{most_places}
use Rattle.segdes.proofs.Sums.{length_at}

-- the length at a place
pub length_read : (row : List ℤ) (lengths : List ℕ) → row ≡ map pos lengths → sum lengths ≤ most_places → (k : ℕ) → k < length row
    → (n : ℕ) → n ≡ of_z w32 (to_z w32 (of_z w32 (get_or row k (pos 0)))) → n ≡ get_or lengths k 0
length_read row lengths are few k lt n cast =
    let at = length_at row k lengths are few lt in
    let unsigned : of_z w32 (pos (get_or lengths k 0)) ≡ get_or lengths k 0 = grind (arith, ints) in cast ∙ ap (of_z w32) at ∙ unsigned

-- what holds of the lengths before a place, and of the one there
pub lengths_more : (P : ℕ → Type 0) (lengths : List ℕ) (k : ℕ) → ((s : ℕ) → s < k → P (get_or lengths s 0)) → P (get_or lengths k 0) → (s : ℕ) → s < k + 1 → P (get_or lengths s 0)
lengths_more P lengths k before here s lt = elim (cases_lt s k) [
  | inl below ↦ before s below
  | inr ge ↦ let same : k ≡ s = omega arith in subst (λ j. P (get_or lengths j 0)) same here
]
