-- Runs of two lists side by side.
use Rattle.fresh.proofs.Cited.{◌≡◌, ℕ, zero, suc, List, [], ◌∷◌, length, take, drop, refl, ap, ◌∙◌, arith, zip, part}

module _ {A B : Type 0} where
  zip_none : (xs : List A) (ys : List B) → length ys ≡ 0 → zip xs ys ≡ []
  zip_none [] ys e = refl
  zip_none (x ∷ xs) [] e = refl
  zip_none (x ∷ xs) (y ∷ ys) e = absurd (omega (arith, e))

  pub zip_take : (xs : List A) (ys : List B) (k : ℕ) → zip (take k xs) (take k ys) ≡ take k (zip xs ys)
  zip_take xs ys zero = refl
  zip_take [] ys (suc k) = refl
  zip_take (x ∷ xs) [] (suc k) = refl
  zip_take (x ∷ xs) (y ∷ ys) (suc k) = ap (λ l. (x, y) ∷ l) (zip_take xs ys k)

  pub zip_drop : (xs : List A) (ys : List B) (k : ℕ) → zip (drop k xs) (drop k ys) ≡ drop k (zip xs ys)
  zip_drop xs ys zero = refl
  zip_drop [] ys (suc k) = refl
  zip_drop (x ∷ xs) [] (suc k) = zip_none (drop k xs) [] refl
  zip_drop (x ∷ xs) (y ∷ ys) (suc k) = zip_drop xs ys k

  pub part_zip : (xs : List A) (ys : List B) (first n : ℕ) → zip (part xs first n) (part ys first n) ≡ part (zip xs ys) first n
  part_zip xs ys first n = zip_take (drop first xs) (drop first ys) n ∙ ap (take n) (zip_drop xs ys first)
