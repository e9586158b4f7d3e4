-- Fronts and ends of lists that are made of lists.
-- Source: what flat_map, take and drop compute.
use Rattle.std.proofs.Common.{◌≡◌, refl, ap, ◌∙◌, ℕ, zero, suc, ◌+◌, ◌-◌, ◌<◌, List, [], ◌∷◌, ◌++◌, length, take, drop, get_or, arith}
use Rattle.std.specs.List.{flat_map}
use Rattle.std.proofs.lemmas.List.{take_more, append-nil}
use Rattle.std.proofs.lemmas.List.Concat.{flat_map-append}

-- what one element more makes
pub next_of_front : {X Y : Type 0} (f : X → List Y) (xs : List X) (i : ℕ) (d : X) → i < length xs → flat_map f (take (i + 1) xs) ≡ flat_map f (take i xs) ++ f (get_or xs i d)
next_of_front f xs i d within =
    ap (flat_map f) (take_more xs i d within)
    ∙ flat_map-append f (take i xs) (get_or xs i d ∷ [])
    ∙ ap (λ ys. flat_map f (take i xs) ++ ys) (append-nil (f (get_or xs i d)))

module _ {X : Type 0} where
  pub take_of_both : (n : ℕ) (xs ys : List X) → take n (xs ++ ys) ≡ take n xs ++ take (n - length xs) ys
  take_of_both zero xs ys = let none : 0 - length xs ≡ 0 = omega arith in rw none refl
  take_of_both (suc n) [] ys = let all : suc n ≡ suc n - 0 = omega arith in ap (λ k. take k ys) all
  take_of_both (suc n) (x ∷ xs) ys =
      let same : suc n - length (x ∷ xs) ≡ n - length xs = omega arith in
      ap (λ zs. x ∷ zs) (take_of_both n xs ys) ∙ ap (λ k. x ∷ (take n xs ++ take k ys)) (omega (arith, same))

  pub drop_of_both : (n : ℕ) (xs ys : List X) → drop n (xs ++ ys) ≡ drop n xs ++ drop (n - length xs) ys
  drop_of_both zero xs ys = let none : 0 - length xs ≡ 0 = omega arith in rw none refl
  drop_of_both (suc n) [] ys = let all : suc n ≡ suc n - 0 = omega arith in ap (λ k. drop k ys) all
  drop_of_both (suc n) (x ∷ xs) ys =
      let same : n - length xs ≡ suc n - length (x ∷ xs) = omega arith in
      drop_of_both n xs ys ∙ ap (λ k. drop n xs ++ drop k ys) same
