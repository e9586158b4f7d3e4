-- The last of some values, joined with one more.
use Rattle.std.proofs.Common.{◌≡◌, ◌∙◌, ◌-◌, ◌<◌, ℕ, suc, List, [], ◌∷◌, length, get_or, set, ap, arith}
use Rattle.segment_parts.specs.Reduces.{join_last}

module _ {Item : Type 0} (join : Item → Item → Item) where
  set-last : (xs : List Item) (n : ℕ) (x more : Item) → length xs ≡ suc n → set xs n (join (get_or xs n x) more) ≡ join_last join xs more
  set-last [] n x more is = absurd (omega (arith, is))
  set-last (y ∷ []) n x more is = let none : n ≡ 0 = omega (arith, is) in ap (λ k. set (y ∷ []) k (join (get_or (y ∷ []) k x) more)) none
  set-last (y ∷ z ∷ ys) n x more is =
      let k = n - 1 in
      let next : n ≡ suc k = omega (arith, is) in
      ap (λ j. set (y ∷ z ∷ ys) j (join (get_or (y ∷ z ∷ ys) j x) more)) next ∙ ap (λ zs. y ∷ zs) (set-last (z ∷ ys) k x more (omega (arith, is, next)))

  pub last-set : (xs : List Item) (x more : Item) → 0 < length xs → set xs (length xs - 1) (join (get_or xs (length xs - 1) x) more) ≡ join_last join xs more
  last-set xs x more some = set-last xs (length xs - 1) x more (omega (arith, some))
