-- Items that belong one by one to the elements of a list.
use Rattle.fresh.proofs.Cited.{◌≡◌, ℕ, ◌+◌, ◌-◌, ◌<◌, List, [], ◌∷◌, ◌++◌, length, map, take, get_or, refl, sym, ap, ◌∙◌, subst, arith, append_assoc, take_more, all_zipped_more, AllZip, Stretch}
use Rattle.fresh.proofs.Cited.{stretch}

module _ {A B : Type 0} (P : A → B → Type 0) where
  pub zipped_map : (h : A → B) (xs : List A) (ys : List B) → AllZip P xs ys → ((x : A) (y : B) → P x y → y ≡ h x) → ys ≡ map h xs
  zipped_map h [] [] all is = refl
  zipped_map h [] (b ∷ ys) all is = absurd all
  zipped_map h (a ∷ xs) [] all is = absurd all
  zipped_map h (a ∷ xs) (b ∷ ys) all is = λ i. is a b all.0 i ∷ zipped_map h xs ys all.1 is i

  -- one more place of a run is written
  pub one_more : (xs : List A) (i : ℕ) (x : A) (y : B) (old now next : Stretch B) → i < length xs → x ≡ get_or xs i x → P x y
      → (ys : List B) × AllZip P (take i xs) ys × (now ≡ stretch old.block old.first (old.items ++ ys) (old.room - i))
      → next ≡ stretch now.block now.first (now.items ++ y ∷ []) (now.room - 1)
      → (ys : List B) × AllZip P (take (i + 1) xs) ys × (next ≡ stretch old.block old.first (old.items ++ ys) (old.room - (i + 1)))
  one_more xs i x y old now next lt is p before after =
      let ys = before.0 in
      let longer : take i xs ++ x ∷ [] ≡ take (i + 1) xs = ap (λ z. take i xs ++ z ∷ []) is ∙ sym (take_more xs i x lt) in
      let less : old.room - i - 1 ≡ old.room - (i + 1) = omega arith in (
        ys ++ y ∷ [],
        subst (λ zs. AllZip P zs (ys ++ y ∷ [])) longer (all_zipped_more P (take i xs) ys x y before.1 p),
        after ∙ ap (λ s. stretch s.block s.first (s.items ++ y ∷ []) (s.room - 1)) before.2 ∙ λ j. stretch old.block old.first (append_assoc old.items ys (y ∷ []) j) (less j),
      )
