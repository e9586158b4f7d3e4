-- When a word is one text and then another.
use Rattle.std.proofs.Common.{◌≡◌, ◌≢◌, ℕ, Bool, true, false, ◌&&◌, List, [], ◌∷◌, ◌++◌, length, take, drop, find, refl, sym, ap, ◌∙◌, Option, Some, None, bytes_eq, eqb}
use Rattle.std.specs.Option.{option_or}
use Rattle.std.proofs.lemmas.List.Folds.{find-append}

regroup : (b p q r : Bool) → p ≡ (q && r) → (b && p) ≡ ((b && q) && r)
regroup true p q r h = h
regroup false p q r h = refl

-- the word begins with the front, and what follows is the back
pub joined : (word front back : List ℕ) → bytes_eq word (front ++ back) ≡ (bytes_eq (take (length front) word) front && bytes_eq (drop (length front) word) back)
joined word [] back = refl
joined [] (x ∷ front) back = refl
joined (y ∷ word) (x ∷ front) back = regroup (eqb y x) _ _ _ (joined word front back)

-- what is found in two lists, one after the other, is found in the first, or else in the second
pub in_turn : {X : Type 0} {found first second : Option X} (test : X → Bool) (xs ys : List X)
    → found ≡ option_or first second → first ≡ find test xs → second ≡ find test ys → found ≡ find test (xs ++ ys)
in_turn test xs ys found first second = found ∙ (λ i. option_or (first i) (second i)) ∙ sym (find-append test xs ys)

-- what is found in a list is found in a longer one
pub found_before : {X : Type 0} {found : Option X} (test : X → Bool) (xs ys : List X) → found ≡ find test xs → found ≢ None → found ≡ find test (xs ++ ys)
found_before {found = Some x} test xs ys found some = ap (λ o. option_or o (find test ys)) found ∙ sym (find-append test xs ys)
found_before {found = None} test xs ys found some = absurd (some refl)

-- and what is not found there, in what follows
pub found_after : {X : Type 0} {found first : Option X} (test : X → Bool) (xs ys : List X)
    → first ≡ find test xs → first ≡ None → found ≡ find test ys → found ≡ find test (xs ++ ys)
found_after {first} test xs ys before none found = found ∙ ap (λ o. option_or o (find test ys)) (sym none ∙ before) ∙ sym (find-append test xs ys)
