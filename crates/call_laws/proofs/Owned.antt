-- What is found, kept or counted in a list is so among those of its elements that pass another test, if what is looked for passes it.
use Rattle.std.proofs.Common.{⊎_elim}
use Rattle.std.proofs.lemmas.Bool.{cond-false}
use Rattle.std.specs.Prelude.{find}
use Rattle.call_laws.proofs.Cited.{◌≡◌, ◌+◌, ◌∷◌, ◌∙◌, Bool, false, true, [], List, Some, ap, arith, cond, count_by, refl, sym, sum_by-cons, cases_Bool, filter}

pub find-filter : {X : Type 0} (test p : X → Bool) → ((x : X) → test x ≡ true → p x ≡ true) → (xs : List X) → find test (filter p xs) ≡ find test xs
find-filter test p h [] = refl
find-filter test p h (x ∷ xs) =
    ⊎_elim
    (λ y. rw (h x y, y) refl)
    (λ n.
    ⊎_elim
    (λ (q : p x ≡ true). rw (q) (ap (λ found. cond (test x) (Some x) found) (find-filter test p h xs)))
    (λ (q : p x ≡ false). rw (q) (find-filter test p h xs ∙ sym (cond-false (test x) (Some x) (find test xs) n)))
    (cases_Bool (p x)))
    (cases_Bool (test x))

pub filter-filter : {X : Type 0} (test p : X → Bool) → ((x : X) → test x ≡ true → p x ≡ true) → (xs : List X) → filter test (filter p xs) ≡ filter test xs
filter-filter test p h [] = refl
filter-filter test p h (x ∷ xs) =
    ⊎_elim
    (λ (y : test x ≡ true). rw (h x y, y) (ap (λ ys. x ∷ ys) (filter-filter test p h xs)))
    (λ (n : test x ≡ false).
    ⊎_elim
    (λ (q : p x ≡ true). rw (q, n) (filter-filter test p h xs))
    (λ (q : p x ≡ false). rw (q, n) (filter-filter test p h xs))
    (cases_Bool (p x)))
    (cases_Bool (test x))

module _ {X : Type 0} (test p : X → Bool) (h : (x : X) → test x ≡ true → p x ≡ true) where
  one-more : (x : X) (xs : List X) → count_by test (x ∷ xs) ≡ cond (test x) 1 0 + count_by test xs
  one-more x xs = sum_by-cons (λ y. cond (test y) 1 0) x xs

  both-more : (x : X) (xs ys : List X) → count_by test xs ≡ count_by test ys → count_by test (x ∷ xs) ≡ count_by test (x ∷ ys)
  both-more x xs ys same = one-more x xs ∙ ap (λ n. cond (test x) 1 0 + n) same ∙ sym (one-more x ys)

  none-more : (x : X) (xs : List X) → test x ≡ false → count_by test (x ∷ xs) ≡ count_by test xs
  none-more x xs n =
      let none : cond (test x) 1 0 + count_by test xs ≡ 0 + count_by test xs = ap (λ b. cond b 1 0 + count_by test xs) n in
      omega (arith, one-more x xs, none)

  pub count-filter : (xs : List X) → count_by test (filter p xs) ≡ count_by test xs
  count-filter [] = refl
  count-filter (x ∷ xs) =
      ⊎_elim
      (λ (y : test x ≡ true). rw (h x y) (both-more x (filter p xs) xs (count-filter xs)))
      (λ (n : test x ≡ false).
      ⊎_elim
      (λ (q : p x ≡ true). rw (q) (both-more x (filter p xs) xs (count-filter xs)))
      (λ (q : p x ≡ false). rw (q) (count-filter xs ∙ sym (none-more x xs n)))
      (cases_Bool (p x)))
      (cases_Bool (test x))
