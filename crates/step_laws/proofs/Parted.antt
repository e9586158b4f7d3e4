-- What a step leaves of the parts of a call, if it says so of each.
use Rattle.std.proofs.Common.{◌≡◌, ◌++◌, ◌+◌, ◌≤◌, ◌∙◌, ℕ, List, [], ◌∷◌, length, map, refl, sym, ap, arith, All, take_at, drop_at, length-append, subst}
use Rattle.std.specs.List.{AllZip}
use Rattle.std.proofs.lemmas.List.Elements.{All-cons, All-drop, All-head, All-nil, All-tail, All-take}
use Rattle.cvl_base.specs.Lists.{joined}

module _ {A B : Type 0} (R : A → B → Type 0) where
  -- what each pair has alike, the lists have alike; also if it is so under a condition that holds of all
  pub alike_where : {X : Type 0} (P : A → Type 0) (f : A → X) (g : B → X) → ((x : A) (y : B) → R x y → P x → g y ≡ f x)
      → (xs : List A) (ys : List B) → AllZip R xs ys → All P xs → map g ys ≡ map f xs
  alike_where P f g same [] [] zipped holds = refl
  alike_where P f g same [] (y ∷ ys) zipped holds = absurd zipped
  alike_where P f g same (x ∷ xs) [] zipped holds = absurd zipped
  alike_where P f g same (x ∷ xs) (y ∷ ys) zipped holds =
      let rest = alike_where P f g same xs ys zipped.1 (All-tail P x xs holds) in
      ap (λ z. z ∷ map g ys) (same x y zipped.0 (All-head P x xs holds)) ∙ ap (λ zs. f x ∷ zs) rest

  pub alike : {X : Type 0} (f : A → X) (g : B → X) → ((x : A) (y : B) → R x y → g y ≡ f x) → (xs : List A) (ys : List B) → AllZip R xs ys
      → map g ys ≡ map f xs
  alike f g same [] [] zipped = refl
  alike f g same [] (y ∷ ys) zipped = absurd zipped
  alike f g same (x ∷ xs) [] zipped = absurd zipped
  alike f g same (x ∷ xs) (y ∷ ys) zipped = ap (λ z. z ∷ map g ys) (same x y zipped.0) ∙ ap (λ zs. f x ∷ zs) (alike f g same xs ys zipped.1)

  -- what holds of all before holds of all behind
  pub keeps : (P : A → Type 0) (Q : B → Type 0) → ((x : A) (y : B) → R x y → P x → Q y) → (xs : List A) (ys : List B) → AllZip R xs ys → All P xs → All Q ys
  keeps P Q step [] [] zipped holds = All-nil Q
  keeps P Q step [] (y ∷ ys) zipped holds = absurd zipped
  keeps P Q step (x ∷ xs) [] zipped holds = absurd zipped
  keeps P Q step (x ∷ xs) (y ∷ ys) zipped holds =
      All-cons Q y ys (step x y zipped.0 (All-head P x xs holds)) (keeps P Q step xs ys zipped.1 (All-tail P x xs holds))

-- functions that give the same lists give the same of each
pub each-alike : {A X : Type 0} (f g : A → X) (xs : List A) → map f xs ≡ map g xs → All (λ x. f x ≡ g x) xs
each-alike f g [] same = All-nil (λ x. f x ≡ g x)
each-alike f g (x ∷ xs) same =
    let listed : f x ∷ map f xs ≡ g x ∷ map g xs = same in
    let first : f x ≡ g x = cc in
    let rest : map f xs ≡ map g xs = cc in
    All-cons (λ y. f y ≡ g y) x xs first (each-alike f g xs rest)

-- what follows for each pair follows for the lists
pub each-also : {A B : Type 0} (R Q : A → B → Type 0) → ((x : A) (y : B) → R x y → Q x y) → (xs : List A) (ys : List B) → AllZip R xs ys → AllZip Q xs ys
each-also R Q step [] [] zipped = tt
each-also R Q step [] (y ∷ ys) zipped = absurd zipped
each-also R Q step (x ∷ xs) [] zipped = absurd zipped
each-also R Q step (x ∷ xs) (y ∷ ys) zipped = (step x y zipped.0, each-also R Q step xs ys zipped.1)

-- also if it follows under a condition that holds of all
pub each-where : {A B : Type 0} (R Q : A → B → Type 0) (P : A → Type 0) → ((x : A) (y : B) → R x y → P x → Q x y) → (xs : List A) (ys : List B) → AllZip R xs ys → All P xs
    → AllZip Q xs ys
each-where R Q P step [] [] zipped holds = tt
each-where R Q P step [] (y ∷ ys) zipped holds = absurd zipped
each-where R Q P step (x ∷ xs) [] zipped holds = absurd zipped
each-where R Q P step (x ∷ xs) (y ∷ ys) zipped holds = (step x y zipped.0 (All-head P x xs holds), each-where R Q P step xs ys zipped.1 (All-tail P x xs holds))

module _ {A X : Type 0} (f : A → List X) where
  -- the lists of the parts are no longer than the whole, and have its elements
  pub some-fewer : (most : ℕ) (xs : List A) → length (joined (map f xs)) ≤ most → All (λ x. length (f x) ≤ most) xs
  some-fewer most [] few = All-nil (λ x. length (f x) ≤ most)
  some-fewer most (x ∷ xs) few =
      let both : length (f x) + length (joined (map f xs)) ≤ most = subst (λ n. n ≤ most) (length-append (f x) (joined (map f xs))) few in
      All-cons (λ y. length (f y) ≤ most) x xs (omega (arith, both)) (some-fewer most xs (omega (arith, both)))

  pub all-parts : (P : X → Type 0) (xs : List A) → All P (joined (map f xs)) → All (All P) (map f xs)
  all-parts P [] holds = All-nil (All P)
  all-parts P (x ∷ xs) holds =
      let rest = joined (map f xs) in
      let own : All P (f x) = subst (All P) (take_at (f x) rest (length (f x)) refl) (All-take P (length (f x)) (f x ++ rest) holds) in
      let others : All P rest = subst (All P) (drop_at (f x) rest (length (f x)) refl) (All-drop P (length (f x)) (f x ++ rest) holds) in
      All-cons (All P) (f x) (map f xs) own (all-parts P xs others)

  -- lists that are as long in pairs are as long together
  pub as-long : {Y : Type 0} (g : A → List Y) (xs : List A) → All (λ x. length (g x) ≡ length (f x)) xs → length (joined (map g xs)) ≡ length (joined (map f xs))
  as-long g [] long = refl
  as-long g (x ∷ xs) long =
      length-append (g x) (joined (map g xs))
      ∙ ap (λ n. n + length (joined (map g xs))) (All-head (λ y. length (g y) ≡ length (f y)) x xs long)
      ∙ ap (λ n. length (f x) + n) (as-long g xs (All-tail (λ y. length (g y) ≡ length (f y)) x xs long))
      ∙ sym (length-append (f x) (joined (map f xs)))
