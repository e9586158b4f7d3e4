-- Lists by their places: what a sum and a highest value become where one place changes, where one element is appended, and where all others are 0.
-- Source: what the definitions of sums and of the highest value imply.
use Rattle.status_word.proofs.Cited.{◌≡◌, ◌≢◌, refl, sym, ap, ◌∙◌, subst, ℕ, zero, suc, ◌+◌, ◌<◌, ◌≤◌, max, List, [], ◌∷◌, ◌++◌, length, get_or, set, arith, length-set, All, sum_by, in_remove}
use Rattle.status_word.proofs.Cited.{get_or-set_same, All-push, All-set, get_or-le-sum_by, sum_by-cons, sum_by-remove, sum_by-set, some, some-injective, some-ne-none, get_elem?}
use Rattle.std.proofs.lemmas.List.Recursion.{max_bounds, max_push}
use Rattle.status_word.specs.Passes.{highest}

module _ {X : Type 0} where
  pub place_of : (xs : List X) (i : ℕ) (d : X) → i < length xs → get_elem? xs i ≡ some (get_or xs i d)
  place_of [] i d within = absurd (omega arith)
  place_of (x ∷ xs) zero d within = refl
  place_of (x ∷ xs) (suc i) d within = place_of xs i d (omega arith)

  pub read_at : (xs : List X) (i : ℕ) (x d : X) → get_elem? xs i ≡ some x → (i < length xs) × (get_or xs i d ≡ x)
  read_at [] i x d here = absurd (some-ne-none x (sym here))
  read_at (z ∷ xs) zero x d here = (omega arith, some-injective z x here)
  read_at (z ∷ xs) (suc i) x d here = let rest = read_at xs i x d here in (omega (arith, rest.0), rest.1)

  pub set_here : (xs : List X) (i : ℕ) (x y : X) → get_elem? xs i ≡ some x → get_elem? (set xs i y) i ≡ some y
  set_here xs i x y here =
      let inside = (read_at xs i x x here).0 in
      place_of (set xs i y) i y (omega (arith, length-set {A = X}, inside)) ∙ ap some (get_or-set_same xs i y y inside)

  pub set_else : (xs : List X) (i j : ℕ) (y : X) → j ≢ i → get_elem? (set xs i y) j ≡ get_elem? xs j
  set_else [] i j y differ = refl
  set_else (x ∷ xs) zero zero y differ = absurd (differ refl)
  set_else (x ∷ xs) zero (suc j) y differ = refl
  set_else (x ∷ xs) (suc i) zero y differ = refl
  set_else (x ∷ xs) (suc i) (suc j) y differ = set_else xs i j y (λ same. differ (ap suc same))

  -- what is true of all elements is true of each at its place
  pub element_at : (P : X → Type 0) (xs : List X) → All P xs → (j : ℕ) (z : X) → get_elem? xs j ≡ some z → P z
  element_at P xs all j z there = let at = read_at xs j z z there in subst P at.1 (all j z at.0)

  all_of : (P : X → Type 0) (xs : List X) → ((j : ℕ) (z : X) → get_elem? xs j ≡ some z → P z) → All P xs
  all_of P xs each = λ j d within. each j (get_or xs j d) (place_of xs j d within)

  pub each_set : (P : X → Type 0) (xs : List X) (i : ℕ) (y : X) → ((j : ℕ) (z : X) → get_elem? xs j ≡ some z → P z) → P y → (j : ℕ) (z : X) → get_elem? (set xs i y) j ≡ some z → P z
  each_set P xs i y each new = element_at P (set xs i y) (All-set P xs i y new (all_of P xs each))

  pub each_push : (P : X → Type 0) (xs : List X) (y : X) → ((j : ℕ) (z : X) → get_elem? xs j ≡ some z → P z) → P y → (j : ℕ) (z : X) → get_elem? (xs ++ y ∷ []) j ≡ some z → P z
  each_push P xs y each new = element_at P (xs ++ y ∷ []) (All-push P xs y (all_of P xs each) new)

  -- ---- sums

  pub sum_set : (f : X → ℕ) (xs : List X) (i : ℕ) (x y : X) → get_elem? xs i ≡ some x → sum_by f (set xs i y) + f x ≡ sum_by f xs + f y
  sum_set f xs i x y here = let at = read_at xs i x x here in omega (arith, sum_by-set f xs i y x at.0, ap f at.1)

  pub sum_at : (f : X → ℕ) (xs : List X) (i : ℕ) (x : X) → get_elem? xs i ≡ some x → f x ≤ sum_by f xs
  sum_at f xs i x here = let at = read_at xs i x x here in omega (arith, get_or-le-sum_by f xs i x at.0, ap f at.1)

  pub sum_le : (f g : X → ℕ) (xs : List X) → ((j : ℕ) (z : X) → get_elem? xs j ≡ some z → f z ≤ g z) → sum_by f xs ≤ sum_by g xs
  sum_le f g [] each = omega arith
  sum_le f g (x ∷ xs) each = omega (arith, each 0 x refl, sum_le f g xs (λ j z there. each (suc j) z there), sum_by-cons f x xs, sum_by-cons g x xs)

  -- where one element has the whole sum, all others have 0
  pub others_none : (f : X → ℕ) (xs : List X) (i : ℕ) (x : X) → get_elem? xs i ≡ some x → sum_by f xs ≡ f x → (j : ℕ) (z : X) → j ≢ i → get_elem? xs j ≡ some z → f z ≡ 0
  others_none f xs i x here all j z differ there =
      let at = read_at xs i x x here in
      let its = read_at xs j z z there in
      let left = (in_remove xs i j z at.0 its.0 (sym its.1) differ).1 in
      omega (arith, all, sum_by-remove f xs i x at.0, ap f at.1, get_or-le-sum_by f _ left.0 z left.1, ap f left.2)

  -- ---- the highest value

  pub highest_at : (f : X → ℕ) (xs : List X) (i : ℕ) (x : X) → get_elem? xs i ≡ some x → f x ≤ highest f xs
  highest_at f xs i x here = let at = read_at xs i x x here in omega (arith, max_bounds (highest f) f refl (λ y ys. refl) xs i x at.0, ap f at.1)

  pub highest_set : (f : X → ℕ) (xs : List X) (i : ℕ) (x y : X) (r : ℕ) → get_elem? xs i ≡ some x → f y ≡ max (f x) r → highest f (set xs i y) ≡ max (highest f xs) r
  highest_set f [] i x y r here same = absurd (some-ne-none x (sym here))
  highest_set f (z ∷ xs) zero x y r here same = omega (arith, ap f (some-injective z x here))
  highest_set f (z ∷ xs) (suc i) x y r here same = omega (arith, highest_set f xs i x y r here same)

  pub highest_same : (f : X → ℕ) (xs : List X) (i : ℕ) (x y : X) → get_elem? xs i ≡ some x → f y ≡ f x → highest f (set xs i y) ≡ highest f xs
  highest_same f xs i x y here same = omega (arith, highest_set f xs i x y 0 here (omega arith))

  pub highest_push : (f : X → ℕ) (xs : List X) (y : X) → highest f (xs ++ y ∷ []) ≡ max (highest f xs) (f y)
  highest_push f = max_push (highest f) f refl (λ x xs. refl)

  -- an element whose measure is 0 may stand there in the place of another
  highest_out : (f : X → ℕ) (xs : List X) (i : ℕ) (x y : X) → get_elem? xs i ≡ some x → f y ≡ 0 → highest f xs ≡ max (f x) (highest f (set xs i y))
  highest_out f [] i x y here none = absurd (some-ne-none x (sym here))
  highest_out f (z ∷ xs) zero x y here none = omega (arith, ap f (some-injective z x here))
  highest_out f (z ∷ xs) (suc i) x y here none = omega (arith, highest_out f xs i x y here none)

  -- one element takes in another, of which nothing is left
  pub highest_joined : (f : X → ℕ) (xs : List X) (i j : ℕ) (x z both spent : X) → get_elem? xs i ≡ some x → j ≢ i → get_elem? (set xs i both) j ≡ some z
      → f both ≡ max (f x) (f z) → f spent ≡ 0 → highest f (set (set xs i both) j spent) ≡ highest f xs
  highest_joined f xs i j x z both spent here differ there greater none =
      let had = highest_at f xs j z (sym (set_else xs i j both differ) ∙ there) in
      let change = highest_set f xs i x both (f z) here greater in
      let out = highest_out f (set xs i both) j z spent there none in
      let stays = highest_at f (set (set xs i both) j spent) i both (set_else (set xs i both) j i spent (λ e. differ (sym e)) ∙ set_here xs i x both here) in
      omega arith

-- ---- where one element alone has a measure

-- a list's measure is that of its elements, joined one by one with that of no element, which changes nothing
module _ {X : Type 0} (F : List X → ℕ) (f : X → ℕ) (join : ℕ → ℕ → ℕ) (unit : ℕ) (none : F [] ≡ unit) (step : (x : X) (xs : List X) → F (x ∷ xs) ≡ join (f x) (F xs))
    (stays : (xs : List X) → join unit (F xs) ≡ F xs) where
  all_none : (xs : List X) → ((j : ℕ) (z : X) → get_elem? xs j ≡ some z → f z ≡ unit) → F xs ≡ unit
  all_none [] each = none
  all_none (x ∷ xs) each = step x xs ∙ ap (λ n. join n (F xs)) (each 0 x refl) ∙ stays xs ∙ all_none xs (λ j z there. each (suc j) z there)

  pub one_alone : (xs : List X) (i : ℕ) (x : X) → get_elem? xs i ≡ some x → ((j : ℕ) (z : X) → j ≢ i → get_elem? xs j ≡ some z → f z ≡ unit) → F xs ≡ join (f x) unit
  one_alone [] i x here each = absurd (some-ne-none x (sym here))
  one_alone (y ∷ xs) zero x here each =
      step y xs ∙ ap (λ z. join (f z) (F xs)) (some-injective y x here) ∙ ap (join (f x)) (all_none xs (λ j z there. each (suc j) z (λ e. omega arith) there))
  one_alone (y ∷ xs) (suc i) x here each =
      step y xs ∙ ap (λ n. join n (F xs)) (each 0 y (λ e. omega arith) refl) ∙ stays xs ∙ one_alone xs i x here (λ j z differ there. each (suc j) z (λ e. differ (omega arith)) there)
