-- The least of a measure over a list, where one element changes, where one is appended, and where one takes in another.
-- Source: what the definition of the least of a measure implies.
use Rattle.least_boards.proofs.Cited.{◌≡◌, ◌≢◌, sym, ap, ◌∙◌, ℕ, zero, suc, ◌≤◌, min, List, [], ◌∷◌, ◌++◌, set, arith, some, some-injective, some-ne-none, get_elem?, set_else, set_here}
use Rattle.least_boards.specs.declared.least_pass.Low.{Low}
use Rattle.least_boards.specs.LeastPasses.{lowest, lowest_of, no_place}

-- ---- the places of one slot

lows_most : (slot : ℕ) (xs : List Low) → lowest slot xs ≤ no_place
lows_most slot [] = omega arith
lows_most slot (x ∷ xs) = omega (arith, lows_most slot xs)

pub lows-append : (slot : ℕ) (xs ys : List Low) → lowest slot (xs ++ ys) ≡ min (lowest slot xs) (lowest slot ys)
lows-append slot [] ys = omega (arith, lows_most slot ys)
lows-append slot (x ∷ xs) ys = omega (arith, lows-append slot xs ys)

-- ---- the least of a measure

module _ {X : Type 0} where
  pub lowest_most : (f : X → ℕ) (xs : List X) → lowest_of f xs ≤ no_place
  lowest_most f [] = omega arith
  lowest_most f (x ∷ xs) = omega (arith, lowest_most f xs)

  pub lowest_at : (f : X → ℕ) (xs : List X) (i : ℕ) (x : X) → get_elem? xs i ≡ some x → lowest_of f xs ≤ f x
  lowest_at f [] i x here = absurd (some-ne-none x (sym here))
  lowest_at f (z ∷ xs) zero x here = omega (arith, ap f (some-injective z x here))
  lowest_at f (z ∷ xs) (suc i) x here = omega (arith, lowest_at f xs i x here)

  pub lowest_set : (f : X → ℕ) (xs : List X) (i : ℕ) (x y : X) (r : ℕ) → get_elem? xs i ≡ some x → f y ≡ min (f x) r → lowest_of f (set xs i y) ≡ min (lowest_of f xs) r
  lowest_set f [] i x y r here same = absurd (some-ne-none x (sym here))
  lowest_set f (z ∷ xs) zero x y r here same = omega (arith, ap f (some-injective z x here))
  lowest_set f (z ∷ xs) (suc i) x y r here same = omega (arith, lowest_set f xs i x y r here same)

  pub lowest_same : (f : X → ℕ) (xs : List X) (i : ℕ) (x y : X) → get_elem? xs i ≡ some x → f y ≡ f x → lowest_of f (set xs i y) ≡ lowest_of f xs
  lowest_same f xs i x y here same = omega (arith, lowest_set f xs i x y (f x) here (omega arith), lowest_at f xs i x here)

  pub lowest_push : (f : X → ℕ) (xs : List X) (y : X) → lowest_of f (xs ++ y ∷ []) ≡ min (lowest_of f xs) (f y)
  lowest_push f [] y = omega arith
  lowest_push f (x ∷ xs) y = omega (arith, lowest_push f xs y)

  -- an element whose measure is no place may stand there in the place of another
  lowest_out : (f : X → ℕ) (xs : List X) (i : ℕ) (x y : X) → get_elem? xs i ≡ some x → f y ≡ no_place → lowest_of f xs ≡ min (f x) (lowest_of f (set xs i y))
  lowest_out f [] i x y here none = absurd (some-ne-none x (sym here))
  lowest_out f (z ∷ xs) zero x y here none = omega (arith, ap f (some-injective z x here), lowest_most f xs)
  lowest_out f (z ∷ xs) (suc i) x y here none = omega (arith, lowest_out f xs i x y here none)

  -- one element takes in another, of which nothing is left
  pub lowest_joined : (f : X → ℕ) (xs : List X) (i j : ℕ) (x z both spent : X) → get_elem? xs i ≡ some x → j ≢ i → get_elem? (set xs i both) j ≡ some z
      → f both ≡ min (f x) (f z) → f spent ≡ no_place → lowest_of f (set (set xs i both) j spent) ≡ lowest_of f xs
  lowest_joined f xs i j x z both spent here differ there lesser none =
      let found : get_elem? xs j ≡ some z = sym (set_else xs i j both differ) ∙ there in
      let had = lowest_at f xs j z found in
      let change = lowest_set f xs i x both (f z) here lesser in
      let out = lowest_out f (set xs i both) j z spent there none in
      let stays = lowest_at f (set (set xs i both) j spent) i both (set_else (set xs i both) j i spent (λ e. differ (sym e)) ∙ set_here xs i x both here) in
      omega arith
