-- The first of some items that has no value, of lists one after another.
use Rattle.fresh.proofs.Cited.{rules, ◌≡◌, ℕ, zero, suc, ◌+◌, ◌-◌, ◌<◌, ◌≤◌, List, [], ◌∷◌, ◌++◌, length, take, drop, refl, ap, arith, Option, Some, None, drop-drop, take-add, option_or, part}
use Rattle.fresh.specs.Found.{first_without}

module _ {X : Type 0} where
  pub first_of_both : (place : ℕ) (vs ws : List (Option X)) → first_without place (vs ++ ws) ≡ option_or (first_without place vs) (first_without (place + length vs) ws)
  first_of_both place [] ws = let same : place ≡ place + 0 = omega arith in ap (λ p. first_without p ws) same
  first_of_both place (None ∷ vs) ws = refl
  first_of_both place (Some x ∷ vs) ws = search (rules, first_of_both (place + 1) vs ws)

  pub found_within : (place p : ℕ) (vs : List (Option X)) → first_without place vs ≡ Some p → p < place + length vs
  found_within place p [] is = cc
  found_within place p (None ∷ vs) is = grind arith
  found_within place p (Some x ∷ vs) is = omega (arith, found_within (place + 1) p vs is)

  -- behind the first n items, or behind all where these are fewer
  behind : (place n m : ℕ) (vs : List (Option X)) → first_without (place + length (take n vs)) (take m (drop n vs)) ≡ first_without (place + n) (take m (drop n vs))
  behind place zero m vs = refl
  behind place (suc n) zero [] = refl
  behind place (suc n) (suc m) [] = refl
  behind place (suc n) m (v ∷ vs) = search (rules, behind (place + 1) n m vs)

  pub found_in_both : (vs : List (Option X)) (first n room : ℕ) → n ≤ room
      → first_without first (part vs first room) ≡ option_or (first_without first (part vs first n)) (first_without (first + n) (part vs (first + n) (room - n)))
  found_in_both vs first n room within =
      let ws = drop first vs in let all : room ≡ n + (room - n) = omega arith in
      cc (all, take-add n (room - n) ws, first_of_both first (take n ws) (take (room - n) (drop n ws)), behind first n (room - n) ws, drop-drop n first vs)
