-- The least place at which an operator has no value: a walk over the places until the first one.
use Rattle.elementwise.proofs.Cited.{Option, Some, None, zip, is_some, ◌≡◌, ◌∙◌, refl, sym, ap, ℕ, zero, suc, ◌+◌, ◌-◌, ◌<◌, ◌≤◌, ℤ, pos, true, false, List, ◌∷◌, length, min, drop, get_or, arith}
use Rattle.elementwise.proofs.Cited.{drop-cons, true≢false, get_or-map, length-map, get_or-zip, length-zip, least_from}
use Rattle.std.proofs.Math.ListN.{drop_of_length-le}
use Rattle.elementwise.specs.Valueless.{least_without, slot_without, slots_without}

-- the slot of a place, by whether the operator has a value there
without_value : (v : Option ℤ) → is_some v ≡ false → slot_without v ≡ Some 0
without_value None is = refl
without_value (Some y) is = absurd (true≢false is)

with_value : (v : Option ℤ) → is_some v ≡ true → slot_without v ≡ None
with_value None is = absurd (true≢false (sym is))
with_value (Some y) is = refl

module _ (value : ℤ → ℤ → Option ℤ) (xs ys : List ℤ) where
  as_many : length (slots_without value xs ys) ≡ min (length xs) (length ys)
  as_many = omega (arith, length-map (zip xs ys) (λ p. slot_without (value p.0 p.1)), length-zip xs ys)

  module _ (place : ℕ) (in_xs : place < length xs) (in_ys : place < length ys) where
    abbrev here : Option ℤ
    here = value (get_or xs place (pos 0)) (get_or ys place (pos 0))

    slot_at : get_or (slots_without value xs ys) place None ≡ slot_without here
    slot_at =
        get_or-map (λ p. slot_without (value p.0 p.1)) (zip xs ys) place (pos 0, pos 0) None (omega (arith, length-zip xs ys))
        ∙ ap (λ p. slot_without (value p.0 p.1)) (get_or-zip xs ys place (pos 0, pos 0) in_xs in_ys)

    pub no_slot : is_some here ≡ true → get_or (slots_without value xs ys) place None ≡ None
    no_slot is = slot_at ∙ with_value here is

    pub in_slot : is_some here ≡ false → get_or (slots_without value xs ys) place None ≡ Some 0
    in_slot is = slot_at ∙ without_value here is

    by_slot : (slot : Option ℕ) → get_or (slots_without value xs ys) place None ≡ slot
        → least_without value xs ys place ≡ least_from place (slot ∷ drop (suc place) (slots_without value xs ys)) 0
    by_slot slot is =
        ap (λ l. least_from place l 0) (drop-cons (slots_without value xs ys) place None (omega (arith, as_many)))
        ∙ (λ i. least_from place (is i ∷ drop (suc place) (slots_without value xs ys)) 0)

    clear_here : get_or (slots_without value xs ys) place None ≡ None → least_without value xs ys place ≡ least_without value xs ys (place + 1)
    clear_here none =
        let next : suc place ≡ place + 1 = omega arith in by_slot None none ∙ ap (λ k. least_from (place + 1) (drop k (slots_without value xs ys)) 0) next

    pub passed : is_some here ≡ true → least_without value xs ys place ≡ least_without value xs ys (place + 1)
    passed is = clear_here (no_slot is)

    pub found : is_some here ≡ false → least_without value xs ys place ≡ Some place
    found is = by_slot (Some 0) (in_slot is)

  pub none_left : (place : ℕ) → length xs ≤ place → least_without value xs ys place ≡ None
  none_left place all = ap (λ l. least_from place l 0) (drop_of_length-le (slots_without value xs ys) (omega (arith, all, as_many)))

  -- where the next n places have values
  passed_all : (place n : ℕ) → place + n ≤ length xs → place + n ≤ length ys → ((k : ℕ) → place ≤ k → k < place + n → get_or (slots_without value xs ys) k None ≡ None)
      → least_without value xs ys place ≡ least_without value xs ys (place + n)
  passed_all place zero in_xs in_ys clear = let same : place ≡ place + 0 = omega arith in ap (least_without value xs ys) same
  passed_all place (suc n) in_xs in_ys clear =
      let next : place + 1 + n ≡ place + suc n = omega arith in
      clear_here place (omega arith) (omega arith) (clear place (omega arith) (omega arith))
      ∙ passed_all (place + 1) n (omega arith) (omega arith) (λ k begun before. clear k (omega (arith, begun)) (omega (arith, before))) ∙ ap (least_without value xs ys) next

  -- or all from one to another
  pub passed_up_to : (from to : ℕ) → from ≤ to → to ≤ length xs → to ≤ length ys → ((k : ℕ) → from ≤ k → k < to → get_or (slots_without value xs ys) k None ≡ None)
      → least_without value xs ys from ≡ least_without value xs ys to
  passed_up_to from to in_order in_xs in_ys clear =
      let n : ℕ = to - from in let whole : from + n ≡ to = omega (arith, in_order) in
      passed_all from n (omega (arith, whole)) (omega (arith, whole)) (λ k begun before. clear k begun (omega (arith, before, whole))) ∙ ap (least_without value xs ys) whole
