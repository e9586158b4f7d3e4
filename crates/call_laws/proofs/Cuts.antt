-- A list cut by lengths has those lengths and is the list again, and no other list of lists is so.
use Rattle.call_laws.proofs.Cited.{◌≡◌, ◌∷◌, ◌∙◌, ◌↔◌, ℕ, List, [], length, refl, ap, sym, subst, arith, inl, inr, length-append, Ok, map, sum, eqb_tells, joined, nest, cut_of, sum-cons, nest-fits}
use Rattle.call_laws.proofs.Cited.{nest-misfits, IsNest, joined-cut, lengths-cut}
use Rattle.call_reader.proofs.NestedMarks.{cut-joined}

pub sum-lengths : {X : Type 0} (lists : List (List X)) → sum (map length lists) ≡ length (joined lists)
sum-lengths [] = refl
sum-lengths (xs ∷ lists) = omega (arith, sum-cons (length xs) (map length lists), sum-lengths lists, length-append xs (joined lists))

pub nest-joined : {X : Type 0} (lists : List (List X)) → nest (map length lists) (joined lists) ≡ Ok lists
nest-joined lists = nest-fits (map length lists) (joined lists) (sum-lengths lists) ∙ ap Ok (cut-joined lists)

pub nest-meaning : {X : Type 0} (lengths : List ℕ) (xs : List X) (lists : List (List X)) → (nest lengths xs ≡ Ok lists) ↔ IsNest lengths xs lists
nest-meaning lengths xs lists = (
  λ e. elim (eqb_tells (sum lengths) (length xs)) [
    | inl t ↦
        let same : cut_of lengths xs ≡ lists = let f = nest-fits lengths xs t.1 in cc in
        subst (IsNest lengths xs) same (record { has_lengths = lengths-cut lengths xs (omega (arith, t.1)); has_elements = joined-cut lengths xs t.1 })
    | inr t ↦ let f = nest-misfits lengths xs t.1 in cc
  ],
  λ is. (λ i. nest (sym is.has_lengths i) (sym is.has_elements i)) ∙ nest-joined lists,
)
