use Rattle.call_laws.proofs.Cited.{rules, nat_tests, ◌≡◌, ◌+◌, ◌++◌, ◌∙◌, ◌↔◌, ℕ, Bool, true, false, ℤ, pos, negsuc, List, length, refl, sym, ap, arith, ints, nat_lt, Ok, Err, Option, Some, None}
use Rattle.call_laws.proofs.Cited.{ok_or, le-ltb, ltb-true, ltb-false, length-append, replace_of, fault_at, ◌-◌, ◌-ℤ◌, set-append_left, set-append_right, Fault, with_element_at, after}
use Rattle.call_laws.proofs.Cited.{replaced_in_two}
use Rattle.cvl_base.specs.declared.fault.FaultNo.TheVariants as no
use Rattle.call_laws.proofs.ElementPlaces.{replace-inside}
use Rattle.call_laws.proofs.extracts.replace_in_parts.Goals as goal

abbrev outside : Fault
outside = fault_at no.IndexOutOfRange 0

module _ {X : Type 0} (xs ys : List X) (x : X) where
  -- an index in the second part
  behind : (k j : ℕ) → k ≡ length xs + j → (b : Bool) → nat_lt j (length ys) ≡ b → replace_of (xs ++ ys) (pos k) x ≡ after xs (replace_of ys (pos j) x)
  behind k j at true e =
      let within = ltb-true j (length ys) e in
      replace-inside (xs ++ ys) k x (omega (arith, within, at, length-append xs ys))
      ∙ ap Ok (set-append_right xs ys (length xs) k x refl (omega (arith, at)))
      ∙ (λ i. after xs (sym (replace-inside ys (k - length xs) x (omega (arith, within, at))) i))
      ∙ ap (λ p. after xs (replace_of ys (pos p) x)) (omega (arith, at))
  behind k j at false e =
      rw (le-ltb k (length (xs ++ ys)) (omega (arith, ltb-false j (length ys) e, at, length-append xs ys)), e)

  at-place : (k : ℕ) (b : Bool) → nat_lt k (length xs) ≡ b
      → replace_of (xs ++ ys) (pos k) x ≡ replaced_in_two xs ys (replace_of xs (pos k) x) (replace_of ys (pos k -ℤ pos (length xs)) x)
  at-place k true e = grind (arith, nat_tests, ltb-true, replace-inside, length-append, set-append_left)
  at-place k false e =
      let past = ltb-false k (length xs) e in
      let less : pos k -ℤ pos (length xs) ≡ pos (k - length xs) = omega (arith, ints, past) in
      rw (le-ltb k (length xs) past, less) (behind k (k - length xs) (omega (arith, past)) _ refl)

  copied : (index : ℤ) → replace_of (xs ++ ys) index x ≡ replaced_in_two xs ys (replace_of xs index x) (replace_of ys (index -ℤ pos (length xs)) x)
  copied (pos k) = at-place k _ refl
  copied (negsuc m) = search rules

-- an answer of a replace is a vector or the one fault
neither : {X : Type 0} (xs ys : List X) (first second : Option (List X))
    → (replaced_in_two xs ys (ok_or first outside) (ok_or second outside) ≡ Err outside) ↔ ((ok_or first outside ≡ Err outside) × (ok_or second outside ≡ Err outside))
neither xs ys (Some a) second = (λ p. cc, λ p. let q = p.0 in cc)
neither xs ys None (Some b) = (λ p. cc, λ p. let q = p.1 in cc)
neither xs ys None None = (λ p. (refl, refl), λ p. refl)

pub returns : goal.returns
returns g c = record {
  copy = λ xs ys index x. copied xs ys x index;
  in_neither = λ xs ys index x. rw (copied xs ys x index) (neither xs ys (with_element_at xs index x) (with_element_at ys (index -ℤ pos (length xs)) x));
}
