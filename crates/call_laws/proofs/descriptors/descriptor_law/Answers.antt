use Rattle.call_laws.proofs.Cited.{nat_tests, ◌≡◌, ◌<◌, ◌∙◌, ℕ, Bool, true, false, ℤ, pos, negsuc, List, length, map, sum, refl, sym, ap, arith, Some, None, Ok, Err, Option, Result, cond, nat_lt}
use Rattle.call_laws.proofs.Cited.{option_map, false≢true, lt-ltb, le-ltb, ltb-true, ltb-false, get_or_from_slice_get, slice_get-get_or, slice_get_within, fault, fault_at, unless, fault_if}
use Rattle.call_laws.proofs.Cited.{most_elements, get_or, unsigned_abs, position, is_negative, position_or_len, position-Some, fails_before_first, position_or_len_is, Fault, not_found}
use Rattle.cvl_base.specs.declared.fault.FaultNo.TheVariants as no
use Rattle.cvl_base.specs.Descriptors.{IsFirstNegative, descriptor_of}
use Rattle.cvl_base.proofs.Descriptors.{abs_pos, natural, not_negative, position-lengths}
use Rattle.call_laws.proofs.descriptors.descriptor_law.Goals as goal

-- ---- where the first negative number stands

natural-number : (z : ℤ) → is_negative z ≡ false → (n : ℕ) × (z ≡ pos n)
natural-number (pos n) e = (n, refl)
natural-number (negsuc n) e = cc

negative-number : (z : ℤ) → is_negative z ≡ true → (n : ℕ) × (z ≡ negsuc n)
negative-number (pos n) e = absurd (false≢true (sym (not_negative n) ∙ e))
negative-number (negsuc n) e = (n, refl)

first-negative : (numbers : List ℤ) (k : ℕ) → position is_negative numbers ≡ Some k → IsFirstNegative numbers k
first-negative numbers k e =
    let found = position-Some is_negative numbers k (pos 0) e in
    let here = negative-number (get_or numbers k (pos 0)) found.1 in
    record {
      before = λ j below. let earlier = natural-number (get_or numbers j (pos 0)) (found.2 j below) in
          (earlier.0, slice_get-get_or numbers j (pos 0) (omega (arith, found.0)) ∙ ap Some earlier.1);
      here = (here.0, slice_get-get_or numbers k (pos 0) found.0 ∙ ap Some here.1);
    }

position-first : (numbers : List ℤ) (k : ℕ) → IsFirstNegative numbers k → position is_negative numbers ≡ Some k
position-first numbers k first =
    let within : k < length numbers = slice_get_within numbers k (negsuc first.here.0) first.here.1 in
    let at : position_or_len is_negative numbers ≡ k = position_or_len_is is_negative numbers k (pos 0) (omega arith)
    (λ j below. let earlier = first.before j below in ap is_negative (get_or_from_slice_get numbers j (pos earlier.0) (pos 0) earlier.1) ∙ not_negative earlier.0)
    (λ _. ap is_negative (get_or_from_slice_get numbers k (negsuc first.here.0) (pos 0) first.here.1)) in
    (λ i. cond (nat_lt (at i) (length numbers)) (Some (at i)) None) ∙ ap (λ b. cond b (Some k) None) (lt-ltb k (length numbers) within)

-- ---- lengths, of which none is negative

none-negative : (numbers : List ℤ) → position is_negative numbers ≡ None → numbers ≡ map pos (map unsigned_abs numbers)
none-negative numbers e = grind (arith, nat_tests, ltb-false, not_found, natural, fails_before_first)

-- ---- the definition, at the place that was found, whether the total is above the limit, and the lengths

abbrev make : Option ℕ → Bool → List ℕ → Result (List ℕ) Fault
make place above sizes = unless (option_map (fault_at no.NegativeLength) place) (fault_if above (fault no.TooLong) (Ok sizes))

abbrev place-of : Result (List ℕ) Fault → Option ℕ
place-of (Ok sizes) = None
place-of (Err f) = f.place

make-place : (place : Option ℕ) (above : Bool) (sizes : List ℕ) → place-of (make place above sizes) ≡ place
make-place (Some k) above sizes = refl
make-place None true sizes = refl
make-place None false sizes = refl

make-none : (place : Option ℕ) (above : Bool) (sizes : List ℕ) (answer : Result (List ℕ) Fault) → make place above sizes ≡ answer → place-of answer ≡ None → place ≡ None
make-none place above sizes answer e none = sym (make-place place above sizes) ∙ ap place-of e ∙ none

make-ok : (above : Bool) (sizes wanted : List ℕ) → make None above sizes ≡ Ok wanted → (above ≡ false) × (sizes ≡ wanted)
make-ok true sizes wanted e = cc
make-ok false sizes wanted e = (refl, cc)

make-too_long : (above : Bool) (sizes : List ℕ) → make None above sizes ≡ Err (fault no.TooLong) → above ≡ true
make-too_long true sizes e = refl
make-too_long false sizes e = cc

module _ (numbers : List ℤ) where
  is-make : (place : Option ℕ) (above : Bool) → position is_negative numbers ≡ place → nat_lt most_elements (sum (map unsigned_abs numbers)) ≡ above
      → descriptor_of numbers ≡ make place above (map unsigned_abs numbers)
  is-make place above e f = λ i. make (e i) (f i) (map unsigned_abs numbers)

  no-place : (answer : Result (List ℕ) Fault) → descriptor_of numbers ≡ answer → place-of answer ≡ None → position is_negative numbers ≡ None
  no-place answer e none = make-none (position is_negative numbers) (nat_lt most_elements (sum (map unsigned_abs numbers))) (map unsigned_abs numbers) answer e none

pub returns : goal.returns
returns c = record {
  made = λ numbers sizes few. (
    (λ e. let none = no-place numbers (Ok sizes) e refl in
        let m = make-ok (nat_lt most_elements (sum (map unsigned_abs numbers))) (map unsigned_abs numbers) sizes (sym (is-make numbers None _ none refl) ∙ e) in
        let all = none-negative numbers none in
        (record { none_negative = all; few = few; in_limit = ltb-false most_elements (sum (map unsigned_abs numbers)) m.0 }, all ∙ ap (map pos) m.1)),
    (λ h. is-make numbers None false (ap (position is_negative) h.1 ∙ position-lengths sizes) (le-ltb most_elements (sum (map unsigned_abs numbers)) h.0.in_limit)
        ∙ ap (λ (ns : List ℕ). Ok ns) (ap (map unsigned_abs) h.1 ∙ abs_pos sizes)),
  );
  first_negative = λ numbers k. (
    (λ e. first-negative numbers k (sym (make-place (position is_negative numbers) (nat_lt most_elements (sum (map unsigned_abs numbers))) (map unsigned_abs numbers)) ∙ ap place-of e)),
    (λ first. is-make numbers (Some k) _ (position-first numbers k first) refl),
  );
  too_long = λ numbers. (
    (λ e. let none = no-place numbers (Err (fault no.TooLong)) e refl in (
      map unsigned_abs numbers,
      none-negative numbers none,
      ltb-true most_elements (sum (map unsigned_abs numbers)) (make-too_long _ (map unsigned_abs numbers) (sym (is-make numbers None _ none refl) ∙ e)),
    )),
    (λ h. is-make numbers None true (ap (position is_negative) h.1 ∙ position-lengths h.0)
        (ap (λ (ns : List ℕ). nat_lt most_elements (sum ns)) (ap (map unsigned_abs) h.1 ∙ abs_pos h.0) ∙ lt-ltb most_elements (sum h.0) h.2)),
  );
}
