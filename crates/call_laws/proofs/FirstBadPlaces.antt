-- The fault of a permute is that of its first bad place.
use Rattle.call_laws.proofs.Cited.{rules, ◌≡◌, ◌+◌, ◌<◌, if◌then◌else◌, ◌∷◌, ◌∙◌, ℕ, zero, suc, Bool, true, false, not, List, [], length, take, refl, sym, ap, arith, inl, inr, ℤ, slice_get, Some}
use Rattle.call_laws.proofs.Cited.{None, Option, list_any, both_ways, false≢true, false_from_ne_true, or_cases, Decides-int_eq, get_or_from_slice_get, none-some, same_Some, slice_get-get_or}
use Rattle.call_laws.proofs.Cited.{slice_get_within, fault_at, first_fault, wrongs, is_place, is_destination, element, any_passes_from_place, FaultNo, IndexOutOfRange, IndexRepeated, wrong_at}
use Rattle.call_laws.proofs.Cited.{IsGoodBefore}
use Rattle.permute_walks.proofs.Sent.{length-wrongs, wrong_here}
use Rattle.call_laws.proofs.Places.{slice_get-take, slice_get_in_front}

-- ---- the first fault of a list of faults

first_fault-none : (place : ℕ) (ws : List (Option FaultNo)) (k : ℕ) (w : Option FaultNo) → first_fault place ws ≡ None → slice_get ws k ≡ Some w → w ≡ None
first_fault-none place [] k w right here = absurd (none-some w here)
first_fault-none place (Some number ∷ others) k w right here = absurd (none-some (fault_at number place) (sym right))
first_fault-none place (None ∷ others) zero w right here = sym (same_Some None w here)
first_fault-none place (None ∷ others) (suc k) w right here = first_fault-none (place + 1) others k w right here

none-first_fault : (place : ℕ) (ws : List (Option FaultNo)) → ((k : ℕ) (w : Option FaultNo) → slice_get ws k ≡ Some w → w ≡ None) → first_fault place ws ≡ None
none-first_fault place [] each = refl
none-first_fault place (None ∷ others) each = none-first_fault (place + 1) others (λ k w here. each (suc k) w here)
none-first_fault place (Some number ∷ others) each = absurd (none-some number (sym (each zero (Some number) refl)))

first_fault-at : (place : ℕ) (ws : List (Option FaultNo)) (k : ℕ) (number : FaultNo) → slice_get ws k ≡ Some (Some number) → ((j : ℕ) (w : Option FaultNo) → j < k → slice_get ws j ≡ Some w → w ≡ None)
    → first_fault place ws ≡ Some (fault_at number (place + k))
first_fault-at place [] k number here before = absurd (none-some (Some number) here)
first_fault-at place (None ∷ others) zero number here before = absurd (none-some number (same_Some None (Some number) here))
first_fault-at place (Some other ∷ others) zero number here before =
    ap (λ n. Some (fault_at n place)) (same_Some other number (same_Some (Some other) (Some number) here)) ∙ ap (λ p. Some (fault_at number p)) (omega arith)
first_fault-at place (Some other ∷ others) (suc k) number here before = absurd (none-some other (sym (before zero (Some other) (omega arith) refl)))
first_fault-at place (None ∷ others) (suc k) number here before = search (rules, first_fault-at (place + 1) others k number here (λ j w below there. before (suc j) w (omega arith) there))

-- ---- whether a place is a destination

pub is_destination-Some : (i : ℤ) (t : Option ℤ) → is_destination i t ≡ true → t ≡ Some i
is_destination-Some i None h = absurd (false≢true h)
is_destination-Some i (Some j) h = ap Some ((Decides-int_eq j i).0 h)

pub destination_there : (i : ℤ) (ts : List (Option ℤ)) → list_any (is_destination i) ts ≡ true → (k : ℕ) × (slice_get ts k ≡ Some (Some i))
destination_there i [] h = absurd (false≢true h)
destination_there i (t ∷ ts) h =
    elim (or_cases (is_destination i t) (list_any (is_destination i) ts) h) [
      | inl p ↦ (0, ap Some (is_destination-Some i t p))
      | inr p ↦ let rest = destination_there i ts p in (suc rest.0, rest.1)
    ]

pub any-from_there : (i : ℤ) (ts : List (Option ℤ)) (k : ℕ) → slice_get ts k ≡ Some (Some i) → list_any (is_destination i) ts ≡ true
any-from_there i ts k here = any_passes_from_place (is_destination i) ts k (Some i) here ((Decides-int_eq i i).1 refl)

-- ---- what is wrong with one place

module _ (m : ℕ) (ts : List (Option ℤ)) where
  wrong-here : (k : ℕ) (t : Option ℤ) → slice_get ts k ≡ Some t → slice_get (wrongs m ts) k ≡ Some (wrong_at m (take k ts) t)
  wrong-here k t here =
      let within = slice_get_within ts k t here in
      cc (slice_get-get_or (wrongs m ts) k None (omega (arith, length-wrongs m ts)), wrong_here m ts k within, get_or_from_slice_get ts k t None here)

  right_by_tests : (inside repeated : Bool) → (if not inside then Some IndexOutOfRange else if repeated then Some IndexRepeated else None) ≡ None → (inside ≡ true) × (repeated ≡ false)
  right_by_tests true false right = (refl, refl)
  right_by_tests true true right = absurd (none-some IndexRepeated (sym right))
  right_by_tests false repeated right = absurd (none-some IndexOutOfRange (sym right))

  -- no place is bad
  pub good-from_no_fault : first_fault 0 (wrongs m ts) ≡ None → IsGoodBefore m ts (length ts)
  good-from_no_fault right =
      let each : (k : ℕ) (i : ℤ) → slice_get ts k ≡ Some (Some i) → (is_place m i ≡ true) × (list_any (is_destination i) (take k ts) ≡ false) =
      λ k i here. right_by_tests (is_place m i) (list_any (is_destination i) (take k ts)) (first_fault-none 0 (wrongs m ts) k _ right (wrong-here k (Some i) here)) in
      record {
        within = λ j i below here. (each j i here).0;
        once = λ h j i before below first second.
            both_ways (list_any (is_destination i) (take j ts)) (each j i second).1 (any-from_there i (take j ts) h (slice_get-take ts j h before ∙ first));
      }

  module _ (k : ℕ) (good : IsGoodBefore m ts k) where
    pub fresh_before : (j : ℕ) (i : ℤ) → j < k → slice_get ts j ≡ Some (Some i) → list_any (is_destination i) (take j ts) ≡ false
    fresh_before j i below here = false_from_ne_true (list_any (is_destination i) (take j ts)) (λ repeated.
        let earlier = destination_there i (take j ts) repeated in
        let place = slice_get_in_front ts j earlier.0 (Some i) earlier.1 in
        good.once earlier.0 j i place.0 below place.1 here)

    right_before : (j : ℕ) (t : Option ℤ) → j < k → slice_get ts j ≡ Some t → wrong_at m (take j ts) t ≡ None
    right_before j None below here = refl
    right_before j (Some i) below here = rw (good.within j i below here, fresh_before j i below here)

    none_wrong : (j : ℕ) (w : Option FaultNo) → j < k → slice_get (wrongs m ts) j ≡ Some w → w ≡ None
    none_wrong j w below there =
        let within = slice_get_within (wrongs m ts) j w there in
        let t = element ts j (omega (arith, length-wrongs m ts)) in
        same_Some w None (sym there ∙ wrong-here j t.0 t.1 ∙ ap Some (right_before j t.0 below t.1))

    fault_here : (t : Option ℤ) (number : FaultNo) → slice_get ts k ≡ Some t → wrong_at m (take k ts) t ≡ Some number → first_fault 0 (wrongs m ts) ≡ Some (fault_at number k)
    fault_here t number here wrong =
        first_fault-at 0 (wrongs m ts) k number (wrong-here k t here ∙ ap Some wrong) none_wrong ∙ ap (λ p. Some (fault_at number p)) (omega arith)

  pub fault-outside : (k : ℕ) (i : ℤ) → IsGoodBefore m ts k → slice_get ts k ≡ Some (Some i) → is_place m i ≡ false → first_fault 0 (wrongs m ts) ≡ Some (fault_at IndexOutOfRange k)
  fault-outside k i good here out = fault_here k good (Some i) IndexOutOfRange here (rw out)

  pub fault-again : (j k : ℕ) (i : ℤ) → IsGoodBefore m ts k → j < k → slice_get ts j ≡ Some (Some i) → slice_get ts k ≡ Some (Some i) → is_place m i ≡ true
      → first_fault 0 (wrongs m ts) ≡ Some (fault_at IndexRepeated k)
  fault-again j k i good below first here inside =
      fault_here k good (Some i) IndexRepeated here (rw (inside, any-from_there i (take k ts) j (slice_get-take ts k j below ∙ first)))

  pub fault-none : IsGoodBefore m ts (length ts) → first_fault 0 (wrongs m ts) ≡ None
  fault-none good = none-first_fault 0 (wrongs m ts) (λ k w here. none_wrong (length ts) good k w (omega (arith, slice_get_within (wrongs m ts) k w here, length-wrongs m ts)) here)
