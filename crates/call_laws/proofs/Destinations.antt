-- The destinations of a permute where no place is bad: no two are the same, and each place of a result that has as many is one.
use Rattle.call_laws.proofs.Cited.{nat_tests, ◌≡◌, ◌<◌, ◌≤◌, ◌∷◌, ◌∙◌, ℕ, suc, true, false, List, [], length, refl, sym, ap, arith, inl, inr, ℤ, pos, negsuc, slice_get, Some, None, Option, list_any}
use Rattle.call_laws.proofs.Cited.{false≢true, false_from_ne_true, ltb-true, or_cases, or_parts, Decides-int_eq, sum_by-cons, slice_get_within, is_place, is_destination, count_destinations, ◌||◌}
use Rattle.call_laws.proofs.Cited.{eqb, AllByRecursion, int_eq, cases_order, eqb-true, true_from_ne_false, same_from_decides, Decides-eqb, Decides-like, IsDistinct-cons, takes_part, IsGoodBefore}
use Rattle.std.specs.List.{IsDistinct}
use Rattle.std.proofs.lemmas.Map.Steps.{length-le_from_distinct_below}
use Rattle.call_laws.proofs.FirstBadPlaces.{destination_there}

abbrev pub IsRight : ℕ → List (Option ℤ) → Type 0
IsRight m ts = IsGoodBefore m ts (length ts)

pub inside : (m : ℕ) (ts : List (Option ℤ)) → IsRight m ts → (k : ℕ) (i : ℤ) → slice_get ts k ≡ Some (Some i) → is_place m i ≡ true
inside m ts right k i here = right.within k i (slice_get_within ts k (Some i) here) here

pub once-from_right : (m : ℕ) (ts : List (Option ℤ)) → IsRight m ts → (j k : ℕ) (i : ℤ) → slice_get ts j ≡ Some (Some i) → slice_get ts k ≡ Some (Some i) → j ≡ k
once-from_right m ts right j k i first second = grind (arith, nat_tests, cases_order, slice_get_within)

pub right-from_once : (m : ℕ) (ts : List (Option ℤ)) → ((k : ℕ) (i : ℤ) → slice_get ts k ≡ Some (Some i) → is_place m i ≡ true)
    → ((j k : ℕ) (i : ℤ) → slice_get ts j ≡ Some (Some i) → slice_get ts k ≡ Some (Some i) → j ≡ k) → IsRight m ts
right-from_once m ts within once = record {
  within = λ j i below here. within j i here;
  once = λ h j i before below first second. let same : h ≡ j = once h j i first second in omega arith;
}

tail-IsRight : (m : ℕ) (t : Option ℤ) (ts : List (Option ℤ)) → IsRight m (t ∷ ts) → IsRight m ts
tail-IsRight m t ts right = record {
  within = λ j i below here. right.within (suc j) i (omega arith) here;
  once = λ h j i before below first second. right.once (suc h) (suc j) i (omega arith) (omega arith) first second;
}

-- ---- where as many places take part as the result has, each place of the result is a destination

-- the destinations, as numbers
abbrev named : List (Option ℤ) → List ℕ
named [] = []
named (None ∷ ts) = named ts
named (Some (pos d) ∷ ts) = d ∷ named ts
named (Some (negsuc d) ∷ ts) = named ts

length-named : (m : ℕ) (ts : List (Option ℤ)) → IsRight m ts → length (named ts) ≡ count_destinations ts
length-named m [] right = refl
length-named m (None ∷ ts) right = omega (arith, sum_by-cons takes_part None ts, length-named m ts (tail-IsRight m None ts right))
length-named m (Some (pos d) ∷ ts) right = omega (arith, sum_by-cons takes_part (Some (pos d)) ts, length-named m ts (tail-IsRight m (Some (pos d)) ts right))
length-named m (Some (negsuc d) ∷ ts) right = absurd (false≢true (right.within 0 (negsuc d) (omega arith) refl))

eqb-int_eq : (d e : ℕ) → eqb d e ≡ int_eq (pos e) (pos d)
eqb-int_eq d e = same_from_decides (eqb d e) (int_eq (pos e) (pos d)) (Decides-like (eqb d e) (λ same. ap pos (sym same)) (λ same. let h : e ≡ d = cc in sym h) (Decides-eqb d e))
    (Decides-int_eq (pos e) (pos d))

any-named : (d : ℕ) (ts : List (Option ℤ)) → list_any (eqb d) (named ts) ≡ list_any (is_destination (pos d)) ts
any-named d [] = refl
any-named d (None ∷ ts) = any-named d ts
any-named d (Some (pos e) ∷ ts) = λ i. eqb-int_eq d e i || any-named d ts i
any-named d (Some (negsuc e) ∷ ts) = any-named d ts

none_equal : (d : ℕ) (ns : List ℕ) → list_any (eqb d) ns ≡ false → AllByRecursion (λ n. eqb d n ≡ false) ns
none_equal d [] h = tt
none_equal d (n ∷ ns) h = let parts = or_parts (eqb d n) (list_any (eqb d) ns) h in (parts.0, none_equal d ns parts.1)

none_later : (m : ℕ) (i : ℤ) (ts : List (Option ℤ)) → IsRight m (Some i ∷ ts) → list_any (is_destination i) ts ≡ false
none_later m i ts right =
    false_from_ne_true (list_any (is_destination i) ts) (λ later.
    let place = destination_there i ts later in
    let within = slice_get_within ts place.0 (Some i) place.1 in
    right.once 0 (suc place.0) i (omega arith) (omega arith) refl place.1)

distinct : (m : ℕ) (ts : List (Option ℤ)) → IsRight m ts → IsDistinct eqb (named ts)
unfolding IsDistinct
distinct m [] right = tt
distinct m (None ∷ ts) right = distinct m ts (tail-IsRight m None ts right)
distinct m (Some (pos d) ∷ ts) right = (none_equal d (named ts) (any-named d ts ∙ none_later m (pos d) ts right), distinct m ts (tail-IsRight m (Some (pos d)) ts right))
distinct m (Some (negsuc d) ∷ ts) right = distinct m ts (tail-IsRight m (Some (negsuc d)) ts right)

below : (m : ℕ) (ts : List (Option ℤ)) → IsRight m ts → (q : ℕ) → list_any (eqb q) (named ts) ≡ true → q < m
below m ts right q h =
    let place = destination_there (pos q) ts (sym (any-named q ts) ∙ h) in
    ltb-true q m (inside m ts right place.0 (pos q) place.1)

pub each_is_destination : (m : ℕ) (ts : List (Option ℤ)) → IsRight m ts → count_destinations ts ≡ m → (d : ℕ) → d < m → (k : ℕ) × (slice_get ts k ≡ Some (Some (pos d)))
each_is_destination m ts right enough d within = destination_there (pos d) ts (true_from_ne_false (list_any (is_destination (pos d)) ts) (λ missing.
    let fewer : length (d ∷ named ts) ≤ m = length-le_from_distinct_below (d ∷ named ts) m
    (IsDistinct-cons eqb d (named ts) (none_equal d (named ts) (any-named d ts ∙ missing)) (distinct m ts right))
    (λ q h. elim (or_cases (eqb q d) (list_any (eqb q) (named ts)) h) [
      | inl same ↦ let e : q ≡ d = eqb-true q d same in omega arith
      | inr there ↦ below m ts right q there
    ]) in
    omega (arith, length-named m ts right)))
