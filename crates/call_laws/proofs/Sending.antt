-- What a permute gives where no place is bad.
use Rattle.call_laws.proofs.Cited.{rules, nat_tests, ◌≡◌, ◌+◌, ◌<◌, ◌≤◌, ◌∷◌, ◌∙◌, ◌↔◌, ℕ, zero, suc, false, List, [], length, map, take, refl, sym, ap, subst, arith, inl, inr, ℤ, pos, slice_get}
use Rattle.call_laws.proofs.Cited.{option_map, Some, None, Ok, Option, Result, unwrap_or, enumerate_from, list_any, range_with_len, none-some, same_Some, slice_get-map, slice_get_within, both_ways}
use Rattle.call_laws.proofs.Cited.{false_from_ne_true, ltb-true, or_parts, eqb_tells, Decides-int_eq, length-map, if_as_long, unless, all_destinations, default_of, first_fault, is_destination}
use Rattle.call_laws.proofs.Cited.{sent_over, sent_to, sent_to_all, simple_of, wrongs, if_as_long-fits, element, length-all_destinations, count_destinations, all_take_part, filter_map, cases_Bool}
use Rattle.call_laws.proofs.Cited.{option_map_id, length-enumerate_from, Fault, AreOnce, AreWithin, IsDefaultPermute, IsGoodBefore, IsSimplePermute}
use Rattle.call_laws.proofs.Places.{same_elements}
use Rattle.call_laws.proofs.Destinations.{IsRight, each_is_destination, inside, once-from_right, right-from_once}
use Rattle.call_laws.proofs.FirstBadPlaces.{any-from_there, destination_there, fault-none, fresh_before, good-from_no_fault}

-- ---- chains of checks

pub unless-Ok : {Y : Type 0} (o : Option Fault) (rest : Result Y Fault) (y : Y) → unless o rest ≡ Ok y → (o ≡ None) × (rest ≡ Ok y)
unless-Ok None rest y p = (refl, p)
unless-Ok (Some f) rest y p = cc

pub if_as_long-Ok : {A B Z : Type 0} (xs : List A) (ys : List B) (rest : Result Z Fault) (z : Z) → if_as_long xs ys rest ≡ Ok z → (length xs ≡ length ys) × (rest ≡ Ok z)
if_as_long-Ok xs ys rest z p = grind (arith, nat_tests, eqb_tells)

-- ---- what is sent to one place

-- the element beside the first place with the destination d
sent_to-first : {X : Type 0} (source : List X) (ts : List (Option ℤ)) (k d : ℕ) (x : X) → slice_get ts k ≡ Some (Some (pos d)) → slice_get source k ≡ Some x
    → list_any (is_destination (pos d)) (take k ts) ≡ false → sent_to source ts d ≡ Some x
sent_to-first source [] k d x destination element fresh = absurd (none-some (Some (pos d)) destination)
sent_to-first [] (t ∷ ts) k d x destination element fresh = absurd (none-some x element)
sent_to-first (y ∷ source) (t ∷ ts) zero d x destination element fresh = search (rules, same_Some, Decides-int_eq, element)
sent_to-first (y ∷ source) (t ∷ ts) (suc k) d x destination element fresh =
    let parts = or_parts (is_destination (pos d) t) (list_any (is_destination (pos d)) (take k ts)) fresh in
    rw parts.0 (sent_to-first source ts k d x destination element parts.1)

-- what is sent to a destination is the source's element there
sent_to-destination : {X : Type 0} (m : ℕ) (source : List X) (ts : List (Option ℤ)) (k d : ℕ) → IsRight m ts → length ts ≤ length source → slice_get ts k ≡ Some (Some (pos d))
    → sent_to source ts d ≡ slice_get source k
sent_to-destination m source ts k d right long destination =
    let within : k < length ts = slice_get_within ts k (Some (pos d)) destination in
    let here = element source k (omega arith) in
    sent_to-first source ts k d here.0 destination here.1 (fresh_before m ts (length ts) right k (pos d) within destination) ∙ sym here.1

nothing_sent : {X : Type 0} (source : List X) (ts : List (Option ℤ)) (d : ℕ) → list_any (is_destination (pos d)) ts ≡ false → sent_to source ts d ≡ None
nothing_sent source [] d none = refl
nothing_sent [] (t ∷ ts) d none = refl
nothing_sent (y ∷ source) (t ∷ ts) d none =
    let parts = or_parts (is_destination (pos d) t) (list_any (is_destination (pos d)) ts) none in
    rw parts.0 (nothing_sent source ts d parts.1)

-- ---- what is sent over defaults

-- what each place of the result is, told by the destinations
pub record IsSent {X : Type 0} (m : ℕ) (source : List X) (ts : List (Option ℤ)) (defaults result : List X) : Type 0 where
  pub as_long : length result ≡ m
  pub right : IsRight m ts
  pub sent : (k d : ℕ) → slice_get ts k ≡ Some (Some (pos d)) → slice_get result d ≡ slice_get source k
  pub kept : (d : ℕ) → list_any (is_destination (pos d)) ts ≡ false → slice_get result d ≡ slice_get defaults d

-- a list with some of its values put in by their places
abbrev laid_over : {X : Type 0} → (ℕ → Option X) → ℕ → List X → List X
laid_over values n defaults = map (λ p. unwrap_or (values p.0) p.1) (enumerate_from n defaults)

at-laid_over : {X : Type 0} (values : ℕ → Option X) (n : ℕ) (defaults : List X) (d k : ℕ) → n + d ≡ k → slice_get (laid_over values n defaults) d
    ≡ option_map (λ x. unwrap_or (values k) x) (slice_get defaults d)
at-laid_over values n [] d k at = refl
at-laid_over values n (x ∷ defaults) zero k at = ap (λ j. Some (unwrap_or (values j) x)) (omega arith)
at-laid_over values n (x ∷ defaults) (suc d) k at = at-laid_over values (n + 1) defaults d k (omega arith)

over_sent : {X : Type 0} (source : List X) (ts : List (Option ℤ)) (defaults : List X) → IsRight (length defaults) ts → length ts ≤ length source
    → IsSent (length defaults) source ts defaults (laid_over (sent_to source ts) 0 defaults)
over_sent source ts defaults right long = record {
  as_long = length-map (enumerate_from 0 defaults) (λ p. unwrap_or (sent_to source ts p.0) p.1) ∙ length-enumerate_from 0 defaults;
  right = right;
  sent = λ k d destination.
      let here : k < length ts = slice_get_within ts k (Some (pos d)) destination in
      let there = element source k (omega arith) in
      let before = element defaults d (ltb-true d (length defaults) (inside (length defaults) ts right k (pos d) destination)) in
      at-laid_over (sent_to source ts) 0 defaults d d (omega arith) ∙ rw (sent_to-destination (length defaults) source ts k d right long destination, there.1, before.1);
  kept = λ d none. at-laid_over (sent_to source ts) 0 defaults d d (omega arith) ∙ rw (nothing_sent source ts d none) (option_map_id (slice_get defaults d));
}

-- there is but one such list
only_sent : {X : Type 0} (m : ℕ) (source : List X) (ts : List (Option ℤ)) (defaults xs ys : List X) → IsSent m source ts defaults xs → IsSent m source ts defaults ys → xs ≡ ys
only_sent m source ts defaults xs ys p q =
    same_elements xs ys (p.as_long ∙ sym q.as_long) (λ d within.
    elim (cases_Bool (list_any (is_destination (pos d)) ts)) [
      | inl some ↦ let sender = destination_there (pos d) ts some in p.sent sender.0 d sender.1 ∙ sym (q.sent sender.0 d sender.1)
      | inr none ↦ p.kept d none ∙ sym (q.kept d none)
    ])

pub sent_over-meaning : {X : Type 0} (source : List X) (ts : List (Option ℤ)) (defaults result : List X) → length ts ≤ length source
    → (sent_over source ts defaults ≡ Ok result) ↔ IsSent (length defaults) source ts defaults result
sent_over-meaning source ts defaults result long =
    let m = length defaults in
    let over = laid_over (sent_to source ts) 0 defaults in (
      λ p.
          let parts = unless-Ok (first_fault 0 (wrongs m ts)) (Ok over) result p in
          let same : over ≡ result = let e = parts.1 in cc in
          subst (IsSent m source ts defaults) same (over_sent source ts defaults (good-from_no_fault m ts parts.0) long),
      λ is. rw (fault-none m ts is.right) (ap Ok (only_sent m source ts defaults over result (over_sent source ts defaults is.right long) is)),
    )

-- ---- where all places are sent something, the defaults don't matter

module _ {X : Type 0} (values : ℕ → Option X) where
  length-all : (a n : ℕ) → ((d : ℕ) → a ≤ d → d < a + n → (x : X) × (values d ≡ Some x)) → length (filter_map values (range_with_len a n)) ≡ n
  length-all a zero each = refl
  length-all a (suc n) each = rw ((each a (omega arith) (omega arith)).1) (ap suc (length-all (a + 1) n (λ d low high. each d (omega arith) (omega arith))))

  all-over : (a : ℕ) (defaults : List X) → ((d : ℕ) → a ≤ d → d < a + length defaults → (x : X) × (values d ≡ Some x))
      → filter_map values (range_with_len a (length defaults)) ≡ laid_over values a defaults
  all-over a [] each = refl
  all-over a (x ∷ defaults) each =
      let first = each a (omega arith) (omega arith) in
      rw first.1 (ap (λ ys. first.0 ∷ ys) (all-over (a + 1) defaults (λ d low high. each d (omega arith) (omega arith))))

module _ {X : Type 0} (m : ℕ) (source : List X) (ts : List (Option ℤ)) (long : length ts ≤ length source) (as_many : count_destinations ts ≡ m) where
  each_there : first_fault 0 (wrongs m ts) ≡ None → (d : ℕ) → d < m → (x : X) × (sent_to source ts d ≡ Some x)
  each_there none d within =
      let right = good-from_no_fault m ts none in
      let sender = each_is_destination m ts right as_many d within in
      let here : sender.0 < length ts = slice_get_within ts sender.0 (Some (pos d)) sender.1 in
      let sent = element source sender.0 (omega arith) in
      (sent.0, sent_to-destination m source ts sender.0 d right long sender.1 ∙ sent.1)

  pub all-is_over : (room : List X) → length room ≡ m → sent_to_all source ts m ≡ sent_over source ts room
  all-is_over room as_long = search (rules, all-over, each_there)

  pub sent_to_all-meaning : (result : List X) → (sent_to_all source ts m ≡ Ok result) ↔ IsSent m source ts result result
  sent_to_all-meaning result = (
    λ p.
        let parts = unless-Ok (first_fault 0 (wrongs m ts)) (Ok (filter_map (sent_to source ts) (range_with_len 0 m))) result p in
        let same : filter_map (sent_to source ts) (range_with_len 0 m) ≡ result = let e = parts.1 in cc in
        let as_long : length result ≡ m = sym (ap length same) ∙ length-all (sent_to source ts) 0 m (λ d low high. each_there parts.0 d (omega arith)) in
        subst (λ n. IsSent n source ts result result) as_long ((sent_over-meaning source ts result result long).0 (sym (all-is_over result as_long) ∙ p)),
    λ is. all-is_over result is.as_long ∙ (sent_over-meaning source ts result result long).1 (subst (λ n. IsSent n source ts result result) (sym is.as_long) is),
  )

-- ---- the simple and the default permute

pub destination-here : (index : List ℤ) (k : ℕ) (i : ℤ) → slice_get index k ≡ Some i → slice_get (all_destinations index) k ≡ Some (Some i)
destination-here index k i here = slice_get-map (λ (i : ℤ). Some i) index k ∙ ap (option_map (λ (i : ℤ). Some i)) here

pub index-here : (index : List ℤ) (k : ℕ) (i : ℤ) → slice_get (all_destinations index) k ≡ Some (Some i) → slice_get index k ≡ Some i
index-here [] k i here = absurd (none-some (Some i) here)
index-here (j ∷ index) zero i here = same_Some (Some j) (Some i) here
index-here (j ∷ index) (suc k) i here = index-here index k i here

pub all_good : (m : ℕ) (index : List ℤ) (k : ℕ) → AreWithin m index k → AreOnce index k → IsGoodBefore m (all_destinations index) k
all_good m index k within once = record {
  within = λ j i below here. within j i below (index-here index j i here);
  once = λ h j i before below first second. once h j i before below (index-here index h i first) (index-here index j i second);
}

simple-from_sent : {X : Type 0} (source : List X) (index : List ℤ) (result : List X) → length source ≡ length index → IsSent (length index) source (all_destinations index) result result
    → IsSimplePermute source index result
simple-from_sent source index result long is = record {
  one_index_each = long;
  as_long = is.as_long;
  within = λ k i here. inside (length index) (all_destinations index) is.right k i (destination-here index k i here);
  once = λ j k i first second. once-from_right (length index) (all_destinations index) is.right j k i (destination-here index j i first) (destination-here index k i second);
  sent = λ k d here. is.sent k d (destination-here index k (pos d) here);
}

pub sent-from_simple : {X : Type 0} (source : List X) (index : List ℤ) (result : List X) → IsSimplePermute source index result → IsSent (length index) source (all_destinations index) result result
sent-from_simple source index result is = record {
  as_long = is.as_long;
  right = right-from_once (length index) (all_destinations index) (λ k i here. is.within k i (index-here index k i here))
      (λ j k i first second. is.once j k i (index-here index j i first) (index-here index k i second));
  sent = λ k d here. is.sent k d (index-here index k (pos d) here);
  kept = λ d none. refl;
}

pub simple-meaning : {X : Type 0} (source : List X) (index : List ℤ) (result : List X) → (simple_of source index ≡ Ok result) ↔ IsSimplePermute source index result
simple-meaning source index result =
    let meaning = λ (same : length source ≡ length index).
    sent_to_all-meaning (length index) source (all_destinations index) (omega (arith, same, length-all_destinations index)) (all_take_part index) result in (
      λ p.
          let parts = if_as_long-Ok source index (sent_to_all source (all_destinations index) (length index)) result p in
          simple-from_sent source index result parts.0 ((meaning parts.0).0 parts.1),
      λ is. rw (if_as_long-fits source index _ is.one_index_each) ((meaning is.one_index_each).1 (sent-from_simple source index result is)),
    )

default-from_sent : {X : Type 0} (source : List X) (index : List ℤ) (defaults result : List X) → length source ≡ length index
    → IsSent (length defaults) source (all_destinations index) defaults result → IsDefaultPermute source index defaults result
default-from_sent source index defaults result long is = record {
  one_index_each = long;
  as_long = is.as_long;
  within = λ k i here. inside (length defaults) (all_destinations index) is.right k i (destination-here index k i here);
  once = λ j k i first second. once-from_right (length defaults) (all_destinations index) is.right j k i (destination-here index j i first) (destination-here index k i second);
  sent = λ k d here. is.sent k d (destination-here index k (pos d) here);
  kept = λ d none. is.kept d (false_from_ne_true (list_any (is_destination (pos d)) (all_destinations index)) (λ some.
      let sender = destination_there (pos d) (all_destinations index) some in
      none sender.0 (index-here index sender.0 (pos d) sender.1)));
}

sent-from_default : {X : Type 0} (source : List X) (index : List ℤ) (defaults result : List X) → IsDefaultPermute source index defaults result
    → IsSent (length defaults) source (all_destinations index) defaults result
sent-from_default source index defaults result is = record {
  as_long = is.as_long;
  right = right-from_once (length defaults) (all_destinations index) (λ k i here. is.within k i (index-here index k i here))
      (λ j k i first second. is.once j k i (index-here index j i first) (index-here index k i second));
  sent = λ k d here. is.sent k d (index-here index k (pos d) here);
  kept = λ d none. is.kept d (λ k here.
      both_ways (list_any (is_destination (pos d)) (all_destinations index)) none (any-from_there (pos d) (all_destinations index) k (destination-here index k (pos d) here)));
}

pub default-meaning : {X : Type 0} (source : List X) (index : List ℤ) (defaults result : List X) → (default_of source index defaults ≡ Ok result) ↔ IsDefaultPermute source index defaults result
default-meaning source index defaults result =
    let meaning = λ (same : length source ≡ length index). sent_over-meaning source (all_destinations index) defaults result (omega (arith, same, length-all_destinations index)) in (
      λ p.
          let parts = if_as_long-Ok source index (sent_over source (all_destinations index) defaults) result p in
          default-from_sent source index defaults result parts.0 ((meaning parts.0).0 parts.1),
      λ is. rw (if_as_long-fits source index _ is.one_index_each) ((meaning is.one_index_each).1 (sent-from_default source index defaults result is)),
    )
