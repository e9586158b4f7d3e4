-- First senders, told by the list of destinations.
use Rattle.call_laws.proofs.Cited.{rules, nat_tests, ◌≡◌, ◌≢◌, ◌∙◌, ℕ, zero, suc, ◌+◌, ◌<◌, ◌≤◌, ◌++◌, ◌↔◌, cond, true, false, List, [], ◌∷◌, length, map, Bool, refl, sym, ap, arith, ℤ, pos, negsuc}
use Rattle.call_laws.proofs.Cited.{slice_get, Option, Some, None, Ok, none-some, same_Some, values_from, element_at, fault_at, first_fault, all_destinations, is_destination, option_map, le-ltb}
use Rattle.call_laws.proofs.Cited.{lt-ltb, Decides-int_eq, get_or_from_slice_get, slice_get-get_or, slice_get-map, range_with_len, sum_by-cons, count_destinations, get_or, position, count_by}
use Rattle.call_laws.proofs.Cited.{filter, map-append, inl, inr, is_some, leb, ltb, ◌&&◌, position_from, position_from-zero, cases_lt, le-leb, lt-leb, position-Some, FaultNo, IndexOutOfRange}
use Rattle.call_laws.proofs.Cited.{is_between, range_both}
use Rattle.call_laws.specs.Senders.{is_sender}
use Rattle.first_senders.specs.FirstSenders.{first_sender, first_senders, sender_or_none, wrong_in}
use Rattle.call_laws.proofs.FirstBadPlaces.{is_destination-Some}

found : (o : Option ℕ) (k : ℕ) → sender_or_none o ≡ pos k → o ≡ Some k
found (Some j) k e = let same : j ≡ k = cc in ap (λ n. Some n) same
found None k e = absurd (cc)

not_found : (o : Option ℕ) → sender_or_none o ≡ negsuc 0 → o ≡ None
not_found (Some j) e = absurd (cc)
not_found None e = refl

is_hit : (d : ℕ) → is_destination (pos d) (Some (pos d)) ≡ true
is_hit d = (Decides-int_eq (pos d) (pos d)).1 refl

on_none : (b : Bool) (i : ℕ) (rest : Option ℕ) → cond b (Some i) rest ≡ None → (b ≡ false) × (rest ≡ None)
on_none true i rest e = absurd (none-some i (sym e))
on_none false i rest e = (refl, e)

-- where none is found, none passes
none_from : {X : Type 0} (t : X → Bool) (i : ℕ) (xs : List X) → position_from t i xs ≡ None → (j : ℕ) (x : X) → slice_get xs j ≡ Some x → t x ≡ false
none_from t i [] e j x here = absurd (none-some x here)
none_from t i (y ∷ ys) e zero x here = ap t (sym (same_Some y x here)) ∙ (on_none (t y) i (position_from t (i + 1) ys) e).0
none_from t i (y ∷ ys) e (suc j) x here = none_from t (i + 1) ys (on_none (t y) i (position_from t (i + 1) ys) e).1 j x here

module _ (ts : List (Option ℤ)) (d k : ℕ) (is : first_sender ts d ≡ pos k) where
  first : (k < length ts) × (is_destination (pos d) (get_or ts k None) ≡ true) × ((j : ℕ) → j < k → is_destination (pos d) (get_or ts j None) ≡ false)
  first = position-Some (is_destination (pos d)) ts k None (found (position (is_destination (pos d)) ts) k is)

  pub sender-names : slice_get ts k ≡ Some (Some (pos d))
  sender-names = slice_get-get_or ts k None first.0 ∙ ap (λ t. Some t) (is_destination-Some (pos d) (get_or ts k None) first.1)

  pub sender-least : (j : ℕ) → j < k → slice_get ts j ≢ Some (Some (pos d))
  sender-least j lt here = search (rules, first, get_or_from_slice_get, is_hit)

pub sender-none : (ts : List (Option ℤ)) (d j : ℕ) → first_sender ts d ≡ negsuc 0 → slice_get ts j ≢ Some (Some (pos d))
sender-none ts d j is here = search (rules, none_from, position_from-zero, not_found, is_hit)

pub senders-apart : (ts : List (Option ℤ)) (d e k : ℕ) → first_sender ts d ≡ pos k → first_sender ts e ≡ pos k → d ≡ e
senders-apart ts d e k of_d of_e =
    let here : Some (Some (pos d)) ≡ Some (Some (pos e)) = sym (sender-names ts d k of_d) ∙ sender-names ts e k of_e in
    cc

-- ---- one of each

some-in : (o : Option ℤ) (i : ℤ) → option_map (λ (j : ℤ). Some j) o ≡ Some (Some i) → o ≡ Some i
some-in (Some j) i e = let same : j ≡ i = cc in ap (λ n. Some n) same
some-in None i e = absurd (none-some (Some i) e)

module _ (index : List ℤ) where
  abbrev ts : List (Option ℤ)
  ts = all_destinations index

  element-of : (d k : ℕ) → first_sender ts d ≡ pos k → slice_get index k ≡ Some (pos d)
  element-of d k is = some-in (slice_get index k) (pos d) (sym (slice_get-map (λ (i : ℤ). Some i) index k) ∙ sender-names ts d k is)

  one_of : (place : ℕ) (ds : List ℕ) (d : ℕ) (s : ℤ) → first_sender ts d ≡ s
      → ((p : ℕ) → values_from IndexOutOfRange p (map (element_at index) (filter is_sender (map (first_sender ts) ds))) ≡ Ok (map (λ e. pos e) (filter (λ e. is_sender (first_sender ts e)) ds)))
      → values_from IndexOutOfRange place (map (element_at index) (cond (is_sender s) (s ∷ filter is_sender (map (first_sender ts) ds)) (filter is_sender (map (first_sender ts) ds))))
      ≡ Ok (map (λ e. pos e) (cond (is_sender s) (d ∷ filter (λ e. is_sender (first_sender ts e)) ds) (filter (λ e. is_sender (first_sender ts e)) ds)))
  one_of place ds d (pos k) is others = rw (element-of d k is, others (place + 1)) refl
  one_of place ds d (negsuc k) is others = others place

  pub one_of_each : (ds : List ℕ) (place : ℕ)
      → values_from IndexOutOfRange place (map (element_at index) (filter is_sender (map (first_sender ts) ds))) ≡ Ok (map (λ e. pos e) (filter (λ e. is_sender (first_sender ts e)) ds))
  one_of_each [] place = refl
  one_of_each (d ∷ ds) place = one_of place ds d (first_sender ts d) refl (one_of_each ds)

-- ---- ranges

pub senders-ranges : (ts : List (Option ℤ)) (low m n : ℕ) → first_senders ts low (m + n) ≡ first_senders ts low m ++ first_senders ts (low + m) n
senders-ranges ts low m n = ap (map (first_sender ts)) (range_both low m n) ∙ map-append (first_sender ts) (range_with_len low m) (range_with_len (low + m) n)

abbrev one : ℕ → ℕ → Option ℤ → ℕ
one low end t = cond (is_between low end t) 1 0

-- a place is one of a range, of its first part or of its second, or of none
in_parts : (low m n d : ℕ) → cond (leb low d && ltb d (low + (m + n))) 1 0 ≡ cond (leb low d && ltb d (low + m)) 1 0 + cond (leb (low + m) d && ltb d (low + m + n)) 1 0
in_parts low m n d = grind (arith, nat_tests, cases_lt, lt-leb, first, le-leb, lt-ltb, le-ltb)

one-parts : (low m n : ℕ) (t : Option ℤ) → one low (low + (m + n)) t ≡ one low (low + m) t + one (low + m) (low + m + n) t
one-parts low m n None = refl
one-parts low m n (Some (pos d)) = in_parts low m n d
one-parts low m n (Some (negsuc d)) = refl

pub named-parts : (ts : List (Option ℤ)) (low m n : ℕ) → count_by (is_between low (low + (m + n))) ts ≡ count_by (is_between low (low + m)) ts + count_by (is_between (low + m) (low + m + n)) ts
named-parts [] low m n = refl
named-parts (t ∷ ts) low m n =
    omega (arith, sum_by-cons (one low (low + (m + n))) t ts, sum_by-cons (one low (low + m)) t ts, sum_by-cons (one (low + m) (low + m + n)) t ts, one-parts low m n t, named-parts ts low m n)

-- ---- as many are named as take part where none is at fault

abbrev some : Option ℤ → ℕ
some t = cond (is_some t) 1 0

named-le : (m : ℕ) (t : Option ℤ) → one 0 m t ≤ some t
named-le m None = omega arith
named-le m (Some (negsuc d)) = omega arith
named-le m (Some (pos d)) = elim (cases_lt d m) [ inl lt ↦ rw (le-leb 0 d (omega arith), lt-ltb d m lt) (omega arith) | inr ge ↦ rw (le-leb 0 d (omega arith), le-ltb d m ge) (omega arith) ]

all-le : (m : ℕ) (ts : List (Option ℤ)) → count_by (is_between 0 m) ts ≤ count_destinations ts
all-le m [] = omega arith
all-le m (t ∷ ts) = omega (arith, sum_by-cons (one 0 m) t ts, sum_by-cons some t ts, named-le m t, all-le m ts)

right-one : (m : ℕ) (t : Option ℤ) → one 0 m t ≡ some t → wrong_in m t ≡ None
right-one m None same = refl
right-one m (Some (negsuc d)) same = absurd (omega arith)
right-one m (Some (pos d)) same = grind (arith, nat_tests, cases_lt, lt-ltb, le-leb, le-ltb)

counted-one : (m : ℕ) (t : Option ℤ) → wrong_in m t ≡ None → one 0 m t ≡ some t
counted-one m None right = refl
counted-one m (Some (negsuc d)) right = absurd (none-some IndexOutOfRange (sym right))
counted-one m (Some (pos d)) right = grind (arith, nat_tests, cases_lt, le-leb, lt-ltb, none-some, le-ltb)

parted : (place : ℕ) (w : Option FaultNo) (ws : List (Option FaultNo)) → first_fault place (w ∷ ws) ≡ None → (w ≡ None) × (first_fault (place + 1) ws ≡ None)
parted place None ws right = (refl, right)
parted place (Some number) ws right = absurd (none-some (fault_at number place) (sym right))

pub named-all : (m place : ℕ) (ts : List (Option ℤ)) → (count_by (is_between 0 m) ts ≡ count_destinations ts) ↔ (first_fault place (map (wrong_in m) ts) ≡ None)
named-all m place [] = (λ same. refl, λ right. refl)
named-all m place (t ∷ ts) =
    let named = sum_by-cons (one 0 m) t ts in
    let part = sum_by-cons some t ts in
    let others = named-all m (place + 1) ts in (
      λ same.
          let here : one 0 m t ≡ some t = omega (arith, named, part, same, named-le m t, all-le m ts) in
          let rest : count_by (is_between 0 m) ts ≡ count_destinations ts = omega (arith, named, part, same, here) in
          ap (λ w. first_fault place (w ∷ map (wrong_in m) ts)) (right-one m t here) ∙ others.0 rest,
      λ right.
          let both = parted place (wrong_in m t) (map (wrong_in m) ts) right in
          omega (arith, named, part, counted-one m t both.0, others.1 both.1),
    )
