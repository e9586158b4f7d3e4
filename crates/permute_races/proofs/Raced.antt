-- What the boards of a permute are shown, and what follows of what they tell.
use Rattle.std.proofs.Common.{◌≡◌, ◌∙◌, ℕ, zero, suc, ◌+◌, ◌-◌, ◌<◌, ◌≤◌, Bool, true, false, not, ◌||◌, if◌then◌else◌, List, [], ◌∷◌, length, map, take, get_or, min, refl, sym, ap, arith, inl, inr}
use Rattle.std.proofs.Common.{eqb, eq-eqb, ltb}
use Rattle.std.proofs.Common.{ℤ, pos, negsuc, option_map, unwrap_or, Option, Some, None, Ok, unsigned_abs}
use Rattle.std.specs.List.{list_any, enumerate_from}
use Rattle.std.proofs.lemmas.Bool.{lt-ltb, ltb-true}
use Rattle.std.proofs.lemmas.Bool.Decides.{eqb_tells, Decides-int_eq}
use Rattle.std.proofs.lemmas.List.{ext_get_or, get_or-map, get_or-take, length-map, length-take, take_all}
use Rattle.std.proofs.lemmas.List.FromFn.{length-map-range_with_len, get_or-map-range_with_len, length-enumerate_from, get_or-enumerate_from}
use Rattle.std.proofs.lemmas.Option.{none-some}
use Rattle.boards.specs.Slots.{is_slot, least_from, leasts_of}
use Rattle.cvl_base.specs.declared.fault.Fault.{Fault}
use Rattle.cvl_base.specs.declared.fault.FaultNo.{FaultNo}
use Rattle.cvl_base.specs.declared.fault.FaultNo.TheVariants.{IndexOutOfRange, IndexRepeated}
use Rattle.cvl_base.specs.Faults.{fault_at}
use Rattle.cvl_base.specs.Gives.{unless}
use Rattle.cvl_base.specs.Limits.{most_elements}
use Rattle.cvl_base.specs.Permutes.{destination_if, first_fault, is_place, is_destination, place_among, wrong_at, wrongs}
use Rattle.permute_walks.specs.Senders.{nobody, sender_from, senders_of}
use Rattle.permute_walks.proofs.Sent.{length-senders_of, length-wrongs, other_place, sender_at, wrong_here}
use Rattle.permute_races.specs.Races.{bad_slots, slot_of, slots_of, wrong_beside, wrongs_beside}

-- ---- what a board has room for

module _ {X Y : Type 0} (f : X → Y) (xs : List X) where
  pub long-shown : length (take most_elements (map f xs)) ≡ min (length xs) most_elements
  long-shown = omega (arith, length-take most_elements (map f xs), length-map xs f)

  pub shown-at : (k : ℕ) (d : X) (e : Y) → k < length (take most_elements (map f xs))
      → (k < length xs) × (get_or (take most_elements (map f xs)) k e ≡ f (get_or xs k d))
  shown-at k d e lt =
      let below : k < length xs = omega (arith, lt, long-shown) in
      (below, get_or-take most_elements (map f xs) k e (omega (arith, lt, long-shown)) ∙ get_or-map f xs k d e below)

  pub shown-all : length xs ≤ most_elements → take most_elements (map f xs) ≡ map f xs
  shown-all few = take_all most_elements (map f xs) (omega (arith, few, length-map xs f))

-- the slot of a place that has this destination
pub slot_read : (m : ℕ) (ts : List (Option ℤ)) (k : ℕ) → k < length (slots_of m ts) → {t : Option ℤ} → get_or ts k None ≡ t → get_or (slots_of m ts) k None ≡ slot_of m t
slot_read m ts k lt is = (shown-at (slot_of m) ts k None None lt).1 ∙ ap (slot_of m) is

-- ---- the least place of each slot is its sender

no_slot : (d a : ℕ) (b : Bool) → eqb a d ≡ false → is_slot d (if b then Some a else None) ≡ false
no_slot d a true other = other
no_slot d a false other = refl

same_slot : (m d : ℕ) (t : Option ℤ) → d < m → is_slot d (slot_of m t) ≡ is_destination (pos d) t
same_slot m d None lt = refl
same_slot m d (Some (negsuc a)) lt = refl
same_slot m d (Some (pos a)) lt =
    elim (eqb_tells a d) [
      | inl same ↦
          ap (λ b. is_slot d (if b then Some a else None)) (lt-ltb a m (omega (arith, lt, same.1)))
          ∙ same.0
          ∙ sym ((Decides-int_eq (pos a) (pos d)).1 (ap (λ n. pos n) same.1))
      | inr other ↦
          no_slot d a (ltb a m) other.0
          ∙ sym (other_place a d other.1)
    ]

first_or : (b : Bool) (place : ℕ) (others : Option ℕ) (r : ℕ) → unwrap_or others nobody ≡ r → unwrap_or (if b then Some place else others) nobody ≡ (if b then place else r)
first_or true place others r same = refl
first_or false place others r same = same

sender_least : (place : ℕ) (ts : List (Option ℤ)) (m d : ℕ) → d < m → unwrap_or (least_from place (map (slot_of m) ts) d) nobody ≡ sender_from place ts d
sender_least place [] m d lt = refl
sender_least place (t ∷ ts) m d lt =
    ap (λ b. unwrap_or (if b then Some place else least_from (place + 1) (map (slot_of m) ts) d) nobody) (same_slot m d t lt)
    ∙ first_or (is_destination (pos d) t) place (least_from (place + 1) (map (slot_of m) ts) d) (sender_from (place + 1) ts d) (sender_least (place + 1) ts m d lt)

pub senders_are : (ts : List (Option ℤ)) (m : ℕ) (leasts : List (Option ℕ)) → length ts ≤ most_elements → leasts ≡ leasts_of (slots_of m ts) m
    → map (λ least. unwrap_or least nobody) leasts ≡ senders_of 0 ts m
senders_are ts m leasts few are =
    let told = λ (least : Option ℕ). unwrap_or least nobody in
    let all : leasts ≡ leasts_of (map (slot_of m) ts) m = are ∙ ap (λ ss. leasts_of ss m) (shown-all (slot_of m) ts few) in
    let long : length leasts ≡ m = ap length all ∙ length-map-range_with_len (least_from 0 (map (slot_of m) ts)) 0 m in
    ext_get_or 0 (map told leasts) (senders_of 0 ts m) (length-map leasts told ∙ long ∙ sym (length-senders_of 0 ts m)) (λ d lt.
    let below : d < m = omega (arith, lt, length-map leasts told, long) in
    get_or-map told leasts d None 0 (omega (arith, below, long))
    ∙ ap (λ ls. told (get_or ls d None)) all
    ∙ ap told (get_or-map-range_with_len (least_from 0 (map (slot_of m) ts)) 0 m d d None below (omega arith))
    ∙ sender_least 0 ts m d below
    ∙ sym (sender_at 0 ts m d below))

-- ---- a place is bad where it isn't the sender of its index

later_if : (b : Bool) (place other : ℕ) (any : Bool) (k : ℕ) → eqb other (place + 1 + k) ≡ not any → eqb (if b then place else other) (place + suc k) ≡ not (b || any)
later_if true place other any k rest = elim (eqb_tells place (place + suc k)) [ inl e ↦ absurd (omega (arith, e.1)) | inr ne ↦ ne.0 ]
later_if false place other any k rest = let same : place + suc k ≡ place + 1 + k = omega arith in ap (λ n. eqb other n) same ∙ rest

is_first : (place : ℕ) (ts : List (Option ℤ)) (k d : ℕ) → k < length ts → get_or ts k None ≡ Some (pos d)
    → eqb (sender_from place ts d) (place + k) ≡ not (list_any (is_destination (pos d)) (take k ts))
is_first place [] k d lt is = absurd (omega arith)
is_first place (t ∷ ts) zero d lt is =
    ap (λ b. eqb (if b then place else sender_from (place + 1) ts d) (place + 0)) (ap (is_destination (pos d)) is ∙ (Decides-int_eq (pos d) (pos d)).1 refl)
    ∙ eq-eqb place (place + 0) (omega arith)
is_first place (t ∷ ts) (suc k) d lt is =
    later_if (is_destination (pos d) t) place (sender_from (place + 1) ts d) (list_any (is_destination (pos d)) (take k ts)) k (is_first (place + 1) ts k d (omega arith) is)

turned : (any : Bool) → (if not any then None else Some IndexRepeated) ≡ (if any then Some IndexRepeated else None)
turned true = refl
turned false = refl

by_tests : (inside any is : Bool) → (inside ≡ true → is ≡ not any)
    → (if not inside then Some IndexOutOfRange else if is then None else Some IndexRepeated) ≡ (if not inside then Some IndexOutOfRange else if any then Some IndexRepeated else None)
by_tests true any is same = ap (λ b. if b then None else Some IndexRepeated) (same refl) ∙ turned any
by_tests false any is same = refl

wrong_same : (m : ℕ) (ts : List (Option ℤ)) (senders : List ℕ) (k : ℕ) (t : Option ℤ) → senders ≡ senders_of 0 ts m → k < length ts → get_or ts k None ≡ t
    → wrong_beside senders k t ≡ wrong_at m (take k ts) t
wrong_same m ts senders k None are lt is = refl
wrong_same m ts senders k (Some (negsuc a)) are lt is = refl
wrong_same m ts senders k (Some (pos d)) are lt is =
    let long : length senders ≡ m = ap length are ∙ length-senders_of 0 ts m in
    ap (λ n. if not (ltb d n) then Some IndexOutOfRange else if eqb (get_or senders d 0) k then None else Some IndexRepeated) long
    ∙ by_tests (ltb d m) (list_any (is_destination (pos d)) (take k ts)) (eqb (get_or senders d 0) k) (λ inside.
    let from_0 : k ≡ 0 + k = omega arith in
    ap (λ ss. eqb (get_or ss d 0) k) are
    ∙ ap (λ s. eqb s k) (sender_at 0 ts m d (ltb-true d m inside))
    ∙ ap (λ n. eqb (sender_from 0 ts d) n) from_0
    ∙ is_first 0 ts k d lt is)

pub length-beside : (senders : List ℕ) (ts : List (Option ℤ)) → length (wrongs_beside senders ts) ≡ length ts
length-beside senders ts =
    length-map (enumerate_from 0 ts) (λ (p : ℕ × Option ℤ). wrong_beside senders p.0 p.1) ∙ length-enumerate_from 0 ts

pub beside-at : (senders : List ℕ) (ts : List (Option ℤ)) (k : ℕ) → k < length ts → get_or (wrongs_beside senders ts) k None ≡ wrong_beside senders k (get_or ts k None)
beside-at senders ts k lt =
    get_or-map (λ (p : ℕ × Option ℤ). wrong_beside senders p.0 p.1) (enumerate_from 0 ts) k (0, None) None (omega (arith, lt, length-enumerate_from 0 ts))
    ∙ ap (λ (p : ℕ × Option ℤ). wrong_beside senders p.0 p.1) (get_or-enumerate_from 0 ts k (0, None) lt)
    ∙ (let from_0 : 0 + k ≡ k = omega arith in ap (λ n. wrong_beside senders n (get_or ts k None)) from_0)

pub wrongs_same : (m : ℕ) (ts : List (Option ℤ)) (senders : List ℕ) → senders ≡ senders_of 0 ts m → wrongs_beside senders ts ≡ wrongs m ts
wrongs_same m ts senders are =
    ext_get_or None (wrongs_beside senders ts) (wrongs m ts) (length-beside senders ts ∙ sym (length-wrongs m ts)) (λ k lt.
    let below : k < length ts = omega (arith, lt, length-beside senders ts) in
    beside-at senders ts k below
    ∙ wrong_same m ts senders k (get_or ts k None) are below refl
    ∙ sym (wrong_here m ts k below))

-- ---- the fault of the least bad place

pub none_bad : (place : ℕ) (ws : List (Option FaultNo)) → least_from place (map (λ w. option_map (λ number. 0) w) ws) 0 ≡ None → first_fault place ws ≡ None
none_bad place [] none = refl
none_bad place (None ∷ ws) none = none_bad (place + 1) ws none
none_bad place (Some number ∷ ws) none = absurd (none-some place (sym none))

pub first_bad : (place : ℕ) (ws : List (Option FaultNo)) (q : ℕ) → least_from place (map (λ w. option_map (λ number. 0) w) ws) 0 ≡ Some q
    → (place ≤ q) × (q - place < length ws) × (first_fault place ws ≡ option_map (λ number. fault_at number q) (get_or ws (q - place) None))
first_bad place [] q some = absurd (none-some q some)
first_bad place (None ∷ ws) q some =
    let rest = first_bad (place + 1) ws q some in
    let on : q - place ≡ suc (q - (place + 1)) = omega (arith, rest.0) in
    (omega (arith, rest.0), omega (arith, rest.1, on), rest.2 ∙ ap (λ n. option_map (λ number. fault_at number q) (get_or (None ∷ ws) n None)) (sym on))
first_bad place (Some number ∷ ws) q some =
    let same : place ≡ q = ap (λ o. unwrap_or o 0) some in
    let here : 0 ≡ q - place = omega (arith, same) in (
      omega (arith, same),
      omega (arith, here),
      ap (λ p. Some (fault_at number p)) same ∙ ap (λ n. option_map (λ no. fault_at no q) (get_or (Some number ∷ ws) n None)) here,
    )

pub none_found : (ws : List (Option FaultNo)) (o : Option ℕ) → length ws ≤ most_elements → o ≡ least_from 0 (bad_slots ws) 0 → o ≡ None
    → unless {Y = Unit {0}} (first_fault 0 ws) (Ok (tt {0})) ≡ Ok (tt {0})
none_found ws o few least none =
    ap (λ f. unless {Y = Unit {0}} f (Ok (tt {0}))) (none_bad 0 ws (ap (λ ss. least_from 0 ss 0) (sym (shown-all (λ w. option_map (λ number. 0) w) ws few)) ∙ sym least ∙ none))

pub some_found : (ws : List (Option FaultNo)) (o : Option ℕ) (q : ℕ) → length ws ≤ most_elements → o ≡ least_from 0 (bad_slots ws) 0 → o ≡ Some q
    → (q < length ws) × (first_fault 0 ws ≡ option_map (λ number. fault_at number q) (get_or ws q None))
some_found ws o q few least some =
    let found = first_bad 0 ws q (ap (λ ss. least_from 0 ss 0) (sym (shown-all (λ w. option_map (λ number. 0) w) ws few)) ∙ sym least ∙ some) in
    let same : q - 0 ≡ q = omega arith in
    (omega (arith, found.1), found.2 ∙ ap (λ n. option_map (λ number. fault_at number q) (get_or ws n None)) same)

-- ---- both boards

pub checked_ok : (one other : Option Fault) (senders items : List ℕ) → one ≡ other → unless {Y = Unit {0}} one (Ok (tt {0})) ≡ Ok (tt {0}) → items ≡ senders → unless other (Ok senders) ≡ Ok items
checked_ok None other senders items same right are = ap (λ o. unless o (Ok senders)) (sym same) ∙ ap Ok (sym are)
checked_ok (Some f) other senders items same right are = absurd (cc)

-- ---- what is wrong with an index, as the code finds it

out_if : (b : Bool) (d : ℕ) (others : Option FaultNo) → None ≡ (if b then Some d else None) → (if not b then Some IndexOutOfRange else others) ≡ Some IndexOutOfRange
out_if true d others none = absurd (none-some d none)
out_if false d others none = refl

module _ (senders : List ℕ) (ts : List (Option ℤ)) (k : ℕ) (lt : k < length (wrongs_beside senders ts)) (i : ℤ) (takes : Bool) (is : get_or ts k None ≡ destination_if i takes) where
  pub wrong_now : (b : Bool) → takes ≡ b → get_or (wrongs_beside senders ts) k None ≡ wrong_beside senders k (destination_if i b)
  wrong_now b same = beside-at senders ts k (omega (arith, lt, length-beside senders ts)) ∙ ap (wrong_beside senders k) (is ∙ ap (destination_if i) same)

  pub wrong_outside : takes ≡ true → None ≡ place_among (length senders) i → get_or (wrongs_beside senders ts) k None ≡ Some IndexOutOfRange
  wrong_outside same none = wrong_now true same ∙ out_if (is_place (length senders) i) (unsigned_abs i) _ none

  pub wrong_inside : (d : ℕ) (b : Bool) → takes ≡ true → i ≡ pos d → d < length senders → eqb (get_or senders d 0) k ≡ b
      → get_or (wrongs_beside senders ts) k None ≡ (if b then None else Some IndexRepeated)
  wrong_inside d b same named below equal =
      wrong_now true same
      ∙ ap (λ j. wrong_beside senders k (Some j)) named
      ∙ ap (λ inside. if not inside then Some IndexOutOfRange else if eqb (get_or senders d 0) k then None else Some IndexRepeated) (lt-ltb d (length senders) below)
      ∙ ap (λ e. if e then None else Some IndexRepeated) equal
