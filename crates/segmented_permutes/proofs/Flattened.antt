-- A segmented permute is a flat one at flat indices: its fault and its senders are those of the flat destinations.
use Rattle.std.proofs.Common.{◌≡◌, ◌≢◌, ◌∙◌, ℕ, zero, suc, ◌+◌, ◌<◌, ◌≤◌, false, not, ◌||◌, if◌then◌else◌, List, [], ◌∷◌, ◌++◌, length, map, take, get_or, refl, sym, ap, arith, inl, inr}
use Rattle.std.proofs.Common.{append_assoc, append-nil, ℤ, pos, negsuc, option_map, Option, Some, None}
use Rattle.std.specs.List.{list_any, range_with_len}
use Rattle.std.specs.Option.{option_or}
use Rattle.std.specs.Ordering.{int_eq}
use Rattle.std.proofs.lemmas.Bool.{lt-ltb, le-ltb, or_parts}
use Rattle.std.proofs.lemmas.Bool.Decides.{eqb_tells, leb_tells, Decides-int_eq}
use Rattle.std.proofs.lemmas.List.{ext_get_or, length-map, map-append}
use Rattle.std.proofs.lemmas.List.Folds.{list_any-append}
use Rattle.std.proofs.lemmas.List.FromFn.{length-map-range_with_len, get_or-map-range_with_len}
use Rattle.cvl_base.specs.declared.fault.FaultNo.{FaultNo}
use Rattle.cvl_base.specs.declared.fault.FaultNo.TheVariants.{IndexOutOfRange, IndexRepeated}
use Rattle.cvl_base.specs.Permutes.{first_fault, is_destination, wrong_at, wrongs}
use Rattle.segmented_permutes.specs.FlatIndices.{flat_index}
use Rattle.segment_sends.specs.SegmentDestinations.{fault_from, places_in, senders_from}
use Rattle.permute_walks.specs.Senders.{nobody, sender_from, senders_of}
use Rattle.permute_walks.proofs.Listed.{range_both}
use Rattle.permute_walks.proofs.Sent.{length-wrongs, other_place, sender_after, wrong_here}
use Rattle.cvl_base.proofs.Lists.{sum-cons}

-- ---- the flat destinations

abbrev pub flat_destination : ℕ → ℕ → Option ℤ → Option ℤ
flat_destination start m t = option_map (flat_index start m) t

abbrev pub flat_destinations : ℕ → List (ℕ × List (Option ℤ)) → List (Option ℤ)
flat_destinations start [] = []
flat_destinations start (segment ∷ segments) = map (flat_destination start segment.0) segment.1 ++ flat_destinations (start + segment.0) segments

-- whether a destination is a place, in its segment and in the whole
same_place : (start a d : ℕ) → int_eq (pos (start + a)) (pos (start + d)) ≡ int_eq (pos a) (pos d)
same_place start a d =
    elim (eqb_tells a d) [
      | inl same ↦ ap (λ n. int_eq (pos (start + n)) (pos (start + d))) same.1 ∙ (Decides-int_eq (pos (start + d)) (pos (start + d))).1 refl
          ∙ sym (ap (λ n. int_eq (pos n) (pos d)) same.1 ∙ (Decides-int_eq (pos d) (pos d)).1 refl)
      | inr ne ↦ other_place (start + a) (start + d) (λ same. ne.1 (omega (arith, same))) ∙ sym (other_place a d ne.1)
    ]

-- in its segment
destination_flat : (start m d : ℕ) (t : Option ℤ) → d < m → is_destination (pos (start + d)) (flat_destination start m t) ≡ is_destination (pos d) t
destination_flat start m d None lt = refl
destination_flat start m d (Some (negsuc a)) lt = refl
destination_flat start m d (Some (pos a)) lt =
    elim (leb_tells (suc a) m) [
      | inl inside ↦ ap (λ b. is_destination (pos (start + d)) (Some (if b then pos (start + a) else negsuc 0))) (lt-ltb a m (omega (arith, inside.1))) ∙ same_place start a d
      | inr out ↦ ap (λ b. is_destination (pos (start + d)) (Some (if b then pos (start + a) else negsuc 0))) (le-ltb a m (omega (arith, out.1)))
          ∙ sym (other_place a d (λ same. omega (arith, same, out.1, lt)))
    ]

-- in no other
destination_away : (start m d : ℕ) (t : Option ℤ) → ((a : ℕ) → a < m → start + a ≢ d) → is_destination (pos d) (flat_destination start m t) ≡ false
destination_away start m d None away = refl
destination_away start m d (Some (negsuc a)) away = refl
destination_away start m d (Some (pos a)) away =
    elim (leb_tells (suc a) m) [
      | inl inside ↦ ap (λ b. is_destination (pos d) (Some (if b then pos (start + a) else negsuc 0))) (lt-ltb a m (omega (arith, inside.1)))
          ∙ other_place (start + a) d (away a (omega (arith, inside.1)))
      | inr out ↦ ap (λ b. is_destination (pos d) (Some (if b then pos (start + a) else negsuc 0))) (le-ltb a m (omega (arith, out.1)))
    ]

none_of : (start m d : ℕ) (ts : List (Option ℤ)) → ((a : ℕ) → a < m → start + a ≢ d) → list_any (is_destination (pos d)) (map (flat_destination start m) ts) ≡ false
none_of start m d [] away = refl
none_of start m d (t ∷ ts) away = (λ i. destination_away start m d t away i || none_of start m d ts away i)

any_flat : (start m d : ℕ) (ts : List (Option ℤ)) → d < m → list_any (is_destination (pos (start + d))) (map (flat_destination start m) ts) ≡ list_any (is_destination (pos d)) ts
any_flat start m d [] lt = refl
any_flat start m d (t ∷ ts) lt = (λ i. destination_flat start m d t lt i || any_flat start m d ts lt i)

-- no destination of the segments is a place before theirs
before_segments : (start d : ℕ) (segments : List (ℕ × List (Option ℤ))) → d < start → list_any (is_destination (pos d)) (flat_destinations start segments) ≡ false
before_segments start d [] lt = refl
before_segments start d ((m, ts) ∷ segments) lt =
    list_any-append (is_destination (pos d)) (map (flat_destination start m) ts) (flat_destinations (start + m) segments)
    ∙ (λ i. none_of start m d ts (λ a in_part same. omega (arith, same, lt)) i || before_segments (start + m) d segments (omega (arith, lt)) i)

-- ---- what is wrong with each destination

-- after others
abbrev wrongs_on : ℕ → List (Option ℤ) → List (Option ℤ) → List (Option FaultNo)
wrongs_on m before [] = []
wrongs_on m before (t ∷ ts) = wrong_at m before t ∷ wrongs_on m (before ++ t ∷ []) ts

length-wrongs_on : (m : ℕ) (before ts : List (Option ℤ)) → length (wrongs_on m before ts) ≡ length ts
length-wrongs_on m before [] = refl
length-wrongs_on m before (t ∷ ts) = ap suc (length-wrongs_on m (before ++ t ∷ []) ts)

wrong_on : (m : ℕ) (before ts : List (Option ℤ)) (k : ℕ) → k < length ts → get_or (wrongs_on m before ts) k None ≡ wrong_at m (before ++ take k ts) (get_or ts k None)
wrong_on m before [] k lt = absurd (omega arith)
wrong_on m before (t ∷ ts) zero lt = ap (λ us. wrong_at m us t) (sym (append-nil before))
wrong_on m before (t ∷ ts) (suc k) lt =
    wrong_on m (before ++ t ∷ []) ts k (omega arith) ∙ ap (λ us. wrong_at m us (get_or ts k None)) (append_assoc before (t ∷ []) (take k ts))

wrongs_alone : (m : ℕ) (ts : List (Option ℤ)) → wrongs m ts ≡ wrongs_on m [] ts
wrongs_alone m ts =
    ext_get_or None (wrongs m ts) (wrongs_on m [] ts) (length-wrongs m ts ∙ sym (length-wrongs_on m [] ts)) (λ k lt.
    let below : k < length ts = omega (arith, lt, length-wrongs m ts) in
    wrong_here m ts k below ∙ sym (wrong_on m [] ts k below))

wrongs_on-append : (m : ℕ) (before ts us : List (Option ℤ)) → wrongs_on m before (ts ++ us) ≡ wrongs_on m before ts ++ wrongs_on m (before ++ ts) us
wrongs_on-append m before [] us = ap (λ vs. wrongs_on m vs us) (sym (append-nil before))
wrongs_on-append m before (t ∷ ts) us =
    ap (λ rest. wrong_at m before t ∷ rest)
    (wrongs_on-append m (before ++ t ∷ []) ts us ∙ ap (λ vs. wrongs_on m (before ++ t ∷ []) ts ++ wrongs_on m vs us) (append_assoc before (t ∷ []) ts))

-- no place from `start` on is among them
abbrev IsBelow : ℕ → List (Option ℤ) → Type 0
IsBelow start before = (d : ℕ) → start ≤ d → list_any (is_destination (pos d)) before ≡ false

module _ (whole start m : ℕ) (before : List (Option ℤ)) (within : start + m ≤ whole) (below : IsBelow start before) where
  wrong_flat : (done : List (Option ℤ)) (t : Option ℤ) → wrong_at whole (before ++ map (flat_destination start m) done) (flat_destination start m t) ≡ wrong_at m done t
  wrong_flat done None = refl
  wrong_flat done (Some (negsuc a)) = refl
  wrong_flat done (Some (pos a)) =
      let all = before ++ map (flat_destination start m) done in
      elim (leb_tells (suc a) m) [
        | inl inside ↦
            let lt : a < m = omega (arith, inside.1) in
            ap (λ b. wrong_at whole all (Some (if b then pos (start + a) else negsuc 0))) (lt-ltb a m lt)
            ∙ ap (λ b. if not b then Some IndexOutOfRange else if list_any (is_destination (pos (start + a))) all then Some IndexRepeated else None)
            (lt-ltb (start + a) whole (omega (arith, lt, within)))
            ∙ ap (λ b. if b then Some IndexRepeated else None)
            (list_any-append (is_destination (pos (start + a))) before (map (flat_destination start m) done)
            ∙ (λ i. below (start + a) (omega arith) i || any_flat start m a done lt i))
            ∙ ap (λ b. if not b then Some IndexOutOfRange else if list_any (is_destination (pos a)) done then Some IndexRepeated else None) (sym (lt-ltb a m lt))
        | inr out ↦
            let ge : m ≤ a = omega (arith, out.1) in
            ap (λ b. wrong_at whole all (Some (if b then pos (start + a) else negsuc 0))) (le-ltb a m ge)
            ∙ ap (λ b. if not b then Some IndexOutOfRange else if list_any (is_destination (pos a)) done then Some IndexRepeated else None) (sym (le-ltb a m ge))
      ]

  wrongs_flat : (done ts : List (Option ℤ)) → wrongs_on whole (before ++ map (flat_destination start m) done) (map (flat_destination start m) ts) ≡ wrongs_on m done ts
  wrongs_flat done [] = refl
  wrongs_flat done (t ∷ ts) =
      let more : (before ++ map (flat_destination start m) done) ++ flat_destination start m t ∷ [] ≡ before ++ map (flat_destination start m) (done ++ t ∷ []) =
      append_assoc before (map (flat_destination start m) done) (flat_destination start m t ∷ []) ∙ ap (λ us. before ++ us) (sym (map-append (flat_destination start m) done (t ∷ []))) in
      (λ i. wrong_flat done t i ∷ (ap (λ us. wrongs_on whole us (map (flat_destination start m) ts)) more ∙ wrongs_flat (done ++ t ∷ []) ts) i)

  below_more : (ts : List (Option ℤ)) → IsBelow (start + m) (before ++ map (flat_destination start m) ts)
  below_more ts d from =
      list_any-append (is_destination (pos d)) before (map (flat_destination start m) ts)
      ∙ (λ i. below d (omega (arith, from)) i || none_of start m d ts (λ a in_part same. omega (arith, same, from, in_part)) i)

-- ---- the fault

pub first_fault-append : (place : ℕ) (ws vs : List (Option FaultNo)) → first_fault place (ws ++ vs) ≡ option_or (first_fault place ws) (first_fault (place + length ws) vs)
first_fault-append place [] vs = ap (λ p. first_fault p vs) (omega arith)
first_fault-append place (None ∷ ws) vs =
    first_fault-append (place + 1) ws vs ∙ ap (λ p. option_or (first_fault (place + 1) ws) (first_fault p vs)) (omega arith)
first_fault-append place (Some number ∷ ws) vs = refl

fault_on : (whole place start : ℕ) (before : List (Option ℤ)) (segments : List (ℕ × List (Option ℤ))) → IsBelow start before → start + places_in segments ≤ whole
    → first_fault place (wrongs_on whole before (flat_destinations start segments)) ≡ fault_from place segments
fault_on whole place start before [] below within = refl
fault_on whole place start before ((m, ts) ∷ segments) below within =
    let flat = map (flat_destination start m) ts in
    let wide = sum-cons m (map (λ (p : ℕ × List (Option ℤ)). p.0) segments) in
    let in_part : start + m ≤ whole = omega (arith, within, wide) in
    let alone : before ++ [] ≡ before = append-nil before in
    let here : wrongs_on whole before flat ≡ wrongs m ts = ap (λ us. wrongs_on whole us flat) (sym alone) ∙ wrongs_flat whole start m before in_part below [] ts ∙ sym (wrongs_alone m ts) in
    ap (first_fault place) (wrongs_on-append whole before flat (flat_destinations (start + m) segments))
    ∙ first_fault-append place (wrongs_on whole before flat) (wrongs_on whole (before ++ flat) (flat_destinations (start + m) segments))
    ∙ (λ i. option_or (first_fault place (here i)) (first_fault (place + (length-wrongs_on whole before flat ∙ length-map ts (flat_destination start m)) i)
    (wrongs_on whole (before ++ flat) (flat_destinations (start + m) segments))))
    ∙ ap (option_or (first_fault place (wrongs m ts)))
    (fault_on whole (place + length ts) (start + m) (before ++ flat) segments (below_more whole start m before in_part below ts) (omega (arith, within, wide)))

pub fault_flat : (segments : List (ℕ × List (Option ℤ))) (whole : ℕ) → places_in segments ≡ whole → fault_from 0 segments ≡ first_fault 0 (wrongs whole (flat_destinations 0 segments))
fault_flat segments whole same =
    sym (ap (first_fault 0) (wrongs_alone whole (flat_destinations 0 segments)) ∙ fault_on whole 0 0 [] segments (λ d from. refl) (omega (arith, same)))

-- ---- the senders

-- none of them is a destination there
sender_none : (place d : ℕ) (us : List (Option ℤ)) → list_any (is_destination (pos d)) us ≡ false → sender_from place us d ≡ nobody
sender_none place d [] none = refl
sender_none place d (u ∷ us) none =
    let both = or_parts (is_destination (pos d) u) (list_any (is_destination (pos d)) us) none in
    ap (λ b. if b then place else sender_from (place + 1) us d) both.0 ∙ sender_none (place + 1) d us both.1

-- the sender of a place of a segment
sender_in : (start m d : ℕ) (us : List (Option ℤ)) (place : ℕ) (ts : List (Option ℤ)) → d < m → list_any (is_destination (pos (start + d))) us ≡ false
    → sender_from place (map (flat_destination start m) ts ++ us) (start + d) ≡ sender_from place ts d
sender_in start m d us place [] lt none = sender_none place (start + d) us none
sender_in start m d us place (t ∷ ts) lt none =
    (λ i. if destination_flat start m d t lt i then place else sender_in start m d us (place + 1) ts lt none i)

range_same : (f g : ℕ → ℕ) (a b n : ℕ) → ((e : ℕ) → e < n → f (a + e) ≡ g (b + e)) → map f (range_with_len a n) ≡ map g (range_with_len b n)
range_same f g a b n each =
    ext_get_or 0 (map f (range_with_len a n)) (map g (range_with_len b n)) (length-map-range_with_len f a n ∙ sym (length-map-range_with_len g b n)) (λ e lt.
    let within : e < n = omega (arith, lt, length-map-range_with_len f a n) in
    get_or-map-range_with_len f a n e (a + e) 0 within refl ∙ each e within ∙ sym (get_or-map-range_with_len g b n e (b + e) 0 within refl))

senders_on : (place start : ℕ) (segments : List (ℕ × List (Option ℤ))) → map (sender_from place (flat_destinations start segments)) (range_with_len start (places_in segments))
    ≡ senders_from place segments
senders_on place start [] = refl
senders_on place start ((m, ts) ∷ segments) =
    let flat = map (flat_destination start m) ts in
    let others = flat_destinations (start + m) segments in
    let send = sender_from place (flat ++ others) in
    let from_0 = λ (e : ℕ). (let same : 0 + e ≡ e = omega arith in same) in
    ap (λ n. map send (range_with_len start n)) (sum-cons m (map (λ (p : ℕ × List (Option ℤ)). p.0) segments))
    ∙ ap (map send) (range_both start m (places_in segments))
    ∙ map-append send (range_with_len start m) (range_with_len (start + m) (places_in segments))
    ∙ (λ i. range_same send (sender_from place ts) start 0 m (λ e lt.
    sender_in start m e others place ts lt (before_segments (start + m) (start + e) segments (omega (arith, lt))) ∙ ap (sender_from place ts) (sym (from_0 e))) i
    ++ range_same send (sender_from (place + length ts) others) (start + m) (start + m) (places_in segments) (λ e lt.
    sender_after place (start + m + e) flat others (none_of start m (start + m + e) ts (λ a in_part same. omega (arith, in_part, same)))
    ∙ ap (λ n. sender_from (place + n) others (start + m + e)) (length-map ts (flat_destination start m))) i)
    ∙ ap (λ rest. senders_of place ts m ++ rest) (senders_on (place + length ts) (start + m) segments)

pub senders_flat : (segments : List (ℕ × List (Option ℤ))) (whole : ℕ) → places_in segments ≡ whole → senders_from 0 segments ≡ senders_of 0 (flat_destinations 0 segments) whole
senders_flat segments whole same = sym (senders_on 0 0 segments) ∙ ap (senders_of 0 (flat_destinations 0 segments)) same
