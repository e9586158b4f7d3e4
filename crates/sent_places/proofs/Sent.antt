-- The walk that sends places to their destinations: what it has found after the first places, and after all.
use Rattle.std.proofs.Common.{◌≡◌, ◌∙◌, ℕ, ◌+◌, ◌<◌, ◌≤◌, Bool, true, false, not, ◌||◌, if◌then◌else◌, List, [], ◌∷◌, ◌++◌, length, map, take, drop, get_or, min, set, replicate, refl, sym}
use Rattle.std.proofs.Common.{ap, arith, inl, inr, eqb, ltb, ℤ, pos, negsuc, unsigned_abs, option_map, Option, Some, None, Result}
use Rattle.std.specs.List.{zip, list_any, range_with_len}
use Rattle.std.specs.Ordering.{int_eq}
use Rattle.std.proofs.lemmas.Bool.{ltb-true, eqb-true, or_parts, false_from_ne_true}
use Rattle.std.proofs.lemmas.Bool.Decides.{eqb_tells, Decides-int_eq}
use Rattle.std.proofs.lemmas.List.{ext_get_or, get_or-map, get_or-set_same, get_or-set_other, length-map, length-set, length-take, take_more, take_all, at_drop_more, drop_all}
use Rattle.std.proofs.lemmas.List.FromFn.{length-range_with_len, length-map-range_with_len, get_or-map-range_with_len}
use Rattle.std.proofs.lemmas.Simd.{splat_is_map}
use Rattle.std.proofs.lemmas.Slice.Zip.{get_or-zip, length-zip}
use Rattle.std.proofs.lemmas.Option.{get_or_from_slice_get, none-some}
use Rattle.std.proofs.lemmas.Result.{err_from_is_err_and}
use Rattle.std.specs.Result.{IsErrAnd}
use Rattle.cvl_base.specs.declared.fault.Fault.{Fault}
use Rattle.cvl_base.specs.declared.fault.FaultNo.{FaultNo}
use Rattle.cvl_base.specs.declared.fault.FaultNo.TheVariants.{IndexOutOfRange, IndexRepeated}
use Rattle.cvl_base.specs.Faults.{fault_at}
use Rattle.cvl_base.specs.Folds.{fronts}
use Rattle.cvl_base.proofs.FoldLaws.{length-fronts, slice_get-fronts}
use Rattle.cvl_base.specs.Permutes.{first_fault, flagged_destinations, is_destination, destination_if, wrong_at, wrongs}
use Rattle.sent_places.specs.Senders.{nobody, sender_from, senders_of, fault_told, wrong_with}

-- ---- what is wrong with a place

pub length-wrongs : (m : ℕ) (ts : List (Option ℤ)) → length (wrongs m ts) ≡ length ts
length-wrongs m ts =
    omega (arith, length-map (zip (fronts ts) ts) (λ (p : List (Option ℤ) × Option ℤ). wrong_at m p.0 p.1), length-zip (fronts ts) ts, length-fronts ts)

pub wrong_here : (m : ℕ) (ts : List (Option ℤ)) (k : ℕ) → k < length ts → get_or (wrongs m ts) k None ≡ wrong_at m (take k ts) (get_or ts k None)
wrong_here m ts k lt =
    let long : length (fronts ts) ≡ length ts = length-fronts ts in
    get_or-map (λ (p : List (Option ℤ) × Option ℤ). wrong_at m p.0 p.1) (zip (fronts ts) ts) k ([], None) None (omega (arith, length-zip (fronts ts) ts))
    ∙ ap (λ (p : List (Option ℤ) × Option ℤ). wrong_at m p.0 p.1) (get_or-zip (fronts ts) ts k ([], None) (omega arith) lt)
    ∙ ap (λ front. wrong_at m front (get_or ts k None)) (get_or_from_slice_get (fronts ts) k (take k ts) [] (slice_get-fronts ts k lt))

-- ---- the first fault, where no place before k is bad

first_fault-past : (place : ℕ) (ws : List (Option FaultNo)) (k : ℕ) → k < length ws → get_or ws k None ≡ None → first_fault (place + k) (drop k ws) ≡ first_fault (place + (k + 1)) (drop (k + 1) ws)
first_fault-past place ws k lt none =
    at_drop_more (first_fault (place + k)) ws k None lt
    ∙ ap (λ w. first_fault (place + k) (w ∷ drop (k + 1) ws)) none
    ∙ ap (λ p. first_fault p (drop (k + 1) ws)) (omega arith)

first_fault-here : (place : ℕ) (ws : List (Option FaultNo)) (k : ℕ) (number : FaultNo) → k < length ws → get_or ws k None ≡ Some number → first_fault (place + k) (drop k ws)
    ≡ Some (fault_at number (place + k))
first_fault-here place ws k number lt some =
    at_drop_more (first_fault (place + k)) ws k None lt ∙ ap (λ w. first_fault (place + k) (w ∷ drop (k + 1) ws)) some

-- ---- senders

-- another destination
pub other_place : (a d : ℕ) → ¬ (a ≡ d) → is_destination (pos d) (Some (pos a)) ≡ false
other_place a d other =
    false_from_ne_true (int_eq (pos a) (pos d)) (λ yes. let same : pos a ≡ pos d = (Decides-int_eq (pos a) (pos d)).0 yes in other (cc))

-- whether anybody was sent there
tells_first : (b : Bool) (place other : ℕ) (any : Bool) → place < nobody → not (eqb other nobody) ≡ any → not (eqb (if b then place else other) nobody) ≡ (b || any)
tells_first true place other any small rest = elim (eqb_tells place nobody) [ inl t ↦ absurd (omega (arith, t.1)) | inr t ↦ ap not t.0 ]
tells_first false place other any small rest = rest

sender-tells : (place : ℕ) (ts : List (Option ℤ)) (d : ℕ) → place + length ts ≤ nobody → not (eqb (sender_from place ts d) nobody) ≡ list_any (is_destination (pos d)) ts
sender-tells place [] d small = refl
sender-tells place (t ∷ ts) d small =
    tells_first (is_destination (pos d) t) place (sender_from (place + 1) ts d) (list_any (is_destination (pos d)) ts) (omega arith) (sender-tells (place + 1) ts d (omega arith))

-- one more destination, that isn't d
sender-other : (place : ℕ) (ts : List (Option ℤ)) (t : Option ℤ) (d : ℕ) → is_destination (pos d) t ≡ false → sender_from place (ts ++ t ∷ []) d ≡ sender_from place ts d
sender-other place [] t d other = ap (λ b. if b then place else nobody) other
sender-other place (u ∷ ts) t d other = ap (λ rest. if is_destination (pos d) u then place else rest) (sender-other (place + 1) ts t d other)

-- none of the first destinations is d
pub sender_after : (place d : ℕ) (ts us : List (Option ℤ)) → list_any (is_destination (pos d)) ts ≡ false → sender_from place (ts ++ us) d ≡ sender_from (place + length ts) us d
sender_after place d [] us none = ap (λ p. sender_from p us d) (omega arith)
sender_after place d (t ∷ ts) us none =
    let both = or_parts (is_destination (pos d) t) (list_any (is_destination (pos d)) ts) none in
    ap (λ b. if b then place else sender_from (place + 1) (ts ++ us) d) both.0 ∙ sender_after (place + 1) d ts us both.1 ∙ ap (λ p. sender_from p us d) (omega arith)

-- one more destination, that is d where none was before
sender-found : (place : ℕ) (ts : List (Option ℤ)) (t : Option ℤ) (d : ℕ) → list_any (is_destination (pos d)) ts ≡ false → is_destination (pos d) t ≡ true
    → sender_from place (ts ++ t ∷ []) d ≡ place + length ts
sender-found place ts t d none found = sender_after place d ts (t ∷ []) none ∙ ap (λ b. if b then place + length ts else nobody) found

pub length-senders_of : (place : ℕ) (ts : List (Option ℤ)) (m : ℕ) → length (senders_of place ts m) ≡ m
length-senders_of place ts m = length-map-range_with_len (sender_from place ts) 0 m

pub sender_at : (place : ℕ) (ts : List (Option ℤ)) (m d : ℕ) → d < m → get_or (senders_of place ts m) d 0 ≡ sender_from place ts d
sender_at place ts m d lt = get_or-map-range_with_len (sender_from place ts) 0 m d d 0 lt (omega arith)

same_senders : (place : ℕ) (ts us : List (Option ℤ)) (m : ℕ) → ((d : ℕ) → d < m → sender_from place ts d ≡ sender_from place us d) → senders_of place ts m ≡ senders_of place us m
same_senders place ts us m each =
    ext_get_or 0 (senders_of place ts m) (senders_of place us m) (length-senders_of place ts m ∙ sym (length-senders_of place us m)) (λ d lt.
    let below : d < m = omega (arith, length-senders_of place ts m) in
    sender_at place ts m d below ∙ each d below ∙ sym (sender_at place us m d below))

pub nobody_sent : (a m : ℕ) → map (λ _. nobody) (range_with_len a m) ≡ replicate m nobody
nobody_sent a m = sym (splat_is_map (range_with_len a m) m nobody (length-range_with_len a m))

-- ---- what the walk has found after the first k places

pub record IsSentTo (place : ℕ) (ts : List (Option ℤ)) (m k : ℕ) (senders : List ℕ) : Type 0 where
  pub senders_are : senders ≡ senders_of place (take k ts) m
  pub fault_is : first_fault place (wrongs m ts) ≡ first_fault (place + k) (drop k (wrongs m ts))

pub sent_none : (place : ℕ) (ts : List (Option ℤ)) (m : ℕ) (senders : List ℕ) → senders ≡ replicate m nobody → IsSentTo place ts m 0 senders
sent_none place ts m senders fresh = record {
  senders_are = fresh ∙ sym (nobody_sent 0 m);
  fault_is = ap (λ p. first_fault p (wrongs m ts)) (omega arith);
}

-- the index's fault is that of its destination
by_tests : (inside any : Bool) (sender : ℕ) → (inside ≡ true → not (eqb sender nobody) ≡ any) → (if not inside then Some IndexOutOfRange else if any then Some IndexRepeated else None)
    ≡ (if not inside then Some IndexOutOfRange else if not (eqb sender nobody) then Some IndexRepeated else None)
by_tests true any sender same = ap (λ b. if b then Some IndexRepeated else None) (sym (same refl))
by_tests false any sender same = refl

wrong-same : (place : ℕ) (ts : List (Option ℤ)) (m : ℕ) (senders : List ℕ) (i : ℤ) → place + length ts ≤ nobody → senders ≡ senders_of place ts m → wrong_at m ts (Some i) ≡ wrong_with senders i
wrong-same place ts m senders (negsuc d) small are = refl
wrong-same place ts m senders (pos d) small are =
    let long : length senders ≡ m = ap length are ∙ length-senders_of place ts m in
    by_tests (ltb d m) (list_any (is_destination (pos d)) ts) (get_or senders d 0) (λ inside.
    ap (λ ss. not (eqb (get_or ss d 0) nobody)) are
    ∙ ap (λ s. not (eqb s nobody)) (sender_at place ts m d (ltb-true d m inside))
    ∙ sender-tells place ts d small)
    ∙ ap (λ n. if not (ltb d n) then Some IndexOutOfRange else if not (eqb (get_or senders d 0) nobody) then Some IndexRepeated else None) (sym long)

pub right_tests : (inside free : Bool) → (if not inside then Some IndexOutOfRange else if not free then Some IndexRepeated else None) ≡ None → (inside ≡ true) × (free ≡ true)
right_tests true true right = (refl, refl)
right_tests true false right = absurd (none-some IndexRepeated (sym right))
right_tests false free right = absurd (none-some IndexOutOfRange (sym right))

-- one more destination
sent-same : (place : ℕ) (us : List (Option ℤ)) (t : Option ℤ) (m d : ℕ) (senders : List ℕ) → place + length us < nobody → senders ≡ senders_of place us m → t ≡ Some (pos d) → d < m
    → get_or senders d 0 ≡ nobody → set senders d (place + length us) ≡ senders_of place (us ++ t ∷ []) m
sent-same place us t m d senders small are is lt free =
    let long : length senders ≡ m = ap length are ∙ length-senders_of place us m in
    let now : sender_from place us d ≡ nobody = sym (sender_at place us m d lt) ∙ ap (λ ss. get_or ss d 0) (sym are) ∙ free in
    let none : list_any (is_destination (pos d)) us ≡ false = sym (sender-tells place us d (omega arith)) ∙ ap (λ s. not (eqb s nobody)) now in
    ext_get_or 0 (set senders d (place + length us)) (senders_of place (us ++ t ∷ []) m) (length-set senders d (place + length us) ∙ long ∙ sym (length-senders_of place (us ++ t ∷ []) m)) (λ e within.
    let below : e < m = omega (arith, length-set senders d (place + length us)) in
    elim (eqb_tells e d) [
      | inl same ↦
          ap (λ j. get_or (set senders d (place + length us)) j 0) same.1
          ∙ get_or-set_same senders d (place + length us) 0 (omega arith)
          ∙ sym (sender-found place us t d none (ap (is_destination (pos d)) is ∙ (Decides-int_eq (pos d) (pos d)).1 refl))
          ∙ sym (sender_at place (us ++ t ∷ []) m d lt)
          ∙ ap (λ j. get_or (senders_of place (us ++ t ∷ []) m) j 0) (sym same.1)
      | inr other ↦
          get_or-set_other senders d e (place + length us) 0 other.1
          ∙ ap (λ ss. get_or ss e 0) are
          ∙ sender_at place us m e below
          ∙ sym (sender-other place us t e (ap (is_destination (pos e)) is ∙ other_place d e (λ same. other.1 (sym same))))
          ∙ sym (sender_at place (us ++ t ∷ []) m e below)
    ])

-- a place that is sent
module _ (place : ℕ) (ts : List (Option ℤ)) (m k : ℕ) (senders : List ℕ) (small : place + length ts ≤ nobody) (to : IsSentTo place ts m k senders) (lt : k < length ts) where
  front_long : length (take k ts) ≡ k
  front_long = omega (arith, length-take k ts)

  pub found_here : (i : ℤ) → get_or ts k None ≡ Some i → get_or (wrongs m ts) k None ≡ wrong_with senders i
  found_here i is =
      wrong_here m ts k lt ∙ ap (wrong_at m (take k ts)) is
      ∙ wrong-same place (take k ts) m senders i (omega (arith, front_long)) to.senders_are

  past : get_or (wrongs m ts) k None ≡ None → first_fault place (wrongs m ts) ≡ first_fault (place + (k + 1)) (drop (k + 1) (wrongs m ts))
  past none = to.fault_is ∙ first_fault-past place (wrongs m ts) k (omega (arith, length-wrongs m ts)) none

  pub sent_more : (new : List ℕ) (i : ℤ) → get_or ts k None ≡ Some i → wrong_with senders i ≡ None → new ≡ set senders (unsigned_abs i) (place + k) → IsSentTo place ts m (k + 1) new
  sent_more new (negsuc d) is right sent = absurd (none-some IndexOutOfRange (sym right))
  sent_more new (pos d) is right sent =
      let tests = right_tests (ltb d (length senders)) (eqb (get_or senders d 0) nobody) right in
      let long : length senders ≡ m = ap length to.senders_are ∙ length-senders_of place (take k ts) m in
      let within : d < length senders = ltb-true d (length senders) tests.0 in
      record {
        senders_are = sent
            ∙ ap (λ n. set senders d (place + n)) (sym front_long)
            ∙ sent-same place (take k ts) (get_or ts k None) m d senders (omega (arith, front_long)) to.senders_are is (omega arith) (eqb-true (get_or senders d 0) nobody tests.1)
            ∙ ap (λ us. senders_of place us m) (sym (take_more ts k None lt));
        fault_is = past (found_here (pos d) is ∙ right);
      }

  pub skip_more : get_or ts k None ≡ None → IsSentTo place ts m (k + 1) senders
  skip_more is = record {
    senders_are = to.senders_are
        ∙ sym (same_senders place (take k ts ++ get_or ts k None ∷ []) (take k ts) m (λ d below. sender-other place (take k ts) (get_or ts k None) d (ap (is_destination (pos d)) is)))
        ∙ ap (λ us. senders_of place us m) (sym (take_more ts k None lt));
    fault_is = past (wrong_here m ts k lt ∙ ap (wrong_at m (take k ts)) is);
  }

  fails_at : (f : Fault) (w : Option FaultNo) → get_or (wrongs m ts) k None ≡ w → Some f ≡ option_map (λ number. fault_at number (place + k)) w → Some f ≡ first_fault place (wrongs m ts)
  fails_at f None is bad = absurd (none-some f (sym bad))
  fails_at f (Some number) is bad = bad ∙ sym (to.fault_is ∙ first_fault-here place (wrongs m ts) k number (omega (arith, length-wrongs m ts)) is)

  pub sent_fails : (f : Fault) (i : ℤ) → get_or ts k None ≡ Some i → Some f ≡ option_map (λ number. fault_at number (place + k)) (wrong_with senders i) → Some f ≡ first_fault place (wrongs m ts)
  sent_fails f i is bad = fails_at f (wrong_with senders i) (found_here i is) bad

-- what was right is no fault
pub right_told : (w : Option FaultNo) (place : ℕ) → None ≡ option_map (λ number. fault_at number place) w → w ≡ None
right_told None place right = refl
right_told (Some number) place right = absurd (none-some (fault_at number place) right)

-- all places
pub sent_all : (place : ℕ) (ts : List (Option ℤ)) (m k : ℕ) (senders : List ℕ) → IsSentTo place ts m k senders → length ts ≤ k → (None ≡ first_fault place (wrongs m ts))
    × (senders ≡ senders_of place ts m)
sent_all place ts m k senders to ge = (
  sym (to.fault_is ∙ ap (first_fault (place + k)) (drop_all k (wrongs m ts) (omega (arith, length-wrongs m ts)))),
  to.senders_are ∙ ap (λ us. senders_of place us m) (take_all k ts ge),
)

-- ---- the destinations of the indices

-- where there are fewer flags than indices, or more, the places that have both
pub count-flagged_destinations : (index : List ℤ) (flags : List Bool) → length (flagged_destinations index flags) ≡ min (length index) (length flags)
count-flagged_destinations index flags =
    omega (arith, length-map (zip index flags) (λ (p : ℤ × Bool). destination_if p.0 p.1), length-zip index flags)

pub flagged-destination : (index : List ℤ) (flags : List Bool) (k : ℕ) → k < length index → k < length flags
    → get_or (flagged_destinations index flags) k None ≡ destination_if (get_or index k (pos 0)) (get_or flags k false)
flagged-destination index flags k lt flagged =
    get_or-map (λ (p : ℤ × Bool). destination_if p.0 p.1) (zip index flags) k (pos 0, false) None (omega (arith, length-zip index flags))
    ∙ ap (λ (p : ℤ × Bool). destination_if p.0 p.1) (get_or-zip index flags k (pos 0, false) lt flagged)

pub ruleset flagged = (count-flagged_destinations, flagged-destination)

-- the fault of a `?` is told again
pub told_again : {T : Type 0} (r : Result T Fault) (f : Fault) → IsErrAnd r (λ y. y ≡ f) → fault_told r ≡ Some f
told_again r f is = let p = err_from_is_err_and r is in ap fault_told p.1 ∙ ap (λ y. Some y) p.2
