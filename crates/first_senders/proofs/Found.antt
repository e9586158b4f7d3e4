-- The walk from the last place to the first: what it has written before the places behind k, and with place k.
use Rattle.first_senders.proofs.Cited.{◌≡◌, ◌∙◌, ℕ, ◌+◌, ◌-◌, ◌<◌, ◌≤◌, Bool, true, false, cond, List, [], length, map, drop, take, get_or, set, replicate, refl, sym, ap, arith, inl, inr, leb, ltb}
use Rattle.first_senders.proofs.Cited.{subst, ℤ, pos, negsuc, Option, Some, None, count_by, le-leb, lt-ltb, le-ltb, ext_get_or, drop_all, at_drop_more, get_or-set_same, get_or-set_other, length-set}
use Rattle.first_senders.proofs.Cited.{length-range_with_len, length-map-range_with_len, get_or-map-range_with_len, sum_by-cons, is_destination, other_place}
use Rattle.std.specs.List.{range_with_len, position_from}
use Rattle.std.proofs.lemmas.Bool.{and_from, and_left, and_right, lt-leb}
use Rattle.std.proofs.lemmas.Bool.Decides.{eqb_tells, Decides-int_eq}
use Rattle.std.proofs.lemmas.Iterator.Adapters.{position_from-zero}
use Rattle.std.proofs.lemmas.Simd.{splat_is_map}
use Rattle.permute_walks.specs.Senders.{is_between}
use Rattle.first_senders.specs.FirstSenders.{first_senders, sender_or_none}
use Rattle.first_senders.proofs.Faults.{part_at, part_long}

-- the first place with destination d, where the first of all stands at k
abbrev pub sender_from : ℕ → List (Option ℤ) → ℕ → ℤ
sender_from k ts d = sender_or_none (position_from (is_destination (pos d)) k ts)

here_or : (b : Bool) (k : ℕ) (later : Option ℕ) → sender_or_none (cond b (Some k) later) ≡ cond b (pos k) (sender_or_none later)
here_or true k later = refl
here_or false k later = refl

abbrev one_if : Bool → ℕ
one_if b = cond b 1 0

-- what the walk has written when k places are left
pub record IsWrittenBehind (ts : List (Option ℤ)) (lowest m k : ℕ) (out : List ℤ) (named : ℕ) : Type 0 where
  pub written : out ≡ map (sender_from k (drop k ts)) (range_with_len lowest m)
  pub counted : named ≡ count_by (is_between lowest (lowest + m)) (drop k ts)

pub written_none : (ts : List (Option ℤ)) (lowest m k : ℕ) (out : List ℤ) → k ≡ length ts → out ≡ replicate m (negsuc 0) → IsWrittenBehind ts lowest m k out 0
written_none ts lowest m k out is fresh =
    let none : drop k ts ≡ [] = drop_all k ts (omega (arith, is)) in
    record {
      written = fresh ∙ splat_is_map (range_with_len lowest m) m (negsuc 0) (length-range_with_len lowest m)
          ∙ (λ i. map (sender_from k (sym none i)) (range_with_len lowest m));
      counted = ap (count_by (is_between lowest (lowest + m))) (sym none);
    }

module _ {ts : List (Option ℤ)} {lowest m named : ℕ} {out : List ℤ} (k : ℕ) (to : IsWrittenBehind ts lowest m (k + 1) out named) (lt : k < length ts) where
  out_long : length out ≡ m
  out_long = ap length to.written ∙ length-map-range_with_len (sender_from (k + 1) (drop (k + 1) ts)) lowest m

  out_at : (e : ℕ) → e < m → get_or out e (pos 0) ≡ sender_from (k + 1) (drop (k + 1) ts) (lowest + e)
  out_at e below = ap (λ zs. get_or zs e (pos 0)) to.written ∙ get_or-map-range_with_len (sender_from (k + 1) (drop (k + 1) ts)) lowest m e (lowest + e) (pos 0) below refl

  now_at : (d : ℕ) → sender_from k (drop k ts) d ≡ cond (is_destination (pos d) (get_or ts k None)) (pos k) (sender_from (k + 1) (drop (k + 1) ts) d)
  now_at d =
      at_drop_more (λ us. sender_from k us d) ts k None lt
      ∙ here_or (is_destination (pos d) (get_or ts k None)) k (position_from (is_destination (pos d)) (k + 1) (drop (k + 1) ts))

  count_at : count_by (is_between lowest (lowest + m)) (drop k ts)
      ≡ one_if (is_between lowest (lowest + m) (get_or ts k None)) + count_by (is_between lowest (lowest + m)) (drop (k + 1) ts)
  count_at =
      at_drop_more (count_by (is_between lowest (lowest + m))) ts k None lt
      ∙ sum_by-cons (λ t. one_if (is_between lowest (lowest + m) t)) (get_or ts k None) (drop (k + 1) ts)

  -- a new room, told place by place
  written_each : (new : List ℤ) → length new ≡ m
      → ((e : ℕ) → e < m → get_or new e (pos 0) ≡ cond (is_destination (pos (lowest + e)) (get_or ts k None)) (pos k) (get_or out e (pos 0)))
      → new ≡ map (sender_from k (drop k ts)) (range_with_len lowest m)
  written_each new long each =
      ext_get_or (pos 0) new (map (sender_from k (drop k ts)) (range_with_len lowest m))
      (long ∙ sym (length-map-range_with_len (sender_from k (drop k ts)) lowest m))
      (λ e within.
      let below : e < m = omega (arith, within, long) in
      each e below ∙ ap (cond (is_destination (pos (lowest + e)) (get_or ts k None)) (pos k)) (out_at e below)
      ∙ sym (now_at (lowest + e))
      ∙ sym (get_or-map-range_with_len (sender_from k (drop k ts)) lowest m e (lowest + e) (pos 0) below refl))

  -- a place that names none of the range
  pub written_past : ((e : ℕ) → e < m → is_destination (pos (lowest + e)) (get_or ts k None) ≡ false) → is_between lowest (lowest + m) (get_or ts k None) ≡ false
      → IsWrittenBehind ts lowest m k out named
  written_past other unnamed = let none : one_if (is_between lowest (lowest + m) (get_or ts k None)) ≡ one_if false = ap one_if unnamed in record {
    written = written_each out out_long (λ e below. ap (λ b. cond b (pos k) (get_or out e (pos 0))) (sym (other e below)));
    counted = omega (arith, to.counted, count_at, none);
  }

  -- a place that does not take part
  pub written_skip : get_or ts k None ≡ None → IsWrittenBehind ts lowest m k out named
  written_skip is = written_past (λ e below. ap (is_destination (pos (lowest + e))) is) (ap (is_between lowest (lowest + m)) is)

  -- one that names a place outside of the range
  pub written_below : (d : ℕ) → get_or ts k None ≡ Some (pos d) → d < lowest → IsWrittenBehind ts lowest m k out named
  written_below d is below =
      written_past (λ e within. ap (is_destination (pos (lowest + e))) is ∙ other_place d (lowest + e) (λ same. omega (arith, same, below)))
      (ap (is_between lowest (lowest + m)) is ∙ and_left (leb lowest d) (ltb d (lowest + m)) (lt-leb lowest d below))

  pub written_beyond : (i : ℤ) → get_or ts k None ≡ Some i → ((d : ℕ) → i ≡ pos d → lowest + m ≤ d) → IsWrittenBehind ts lowest m k out named
  written_beyond (negsuc d) is beyond =
      written_past (λ e within. ap (is_destination (pos (lowest + e))) is) (ap (is_between lowest (lowest + m)) is)
  written_beyond (pos d) is beyond =
      let past : lowest + m ≤ d = beyond d refl in
      written_past (λ e within. ap (is_destination (pos (lowest + e))) is ∙ other_place d (lowest + e) (λ same. omega (arith, same, past, within)))
      (ap (is_between lowest (lowest + m)) is ∙ and_right (leb lowest d) (ltb d (lowest + m)) (le-ltb d (lowest + m) past))

  -- one that names a place of it
  module _ (d : ℕ) (is : get_or ts k None ≡ Some (pos d)) (from : lowest ≤ d) (within : d < lowest + m) where
    pub within_room : d - lowest < length out
    within_room = omega (arith, out_long, from, within)

    stored_at : (e : ℕ) → e < m → get_or (set out (d - lowest) (pos k)) e (pos 0) ≡ cond (is_destination (pos (lowest + e)) (get_or ts k None)) (pos k) (get_or out e (pos 0))
    stored_at e below =
        elim (eqb_tells e (d - lowest)) [
          | inl same ↦
              let at : d ≡ lowest + e = omega (arith, same.1, from) in
              let hit : is_destination (pos (lowest + e)) (get_or ts k None) ≡ true =
              ap (is_destination (pos (lowest + e))) is ∙ (Decides-int_eq (pos d) (pos (lowest + e))).1 (ap (λ n. pos n) at) in
              ap (λ j. get_or (set out (d - lowest) (pos k)) j (pos 0)) same.1
              ∙ get_or-set_same out (d - lowest) (pos k) (pos 0) within_room
              ∙ sym (ap (λ b. cond b (pos k) (get_or out e (pos 0))) hit)
          | inr other ↦
              let miss : is_destination (pos (lowest + e)) (get_or ts k None) ≡ false =
              ap (is_destination (pos (lowest + e))) is ∙ other_place d (lowest + e) (λ same. other.1 (omega (arith, same, from))) in
              get_or-set_other out (d - lowest) e (pos k) (pos 0) other.1
              ∙ sym (ap (λ b. cond b (pos k) (get_or out e (pos 0))) miss)
        ]

    pub written_here : (new : List ℤ) (more : ℕ) → new ≡ set out (d - lowest) (pos k) → more ≡ named + 1 → IsWrittenBehind ts lowest m k new more
    written_here new more stored counted =
        let hit : is_between lowest (lowest + m) (get_or ts k None) ≡ true =
        ap (is_between lowest (lowest + m)) is ∙ and_from (leb lowest d) (ltb d (lowest + m)) (le-leb lowest d from) (lt-ltb d (lowest + m) within) in
        let one : one_if (is_between lowest (lowest + m) (get_or ts k None)) ≡ one_if true = ap one_if hit in
        record {
          written = stored ∙ written_each (set out (d - lowest) (pos k)) (length-set out (d - lowest) (pos k) ∙ out_long) stored_at;
          counted = omega (arith, counted, to.counted, count_at, one);
        }

-- what the walk over so many places from `first` on has written when `left` of them are left
pub record IsWalked (all : List (Option ℤ)) (first count lowest m left : ℕ) (out : List ℤ) (named : ℕ) : Type 0 where
  pub in_count : left ≤ count
  pub few : named + left ≤ count
  pub behind : IsWrittenBehind (take count (drop first all)) lowest m left out named

-- one place more, by what the walk does with it
pub walked_on : {all : List (Option ℤ)} {first count lowest m left named more : ℕ} {out new : List ℤ} → IsWalked all first count lowest m left out named
    → first + count ≤ length all → 0 < left → more ≤ named + 1
    → (IsWrittenBehind (take count (drop first all)) lowest m (left - 1 + 1) out named → left - 1 < length (take count (drop first all))
    → get_or (take count (drop first all)) (left - 1) None ≡ get_or all (first + (left - 1)) None → IsWrittenBehind (take count (drop first all)) lowest m (left - 1) new more)
    → IsWalked all first count lowest m (left - 1) new more
walked_on {all} {first} {count} {lowest} {m} {left} {named} {more} {out} walked within some one place =
    let back : left ≡ left - 1 + 1 = omega arith in
    let below : left - 1 < count = omega (arith, walked.in_count) in
    record {
      in_count = omega (arith, walked.in_count);
      few = omega (arith, walked.few);
      behind = place (subst (λ k. IsWrittenBehind (take count (drop first all)) lowest m k out named) back walked.behind) (omega (arith, part_long all first count within))
          (part_at all first count within (left - 1) below);
    }

-- all places
pub written_all : (ts : List (Option ℤ)) (lowest m : ℕ) (out : List ℤ) (named : ℕ) → IsWrittenBehind ts lowest m 0 out named → out ≡ first_senders ts lowest m
written_all ts lowest m out named to =
    to.written ∙ (λ i. map (λ d. sender_or_none (sym (position_from-zero (is_destination (pos d)) ts) i)) (range_with_len lowest m))
