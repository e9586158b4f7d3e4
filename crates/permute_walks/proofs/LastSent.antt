-- The last senders of a range of the result, of which each thread finds those of its own range; and that all of them are what
-- one walk of stores leaves.
use Rattle.permute_walks.proofs.Cited.{rules, ◌≡◌, ◌∙◌, ℕ, zero, suc, ◌+◌, ◌<◌, ◌≤◌, Bool, true, false, if◌then◌else◌, List, [], ◌∷◌, ◌++◌, length, take, get_or, set, refl, sym, ap, subst, arith}
use Rattle.permute_walks.proofs.Cited.{inl, inr, ltb, ℤ, pos, negsuc, is_some, Option, Some, None, le-leb, lt-ltb, ltb-true, false≢true, eqb_tells, Decides-int_eq, ext_get_or, get_or-set_same}
use Rattle.permute_walks.proofs.Cited.{get_or-set_other, length-set, length-take, map-append, take_more, take_all, length-map-range_with_len, get_or-map-range_with_len, count_by_more_no}
use Rattle.permute_walks.proofs.Cited.{count_by_more_yes, most_places, Fault, first_fault, is_destination, wrongs, nobody_sent, other_place, IsStoredTo, stored_none, stored_more, stored_outside}
use Rattle.permute_walks.proofs.Cited.{stored_skip, stored_all, IsStored, count_sent, count_destinations, is_between, last_sender_from, last_senders, nobody, senders_of}
use Rattle.std.specs.Cmp.Derive.{both_true}
use Rattle.permute_walks.proofs.Listed.{range_both}

pub length-last_senders : (place : ℕ) (ts : List (Option ℤ)) (lowest n : ℕ) → length (last_senders place ts lowest n) ≡ n
length-last_senders place ts lowest n = length-map-range_with_len (last_sender_from nobody place ts) lowest n

last_at : (place : ℕ) (ts : List (Option ℤ)) (lowest n j : ℕ) → j < n → get_or (last_senders place ts lowest n) j 0 ≡ last_sender_from nobody place ts (lowest + j)
last_at place ts lowest n j lt = get_or-map-range_with_len (last_sender_from nobody place ts) lowest n j (lowest + j) 0 lt refl

-- ---- one more destination

last_push : (other place : ℕ) (us : List (Option ℤ)) (t : Option ℤ) (d : ℕ) → last_sender_from other place (us ++ t ∷ []) d
    ≡ (if is_destination (pos d) t then place + length us else last_sender_from other place us d)
last_push other place [] t d = ap (λ p. if is_destination (pos d) t then p else other) (omega arith)
last_push other place (u ∷ us) t d =
    let this = if is_destination (pos d) u then place else other in
    last_push this (place + 1) us t d ∙ ap (λ p. if is_destination (pos d) t then p else last_sender_from this (place + 1) us d) (omega arith)

module _ (place : ℕ) (ts : List (Option ℤ)) (lowest n k : ℕ) (lt : k < length ts) where
  abbrev pub this : Option ℤ
  this = get_or ts k None

  more_at : (d : ℕ) → last_sender_from nobody place (take (k + 1) ts) d ≡ (if is_destination (pos d) this then place + k else last_sender_from nobody place (take k ts) d)
  more_at d =
      ap (λ us. last_sender_from nobody place us d) (take_more ts k None lt)
      ∙ last_push nobody place (take k ts) this d
      ∙ ap (λ p. if is_destination (pos d) this then place + p else last_sender_from nobody place (take k ts) d) (omega (arith, length-take k ts))

  -- that is none of the range
  pub lasts_other : ((d : ℕ) → lowest ≤ d → d < lowest + n → is_destination (pos d) this ≡ false) → last_senders place (take (k + 1) ts) lowest n ≡ last_senders place (take k ts) lowest n
  lasts_other other =
      let new = last_senders place (take (k + 1) ts) lowest n in
      ext_get_or 0 new (last_senders place (take k ts) lowest n) (length-last_senders place (take (k + 1) ts) lowest n ∙ sym (length-last_senders place (take k ts) lowest n)) (λ j within.
      let below : j < n = omega (arith, length-last_senders place (take (k + 1) ts) lowest n) in
      last_at place (take (k + 1) ts) lowest n j below ∙ more_at (lowest + j)
      ∙ ap (λ b. if b then place + k else last_sender_from nobody place (take k ts) (lowest + j)) (other (lowest + j) (omega arith) (omega arith))
      ∙ sym (last_at place (take k ts) lowest n j below))

  -- that is place j of the range
  pub lasts_set : (j d : ℕ) → j < n → lowest + j ≡ d → this ≡ Some (pos d) → last_senders place (take (k + 1) ts) lowest n ≡ set (last_senders place (take k ts) lowest n) j (place + k)
  lasts_set j d lt_n there names =
      let is : this ≡ Some (pos (lowest + j)) = names ∙ ap (λ p. Some (pos p)) (sym there) in
      let new = last_senders place (take (k + 1) ts) lowest n in
      let old = last_senders place (take k ts) lowest n in
      let long : length old ≡ n = length-last_senders place (take k ts) lowest n in
      ext_get_or 0 new (set old j (place + k)) (length-last_senders place (take (k + 1) ts) lowest n ∙ sym (length-set old j (place + k) ∙ long)) (λ e within.
      let below : e < n = omega (arith, length-last_senders place (take (k + 1) ts) lowest n) in
      let pick = λ (b : Bool). if b then place + k else last_sender_from nobody place (take k ts) (lowest + e) in
      last_at place (take (k + 1) ts) lowest n e below ∙ more_at (lowest + e)
      ∙ ap (λ t. pick (is_destination (pos (lowest + e)) t)) is
      ∙ elim (eqb_tells e j) [
        | inl same ↦
            ap pick ((Decides-int_eq (pos (lowest + j)) (pos (lowest + e))).1 (ap (λ m. pos (lowest + m)) (sym same.1)))
            ∙ sym (ap (λ m. get_or (set old j (place + k)) m 0) same.1 ∙ get_or-set_same old j (place + k) 0 (omega (arith, long)))
        | inr other ↦
            ap pick (other_place (lowest + j) (lowest + e) (λ same. other.1 (omega (arith, same))))
            ∙ sym (get_or-set_other old j e (place + k) 0 other.1 ∙ last_at place (take k ts) lowest n e below)
      ])

-- ---- two ranges side by side are one

pub lasts_both : (place : ℕ) (ts : List (Option ℤ)) (lowest n m : ℕ) → last_senders place ts lowest n ++ last_senders place ts (lowest + n) m ≡ last_senders place ts lowest (n + m)
lasts_both place ts lowest n m = search (rules, range_both, map-append)

-- ---- the whole result

module _ (place : ℕ) (ts : List (Option ℤ)) (m : ℕ) (small : place + length ts ≤ nobody) where
  abbrev pub IsReached : ℕ → Type 0
  IsReached k = IsStoredTo place ts m k (count_destinations (take k ts)) (last_senders place (take k ts) 0 m)

  stored_place : (k d : ℕ) (inside : Bool) → ltb d m ≡ inside → get_or ts k None ≡ Some (pos d) → k < length ts → IsReached k → IsReached (k + 1)
  stored_place k d true inside is lt to =
      let lt_m : d < m = ltb-true d m inside in
      stored_more place ts m k (count_destinations (take k ts)) (last_senders place (take k ts) 0 m) small to lt
      (last_senders place (take (k + 1) ts) 0 m) (count_destinations (take (k + 1) ts)) d is lt_m
      (count_by_more_yes is_some ts k None lt (ap is_some is)) (lasts_set place ts 0 m k lt d d lt_m (omega arith) is)
  stored_place k d false inside is lt to =
      stored_outside place ts m k (count_destinations (take k ts)) (last_senders place (take k ts) 0 m) small to lt
      (last_senders place (take (k + 1) ts) 0 m) (count_destinations (take (k + 1) ts)) (pos d) is inside
      (count_by_more_yes is_some ts k None lt (ap is_some is))
      (lasts_other place ts 0 m k lt (λ j from below.
      ap (is_destination (pos j)) is ∙ other_place d j (λ same. false≢true (sym inside ∙ lt-ltb d m (omega (arith, same, below))))))

  stored_destination : (k : ℕ) (t : Option ℤ) → get_or ts k None ≡ t → k < length ts → IsReached k → IsReached (k + 1)
  stored_destination k None is lt to =
      stored_skip place ts m k (count_destinations (take k ts)) (last_senders place (take k ts) 0 m) small to lt
      (last_senders place (take (k + 1) ts) 0 m) (count_destinations (take (k + 1) ts)) is
      (count_by_more_no is_some ts k None lt (ap is_some is)) (lasts_other place ts 0 m k lt (λ j from below. ap (is_destination (pos j)) is))
  stored_destination k (Some (pos d)) is lt to = stored_place k d (ltb d m) refl is lt to
  stored_destination k (Some (negsuc d)) is lt to =
      stored_outside place ts m k (count_destinations (take k ts)) (last_senders place (take k ts) 0 m) small to lt
      (last_senders place (take (k + 1) ts) 0 m) (count_destinations (take (k + 1) ts)) (negsuc d) is refl
      (count_by_more_yes is_some ts k None lt (ap is_some is)) (lasts_other place ts 0 m k lt (λ j from below. ap (is_destination (pos j)) is))

  pub reached : (k : ℕ) → k ≤ length ts → IsReached k
  reached zero le = stored_none place ts m (last_senders place [] 0 m) (nobody_sent 0 m)
  reached (suc k) le = subst IsReached (omega arith) (stored_destination k (get_or ts k None) refl (omega arith) (reached k (omega arith)))

  pub lasts_stored : IsStored place ts (count_destinations ts) m (last_senders place ts 0 m)
  lasts_stored =
      subst (λ us. IsStored place ts (count_destinations us) m (last_senders place us 0 m)) (take_all (length ts) ts (omega arith))
      (stored_all place ts m (length ts) (count_destinations (take (length ts) ts)) (last_senders place (take (length ts) ts) 0 m) (reached (length ts) (omega arith)) (omega arith))

-- ---- whether a destination lies in the range

pub between_out : (lowest end : ℕ) (t : Option ℤ) → is_between lowest end t ≡ false → (d : ℕ) → lowest ≤ d → d < end → is_destination (pos d) t ≡ false
between_out lowest end None out d from below = refl
between_out lowest end (Some (negsuc a)) out d from below = refl
between_out lowest end (Some (pos a)) out d from below =
    other_place a d (λ same. false≢true (sym out ∙ both_true (le-leb lowest a (omega arith)) (lt-ltb a end (omega arith))))

-- ---- what the number of senders tells

bad_told : (fault : Option Fault) → ¬ (None ≡ fault) → true ≡ is_some fault
bad_told None not_none = absurd (not_none refl)
bad_told (Some f) not_none = refl

module _ (ts : List (Option ℤ)) (m : ℕ) (small : length ts ≤ most_places) where
  stored_here : IsStored 0 ts (count_destinations ts) m (last_senders 0 ts 0 m)
  stored_here = lasts_stored 0 ts m (omega (arith, small))

  pub as_many_told : count_sent (last_senders 0 ts 0 m) ≡ count_destinations ts → (last_senders 0 ts 0 m ≡ senders_of 0 ts m) × (false ≡ is_some (first_fault 0 (wrongs m ts)))
  as_many_told same = (stored_here.are_first same, ap is_some (stored_here.no_fault same))

  pub fewer_told : ¬ (count_sent (last_senders 0 ts 0 m) ≡ count_destinations ts) → true ≡ is_some (first_fault 0 (wrongs m ts))
  fewer_told fewer = bad_told (first_fault 0 (wrongs m ts)) (λ right. fewer (stored_here.apart right))
