-- The walks of a simple permute straight into a room: what the marks of the places tell, and what the room holds.
use Rattle.permute_walks.proofs.Cited.{◌≡◌, ◌≢◌, ◌∙◌, ℕ, zero, suc, ◌+◌, ◌<◌, ◌≤◌, Bool, true, false, not, List, [], ◌∷◌, length, filter_map, take, get_or, set, replicate, refl, sym, ap, arith, eqb}
use Rattle.permute_walks.proofs.Cited.{w32, to_z, of_z, FitsSigned, ℤ, pos, negsuc, slice_get, unwrap_or, Some, None, All, false≢true, ltb-true, ne_eqb, to_z-of_z, get_or-map, map-set, take_all}
use Rattle.permute_walks.proofs.Cited.{All-head, All-tail, All-weaker, sum_by-cons, slice_get_past, count_of, all_destinations, first_fault, is_place, wrongs, length-senders_of, nobody_sent}
use Rattle.permute_walks.proofs.Cited.{inside_where_right, right_now, element, count_sent, count_destinations, last_senders, nobody, senders_of, sent_marks, written_over}
use Rattle.permute_walks.proofs.EachSent.{all_take_part, each_sent}
use Rattle.permute_walks.proofs.LastSent.{lasts_set, lasts_stored, reached}
use Rattle.cvl_base.proofs.Permutes.{length-all_destinations}

-- ---- marks

pub none_marked : (m : ℕ) → sent_marks (replicate m nobody) ≡ replicate m false
none_marked zero = refl
none_marked (suc m) = ap (λ rest. false ∷ rest) (none_marked m)

pub count_marked : (senders : List ℕ) → count_of (sent_marks senders) ≡ count_sent senders
count_marked [] = refl
count_marked (s ∷ senders) = omega (arith, sum_by-cons, count_marked senders)

-- one more place is sent
pub marked_set : (senders : List ℕ) (d k : ℕ) → k ≢ nobody → sent_marks (set senders d k) ≡ set (sent_marks senders) d true
marked_set senders d k other = map-set (λ s. not (eqb s nobody)) senders d k ∙ ap (set (sent_marks senders) d) (ap not (ne_eqb k nobody other))

-- where a place that is inside is read without its sign
pub named_below : (m : ℕ) (i : ℤ) (named : ℕ) → FitsSigned w32 i → named ≡ of_z w32 (to_z w32 (of_z w32 i)) → is_place m i ≡ true → named < m
named_below m (pos d) named fits cast inside =
    let same : named ≡ d = cast ∙ ap (of_z w32) (to_z-of_z w32 (pos d) fits) in omega (arith, same, ltb-true d m inside)
named_below m (negsuc d) named fits cast inside = absurd (false≢true inside)

-- ---- the room

-- one more place is sent
pub written_set : {X : Type 0} (source : List X) (senders : List ℕ) (values : List X) (d k : ℕ) (x : X) → slice_get source k ≡ Some x
    → written_over source (set senders d k) values ≡ set (written_over source senders values) d x
written_set source [] values d k x is = refl
written_set source (s ∷ senders) [] zero k x is = refl
written_set source (s ∷ senders) [] (suc d) k x is = refl
written_set source (s ∷ senders) (v ∷ values) zero k x is = ap (λ o. unwrap_or o v ∷ written_over source senders values) is
written_set source (s ∷ senders) (v ∷ values) (suc d) k x is = cc (written_set source senders values d k x is)

-- nobody was sent
written_none : {X : Type 0} (source values : List X) → length source ≤ nobody → written_over source (replicate (length values) nobody) values ≡ values
written_none source [] small = refl
written_none source (v ∷ values) small =
    let none = slice_get_past source nobody small in
    let rest = written_none source values small in
    λ i. unwrap_or (none i) v ∷ rest i

pub nobody_written : {X : Type 0} (source values : List X) (lowest : ℕ) → length source ≤ nobody → written_over source (last_senders 0 [] lowest (length values)) values ≡ values
nobody_written source values lowest small = ap (λ ss. written_over source ss values) (nobody_sent lowest (length values)) ∙ written_none source values small

-- somebody was sent to each place
pub written_all : {X : Type 0} (source : List X) (senders : List ℕ) (values : List X) → length senders ≡ length values → All (λ s. s < length source) senders
    → written_over source senders values ≡ filter_map (slice_get source) senders
written_all source [] values long below = refl
written_all source (s ∷ senders) [] long below = absurd (omega arith)
written_all source (s ∷ senders) (v ∷ values) long below =
    let some = (element source s (All-head (λ s. s < length source) s senders below)).1 in
    let rest = written_all source senders values (omega arith) (All-tail (λ s. s < length source) s senders below) in
    cc (some, rest)

-- ---- the walks

module _ (index : List ℤ) (m : ℕ) (few : length index ≤ nobody) where
  small : 0 + length (all_destinations index) ≤ nobody
  small = omega (arith, length-all_destinations index)

  -- the senders after the first k places
  abbrev pub lasts : ℕ → List ℕ
  lasts k = last_senders 0 (take k (all_destinations index)) 0 m

  all_lasts : (k : ℕ) → length index ≤ k → lasts k ≡ last_senders 0 (all_destinations index) 0 m
  all_lasts k ge = ap (λ us. last_senders 0 us 0 m) (take_all k (all_destinations index) (omega (arith, length-all_destinations index)))

  pub marks_none : replicate m false ≡ sent_marks (lasts 0)
  marks_none = sym (ap sent_marks (nobody_sent 0 m) ∙ none_marked m)

  module _ (k : ℕ) (lt : k < length index) where
    this : get_or (all_destinations index) k None ≡ Some (get_or index k (pos 0))
    this = get_or-map (λ i. Some i) index k (pos 0) None lt

    within : k < length (all_destinations index)
    within = omega (arith, length-all_destinations index)

    -- where no place is bad, this one's index is inside
    pub right_inside : None ≡ first_fault 0 (wrongs m (all_destinations index)) → is_place m (get_or index k (pos 0)) ≡ true
    right_inside right =
        let to = reached 0 (all_destinations index) m small k (omega (arith, within)) in
        ap (λ n. is_place n (get_or index k (pos 0))) (sym to.as_long)
        ∙ inside_where_right (lasts k) (get_or index k (pos 0))
        (right_now 0 (all_destinations index) m k (count_destinations (take k (all_destinations index))) (lasts k) small to within (get_or index k (pos 0)) this right)

    module _ (d : ℕ) (names : get_or index k (pos 0) ≡ pos d) (below : d < m) where
      sets : lasts (k + 1) ≡ set (lasts k) d k
      sets =
          lasts_set 0 (all_destinations index) 0 m k within d d below (omega arith) (this ∙ ap (λ i. Some i) names)
          ∙ ap (set (lasts k) d) (omega arith)

      pub marks_more : (marks : List Bool) → marks ≡ sent_marks (lasts k) → set marks d true ≡ sent_marks (lasts (k + 1))
      marks_more marks are = cc (are, marked_set (lasts k) d k (λ same. omega arith), sets)

      pub room_more : {X : Type 0} (source old room : List X) (x : X) → slice_get source k ≡ Some x → room ≡ written_over source (lasts k) old
          → set room d x ≡ written_over source (lasts (k + 1)) old
      room_more source old room x is are = cc (are, written_set source (lasts k) old d k x is, sets)

  -- the marks are as many as the indices exactly where no place is bad
  pub marks_tell : count_of (sent_marks (last_senders 0 (all_destinations index) 0 m)) ≡ length index → None ≡ first_fault 0 (wrongs m (all_destinations index))
  marks_tell all =
      (lasts_stored 0 (all_destinations index) m small).no_fault
      (sym (count_marked (last_senders 0 (all_destinations index) 0 m)) ∙ all ∙ sym (all_take_part index))

  pub marks_full : None ≡ first_fault 0 (wrongs m (all_destinations index)) → count_of (sent_marks (last_senders 0 (all_destinations index) 0 m)) ≡ length index
  marks_full right = cc (count_marked (last_senders 0 (all_destinations index) 0 m), (lasts_stored 0 (all_destinations index) m small).apart right, all_take_part index)

  module _ {X : Type 0} (source old : List X) (sourced : length source ≡ length index) (long : length old ≡ m) where
    pub room_none : old ≡ written_over source (lasts 0) old
    room_none = sym (ap (λ n. written_over source (last_senders 0 [] 0 n) old) (sym long) ∙ nobody_written source old 0 (omega arith))

    pub room_all : m ≡ length index → (k : ℕ) → length index ≤ k → None ≡ first_fault 0 (wrongs m (all_destinations index))
        → written_over source (lasts k) old ≡ filter_map (slice_get source) (senders_of 0 (all_destinations index) m)
    room_all same k ge right =
        let ts = all_destinations index in
        let stored = lasts_stored 0 ts m small in
        ap (λ ss. written_over source ss old) (all_lasts k ge ∙ stored.are_first (stored.apart right))
        ∙ written_all source (senders_of 0 ts m) old (length-senders_of 0 ts m ∙ sym long)
        (All-weaker (λ s. s < 0 + length ts) (λ s. s < length source) (λ s below. omega (arith, length-all_destinations index)) (senders_of 0 ts m)
        (each_sent 0 ts m small right (all_take_part index ∙ sym same)))
