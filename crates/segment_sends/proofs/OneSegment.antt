-- The walks of a simple permute over one segment: what the bits of a word tell, which mark the places of a short one, and what one
-- index is that is a permutation.
use Rattle.std.proofs.Common.{◌≡◌, ◌∙◌, ℕ, zero, suc, ◌+◌, ◌<◌, ◌≤◌, Bool, false, true, List, [], ◌∷◌, length, filter_map, get_or, replicate, set, take, refl, sym, ap, arith}
use Rattle.std.proofs.Common.{count_ones, ℤ, pos, negsuc, slice_get, Some, None}
use Rattle.std.specs.Simd.Lanes.{mask_l}
use Rattle.std.proofs.lemmas.Bool.{false≢true, ltb-true}
use Rattle.std.proofs.lemmas.List.{length-map, map-id, take_all}
use Rattle.std.proofs.lemmas.Simd.{ones-mask_l}
use Rattle.cvl_base.specs.Packs.{count_of}
use Rattle.cvl_base.specs.Permutes.{all_destinations, first_fault, is_place, wrongs}
use Rattle.cvl_base.proofs.Permutes.{length-all_destinations}
use Rattle.permute_walks.specs.Senders.{last_senders, nobody, senders_of, sent_marks}
use Rattle.permute_walks.proofs.LastSent.{length-last_senders}
use Rattle.permute_walks.proofs.MarkWords.{mask_set, with_bit}
use Rattle.permute_walks.proofs.Scattered.{marks_full, marks_more, marks_none, marks_tell, right_inside}

-- ---- the bits of a word

no_bit : (m : ℕ) → mask_l (replicate m false) ≡ 0
no_bit zero = refl
no_bit (suc m) = omega (arith, no_bit m)

module _ (index : List ℤ) (short : length index ≤ 32) where
  pub few : length index ≤ nobody
  few = omega (arith, short)

  -- the marks after the first k places
  abbrev marks : ℕ → List Bool
  marks k = sent_marks (last_senders 0 (take k (all_destinations index)) 0 (length index))

  long : (k : ℕ) → length (marks k) ≡ length index
  long k =
      let senders = last_senders 0 (take k (all_destinations index)) 0 (length index) in
      length-map senders _ ∙ length-last_senders 0 (take k (all_destinations index)) 0 (length index)

  abbrev pub bits : ℕ → ℕ
  bits k = mask_l (marks k)

  pub bits_none : 0 ≡ bits 0
  bits_none = sym (no_bit (length index)) ∙ ap mask_l (marks_none index (length index) few)

  pub bits_more : (k d word : ℕ) → k < length index → get_or index k (pos 0) ≡ pos d → d < length index → word ≡ bits k → with_bit word d ≡ bits (k + 1)
  bits_more k d word lt names below is =
      ap (λ w. with_bit w d) is
      ∙ sym (mask_set (marks k) d (omega (arith, long k, below)) (omega (arith, below, short)))
      ∙ ap mask_l (marks_more index (length index) few k lt d names below (marks k) refl)

  -- as many bits as places exactly where no index is bad
  module _ (k : ℕ) (ge : length index ≤ k) (word : ℕ) (is : word ≡ bits k) where
    abbrev all_marks : List Bool
    all_marks = sent_marks (last_senders 0 (all_destinations index) 0 (length index))

    counted : count_ones word ≡ count_of all_marks
    counted =
        ap count_ones is
        ∙ ap (λ ts. count_ones (mask_l (sent_marks (last_senders 0 ts 0 (length index))))) (take_all k (all_destinations index) (omega (arith, length-all_destinations index, ge)))
        ∙ ap (λ ms. count_ones (mask_l ms)) (sym (map-id all_marks))
        ∙ ones-mask_l (λ m. m) all_marks

    pub bits_tell : count_ones word ≡ length index → None ≡ first_fault 0 (wrongs (length index) (all_destinations index))
    bits_tell same = marks_tell index (length index) few (sym counted ∙ same)

    pub bits_full : None ≡ first_fault 0 (wrongs (length index) (all_destinations index)) → count_ones word ≡ length index
    bits_full right = counted ∙ marks_full index (length index) few right

-- ---- a segment of one place

place_one : (i : ℤ) → is_place 1 i ≡ true → i ≡ pos 0
place_one (pos d) inside = let same : d ≡ 0 = omega (arith, ltb-true d 1 inside) in ap (λ k. pos k) same
place_one (negsuc d) inside = absurd (false≢true inside)

one_named : (i : ℤ) → None ≡ first_fault 0 (wrongs 1 (Some i ∷ [])) → i ≡ pos 0
one_named i right = place_one i (right_inside (i ∷ []) 1 (omega arith) 0 (omega arith) right)

pub one_sent : {X : Type 0} (source out : List X) (index : List ℤ) (x : X) → length index ≡ 1 → length source ≡ length index → length out ≡ length index
    → None ≡ first_fault 0 (wrongs (length index) (all_destinations index)) → x ≡ get_or source 0 x
    → set out 0 x ≡ filter_map (slice_get source) (senders_of 0 (all_destinations index) (length index))
one_sent source out [] x one sourced long right is = absurd (omega (arith, one))
one_sent source out (i ∷ j ∷ index) x one sourced long right is = absurd (omega (arith, one))
one_sent [] out (i ∷ []) x one sourced long right is = absurd (omega (arith, sourced))
one_sent (y ∷ z ∷ source) out (i ∷ []) x one sourced long right is = absurd (omega (arith, sourced))
one_sent (y ∷ []) [] (i ∷ []) x one sourced long right is = absurd (omega (arith, long))
one_sent (y ∷ []) (o ∷ p ∷ out) (i ∷ []) x one sourced long right is = absurd (omega (arith, long))
one_sent (y ∷ []) (o ∷ []) (i ∷ []) x one sourced long right is =
    ap (λ e. e ∷ []) is ∙ sym (ap (λ j. filter_map (slice_get (y ∷ [])) (senders_of 0 (Some j ∷ []) 1)) (one_named i right))
