-- The families of calls that go segment by segment: each is made of the calls on its parts.
use Rattle.std.proofs.Common.{◌≡◌, ◌∙◌, ◌++◌, ◌≤◌, ℕ, ℤ, Bool, List, length, map, sum, Result, Ok, Option, Some, refl, sym, ap, arith}
use Rattle.std.proofs.Common.{All, get_or, unsigned_abs}
use mathlib.Core.List.{map-map}
use Rattle.std.proofs.lemmas.List.{length-map, map-id}
use Rattle.std.proofs.lemmas.Slice.Zip.{length-zip}
use Rattle.std.specs.List.{zip}
use Rattle.combining_permutes.specs.CombiningPermutes.{combine_of, place_counts_of, seg_combine_of, seg_place_counts_of}
use Rattle.cvl_base.proofs.Elementwise.{if_as_long-fits}
use Rattle.cvl_base.proofs.Nests.{length-cut}
use Rattle.cvl_base.specs.declared.fault.Fault.{Fault}
use Rattle.cvl_base.specs.Elementwise.{if_as_long}
use Rattle.cvl_base.specs.Extracts.{extract_of, replace_of}
use Rattle.cvl_base.specs.Gives.{◌>>=◌}
use Rattle.cvl_base.specs.Limits.{most_places}
use Rattle.cvl_base.specs.Lists.{joined}
use Rattle.cvl_base.specs.Nests.{cut_of, nest}
use Rattle.cvl_base.specs.Permutes.{all_destinations, back_of, default_of, destination_if, flagged_destinations, select_of, simple_of}
use Rattle.cvl_base.specs.Segmented.{at_segment, beside, end_to_end, in_vector, of_three, of_two}
use Rattle.cvl_base.specs.SegmentedCalls.{seg_back_of, seg_default_of, seg_extract_of, seg_replace_of, seg_select_of, seg_simple_of}
use Rattle.first_senders.specs.FirstSenders.{first_senders_to, seg_first_senders_of, seg_first_senders_to, seg_select_first_senders_of}
use Rattle.flag_calls.specs.Flags.{as_flag, made_flags}
use Rattle.flag_merges.specs.Merges.{seg_merge_of, segment_merge_of}
use Rattle.orders.specs.SortsByKey.{keys_by, seg_sort_by_key_of, values_by}
use Rattle.segment_slices.specs.Pairs.{append_segments_of}
use Rattle.segment_values.specs.Values.{each_of}
use Rattle.c_calls.specs.Calls.{by_operator, by_segments, in_limit, lengths_of}
use Rattle.step_laws.proofs.BySegments.{by-lengths, by-limit, made_by_lengths, made_by_limit, sizes}
use Rattle.step_laws.proofs.MadeOf.{Cuts, as-many, cuts-beside, cuts-given, cuts-nest, in_rows, made-certain, made-lists, made-next, made-values, made_alike, made_by_certain}
use Rattle.step_laws.proofs.MadeOf.{map-joined, row-joined, zip-all}
use Rattle.step_laws.specs.SegmentCalls.{AddUp, AreMadeOf, AsMany, IsMadeOf, both_joined, of_all}

-- ---- the segments of two vectors and of three

module _ {P : Type 0} (parts : List P) where
  cut-alike : {A B : Type 0} (d e : P → List ℕ) (xs : P → List A) (ys : P → List B) → All (λ p. length (d p) ≡ length (e p)) parts
      → All (λ p. length (cut_of (d p) (xs p)) ≡ length (cut_of (e p) (ys p))) parts
  cut-alike d e xs ys many =
      λ k x lt. let p = get_or parts k x in length-cut (d p) (xs p) ∙ many k x lt ∙ sym (length-cut (e p) (ys p))

  cuts-two : {A B : Type 0} (d e : P → List ℕ) (xs : P → List A) (ys : P → List B) → All (λ p. sum (d p) ≡ length (xs p)) parts → All (λ p. sum (e p) ≡ length (ys p)) parts
      → All (λ p. length (d p) ≡ length (e p)) parts
      → Cuts parts (beside (nest (joined (map d parts)) (joined (map xs parts))) (nest (joined (map e parts)) (joined (map ys parts)))) (λ p. beside (nest (d p) (xs p)) (nest (e p) (ys p)))
      (λ p. zip (cut_of (d p) (xs p)) (cut_of (e p) (ys p)))
  cuts-two d e xs ys fits also_fits many =
      cuts-beside parts (nest (joined (map d parts)) (joined (map xs parts))) (nest (joined (map e parts)) (joined (map ys parts))) (λ p. nest (d p) (xs p)) (λ p. nest (e p) (ys p))
      (λ p. cut_of (d p) (xs p)) (λ p. cut_of (e p) (ys p)) (cuts-nest d xs parts fits) (cuts-nest e ys parts also_fits) (cut-alike d e xs ys many)

  -- each part has as many pairs as segments
  pairs-long : {A B : Type 0} (d e : P → List ℕ) (xs : P → List A) (ys : P → List B) → All (λ p. length (d p) ≡ length (e p)) parts
      → All (λ p. length (zip (cut_of (d p) (xs p)) (cut_of (e p) (ys p))) ≡ length (d p)) parts
  pairs-long d e xs ys many =
      λ k x lt. let p = get_or parts k x in
      omega (arith, length-zip (cut_of (d p) (xs p)) (cut_of (e p) (ys p)), length-cut (d p) (xs p), length-cut (e p) (ys p), many k x lt)

  cuts-three : {A B C : Type 0} (d e g : P → List ℕ) (xs : P → List A) (ys : P → List B) (zs : P → List C) → All (λ p. sum (d p) ≡ length (xs p)) parts
      → All (λ p. sum (e p) ≡ length (ys p)) parts → All (λ p. sum (g p) ≡ length (zs p)) parts → All (λ p. length (d p) ≡ length (e p)) parts
      → All (λ p. length (d p) ≡ length (g p)) parts
      → Cuts parts (beside (beside (nest (joined (map d parts)) (joined (map xs parts))) (nest (joined (map e parts)) (joined (map ys parts)))) (nest (joined (map g parts)) (joined (map zs parts))))
      (λ p. beside (beside (nest (d p) (xs p)) (nest (e p) (ys p))) (nest (g p) (zs p))) (λ p. zip (zip (cut_of (d p) (xs p)) (cut_of (e p) (ys p))) (cut_of (g p) (zs p)))
  cuts-three d e g xs ys zs fits also_fits fits_too many also_many =
      cuts-beside parts (beside (nest (joined (map d parts)) (joined (map xs parts))) (nest (joined (map e parts)) (joined (map ys parts)))) (nest (joined (map g parts)) (joined (map zs parts)))
      (λ p. beside (nest (d p) (xs p)) (nest (e p) (ys p))) (λ p. nest (g p) (zs p)) (λ p. zip (cut_of (d p) (xs p)) (cut_of (e p) (ys p))) (λ p. cut_of (g p) (zs p))
      (cuts-two d e xs ys fits also_fits many) (cuts-nest g zs parts fits_too)
      (λ k x lt. let p = get_or parts k x in pairs-long d e xs ys many k x lt ∙ also_many k x lt ∙ sym (length-cut (g p) (zs p)))

  -- lengths that differ in sign alone are as many
  sizes-many : (lengths others : P → List ℤ) → AsMany lengths others parts → All (λ p. length (sizes lengths p) ≡ length (sizes others p)) parts
  sizes-many lengths others many =
      λ k x lt. let p = get_or parts k x in length-map (lengths p) unsigned_abs ∙ many k x lt ∙ sym (length-map (others p) unsigned_abs)

  -- and a list for each is as long
  given-many : {A B : Type 0} (lengths : P → List ℤ) (xs : P → List A) (values : P → List B) → AsMany values lengths parts
      → All (λ p. length (cut_of (sizes lengths p) (xs p)) ≡ length (values p)) parts
  given-many lengths xs values many =
      λ k x lt. let p = get_or parts k x in length-cut (sizes lengths p) (xs p) ∙ length-map (lengths p) unsigned_abs ∙ sym (many k x lt)

  itself : {A : Type 0} (own : P → List A) → All (λ p. length (own p) ≡ length (own p)) parts
  itself own = λ k x lt. refl

-- a call with a list for each of the segments that are cut
lists : {P S X : Type 0} {parts : List P} {whole : Result (List S) Fault} {own : P → Result (List S) Fault} {segments : P → List S} (call : S → Result (List X) Fault)
    (place : ℕ → ℕ → ℕ) (own_place : P → ℕ → ℕ → ℕ) → Cuts parts whole own segments → IsMadeOf (end_to_end place call whole) (map (λ p. end_to_end (own_place p) call (own p)) parts)
lists {parts = parts} {whole = whole} {own = own} {segments = segments} call place own_place cuts = made-lists call place own_place parts whole own segments cuts

-- ---- permutes

module _ {P X : Type 0} (parts : List P) (source : P → List X) (index lengths : P → List ℤ) (segments : List ℕ) (are : lengths_of (of_all lengths parts) ≡ Ok segments)
    (few : length (of_all index parts) ≤ most_places) (sources : AddUp lengths source parts) where
  pub simple : AddUp lengths index parts
      → IsMadeOf (by_segments (of_all lengths parts) (λ d. in_limit (of_all index parts) (seg_simple_of (of_all source parts) (of_all index parts) d)))
      (map (λ p. by_segments (lengths p) (λ d. in_limit (index p) (seg_simple_of (source p) (index p) d))) parts)
  simple indices =
      let all = joined (map (sizes lengths) parts) in
      by-lengths lengths parts segments are (λ d. in_limit (of_all index parts) (seg_simple_of (of_all source parts) (of_all index parts) d))
      (λ p d. in_limit (index p) (seg_simple_of (source p) (index p) d))
      (by-limit index parts (seg_simple_of (of_all source parts) (of_all index parts) all) (λ p. seg_simple_of (source p) (index p) (sizes lengths p)) few
      (lists (of_two simple_of) (in_vector all) (λ p. in_vector (sizes lengths p))
      (cuts-two parts (sizes lengths) (sizes lengths) source index sources indices (itself parts (sizes lengths)))))

  pub select : (flags : P → List Bool) → AddUp lengths index parts → AddUp lengths flags parts
      → IsMadeOf (by_segments (of_all lengths parts) (λ d. in_limit (of_all index parts) (seg_select_of (of_all source parts) (of_all index parts) (of_all flags parts) d)))
      (map (λ p. by_segments (lengths p) (λ d. in_limit (index p) (seg_select_of (source p) (index p) (flags p) d))) parts)
  select flags indices flagged =
      let all = joined (map (sizes lengths) parts) in
      by-lengths lengths parts segments are (λ d. in_limit (of_all index parts) (seg_select_of (of_all source parts) (of_all index parts) (of_all flags parts) d))
      (λ p d. in_limit (index p) (seg_select_of (source p) (index p) (flags p) d))
      (by-limit index parts (seg_select_of (of_all source parts) (of_all index parts) (of_all flags parts) all)
      (λ p. seg_select_of (source p) (index p) (flags p) (sizes lengths p)) few
      (lists (of_three select_of) (in_vector all) (λ p. in_vector (sizes lengths p))
      (cuts-three parts (sizes lengths) (sizes lengths) (sizes lengths) source index flags sources indices flagged (itself parts (sizes lengths)) (itself parts (sizes lengths)))))

  module _ (others : P → List ℤ) (also : List ℕ) (are_also : lengths_of (of_all others parts) ≡ Ok also) (many : AsMany lengths others parts) where
    pub default-into : (defaults : P → List X) → AddUp lengths index parts → AddUp others defaults parts
        → IsMadeOf (by_segments (of_all lengths parts) (λ d. by_segments (of_all others parts)
        (λ e. in_limit (of_all index parts) (seg_default_of (of_all source parts) (of_all index parts) (of_all defaults parts) d e))))
        (map (λ p. by_segments (lengths p) (λ d. by_segments (others p) (λ e. in_limit (index p) (seg_default_of (source p) (index p) (defaults p) d e)))) parts)
    default-into defaults indices defaulted =
        let all = joined (map (sizes lengths) parts) in let more = joined (map (sizes others) parts) in
        by-lengths lengths parts segments are
        (λ d. by_segments (of_all others parts) (λ e. in_limit (of_all index parts) (seg_default_of (of_all source parts) (of_all index parts) (of_all defaults parts) d e)))
        (λ p d. by_segments (others p) (λ e. in_limit (index p) (seg_default_of (source p) (index p) (defaults p) d e)))
        (by-lengths others parts also are_also (λ e. in_limit (of_all index parts) (seg_default_of (of_all source parts) (of_all index parts) (of_all defaults parts) all e))
        (λ p e. in_limit (index p) (seg_default_of (source p) (index p) (defaults p) (sizes lengths p) e))
        (by-limit index parts (seg_default_of (of_all source parts) (of_all index parts) (of_all defaults parts) all more)
        (λ p. seg_default_of (source p) (index p) (defaults p) (sizes lengths p) (sizes others p)) few
        (lists (of_three default_of) (in_vector all) (λ p. in_vector (sizes lengths p))
        (cuts-three parts (sizes lengths) (sizes lengths) (sizes others) source index defaults sources indices defaulted (itself parts (sizes lengths))
        (sizes-many parts lengths others many)))))

    pub back : AddUp others index parts
        → IsMadeOf (by_segments (of_all lengths parts) (λ d. by_segments (of_all others parts) (λ e. in_limit (of_all index parts) (seg_back_of (of_all source parts) (of_all index parts) d e))))
        (map (λ p. by_segments (lengths p) (λ d. by_segments (others p) (λ e. in_limit (index p) (seg_back_of (source p) (index p) d e)))) parts)
    back indices =
        let all = joined (map (sizes lengths) parts) in let more = joined (map (sizes others) parts) in
        by-lengths lengths parts segments are (λ d. by_segments (of_all others parts) (λ e. in_limit (of_all index parts) (seg_back_of (of_all source parts) (of_all index parts) d e)))
        (λ p d. by_segments (others p) (λ e. in_limit (index p) (seg_back_of (source p) (index p) d e)))
        (by-lengths others parts also are_also (λ e. in_limit (of_all index parts) (seg_back_of (of_all source parts) (of_all index parts) all e))
        (λ p e. in_limit (index p) (seg_back_of (source p) (index p) (sizes lengths p) e))
        (by-limit index parts (seg_back_of (of_all source parts) (of_all index parts) all more) (λ p. seg_back_of (source p) (index p) (sizes lengths p) (sizes others p)) few
        (lists (of_two back_of) (in_vector more) (λ p. in_vector (sizes others p))
        (cuts-two parts (sizes lengths) (sizes others) source index sources indices (sizes-many parts lengths others many)))))

-- ---- what is sent

module _ {P : Type 0} (parts : List P) (lengths others : P → List ℤ) (segments also : List ℕ) (are : lengths_of (of_all lengths parts) ≡ Ok segments)
    (are_also : lengths_of (of_all others parts) ≡ Ok also) (many : AsMany lengths others parts) where
  -- a value for each segment is as many
  one-each : {A : Type 0} (xs : P → List A) → All (λ p. length (cut_of (sizes lengths p) (xs p)) ≡ length (sizes others p)) parts
  one-each xs = λ k x lt. let p = get_or parts k x in length-cut (sizes lengths p) (xs p) ∙ sizes-many parts lengths others many k x lt

  -- calls by two lists of lengths
  pub by-two : {Y : Type 0} (whole : List ℕ → List ℕ → Result (List Y) Fault) (own : P → List ℕ → List ℕ → Result (List Y) Fault)
      → IsMadeOf (whole (joined (map (sizes lengths) parts)) (joined (map (sizes others) parts))) (map (λ p. own p (sizes lengths p) (sizes others p)) parts)
      → IsMadeOf (by_segments (of_all lengths parts) (λ d. by_segments (of_all others parts) (whole d)))
      (map (λ p. by_segments (lengths p) (λ d. by_segments (others p) (own p d))) parts)
  by-two whole own made =
      by-lengths lengths parts segments are (λ d. by_segments (of_all others parts) (whole d)) (λ p d. by_segments (others p) (own p d))
      (by-lengths others parts also are_also (whole (joined (map (sizes lengths) parts))) (λ p. own p (sizes lengths p)) made)

  made-senders : (destinations : P → List (Option ℤ)) → All (λ p. sum (sizes lengths p) ≡ length (destinations p)) parts
      → IsMadeOf (seg_first_senders_to (joined (map destinations parts)) (joined (map (sizes lengths) parts)) (joined (map (sizes others) parts)))
      (map (λ p. seg_first_senders_to (destinations p) (sizes lengths p) (sizes others p)) parts)
  made-senders destinations fit =
      lists (of_two first_senders_to) (in_vector (joined (map (sizes lengths) parts))) (λ p. in_vector (sizes lengths p))
      (cuts-beside parts (nest (joined (map (sizes lengths) parts)) (joined (map destinations parts))) (Ok (joined (map (sizes others) parts)))
      (λ p. nest (sizes lengths p) (destinations p)) (λ p. Ok (sizes others p)) (λ p. cut_of (sizes lengths p) (destinations p)) (sizes others)
      (cuts-nest (sizes lengths) destinations parts fit) (cuts-given (sizes others) parts) (one-each destinations))

  module _ (index : P → List ℤ) (indices : AddUp lengths index parts) where
    pub first : length (of_all index parts) ≤ most_places
        → IsMadeOf (by_segments (of_all lengths parts) (λ d. by_segments (of_all others parts) (λ e. in_limit (of_all index parts) (seg_first_senders_of (of_all index parts) d e))))
        (map (λ p. by_segments (lengths p) (λ d. by_segments (others p) (λ e. in_limit (index p) (seg_first_senders_of (index p) d e)))) parts)
    first few =
        let all = joined (map (sizes lengths) parts) in let more = joined (map (sizes others) parts) in
        let fit : All (λ p. sum (sizes lengths p) ≡ length (all_destinations (index p))) parts =
        λ k x lt. let p = get_or parts k x in indices k x lt ∙ sym (length-map (index p) (λ i. Some i)) in
        by-two (λ d e. in_limit (of_all index parts) (seg_first_senders_of (of_all index parts) d e)) (λ p d e. in_limit (index p) (seg_first_senders_of (index p) d e))
        (by-limit index parts (seg_first_senders_of (of_all index parts) all more) (λ p. seg_first_senders_of (index p) (sizes lengths p) (sizes others p)) few
        (made_alike parts (seg_first_senders_to (joined (map (λ p. all_destinations (index p)) parts)) all more) (seg_first_senders_of (of_all index parts) all more)
        (λ p. seg_first_senders_to (all_destinations (index p)) (sizes lengths p) (sizes others p)) (λ p. seg_first_senders_of (index p) (sizes lengths p) (sizes others p))
        (ap (λ destinations. seg_first_senders_to destinations all more) (map-joined (λ i. Some i) index parts)) (λ k x lt. refl)
        (made-senders (λ p. all_destinations (index p)) fit)))

    pub select-first : (flags : P → List Bool) → length (of_all index parts) ≤ most_places → AddUp lengths flags parts
        → IsMadeOf (by_segments (of_all lengths parts) (λ d. by_segments (of_all others parts)
        (λ e. in_limit (of_all index parts) (seg_select_first_senders_of (of_all index parts) (of_all flags parts) d e))))
        (map (λ p. by_segments (lengths p) (λ d. by_segments (others p) (λ e. in_limit (index p) (seg_select_first_senders_of (index p) (flags p) d e)))) parts)
    select-first flags few flagged =
        let all = joined (map (sizes lengths) parts) in let more = joined (map (sizes others) parts) in
        let same : AsMany index flags parts = λ k x lt. sym (indices k x lt) ∙ flagged k x lt in
        let fit : All (λ p. sum (sizes lengths p) ≡ length (flagged_destinations (index p) (flags p))) parts =
        λ k x lt. let p = get_or parts k x in
        omega (arith, indices k x lt, same k x lt, length-zip (index p) (flags p), length-map (zip (index p) (flags p)) (λ q. destination_if q.0 q.1)) in
        by-two (λ d e. in_limit (of_all index parts) (seg_select_first_senders_of (of_all index parts) (of_all flags parts) d e))
        (λ p d e. in_limit (index p) (seg_select_first_senders_of (index p) (flags p) d e))
        (by-limit index parts (seg_select_first_senders_of (of_all index parts) (of_all flags parts) all more)
        (λ p. seg_select_first_senders_of (index p) (flags p) (sizes lengths p) (sizes others p)) few
        (made_alike parts (seg_first_senders_to (joined (map (λ p. flagged_destinations (index p) (flags p)) parts)) all more)
        (seg_select_first_senders_of (of_all index parts) (of_all flags parts) all more)
        (λ p. seg_first_senders_to (flagged_destinations (index p) (flags p)) (sizes lengths p) (sizes others p))
        (λ p. seg_select_first_senders_of (index p) (flags p) (sizes lengths p) (sizes others p))
        (if_as_long-fits (of_all index parts) (of_all flags parts) _ (as-many index flags parts same)
        ∙ ap (λ pairs. seg_first_senders_to (map (λ q. destination_if q.0 q.1) pairs) all more) (zip-all index flags parts same)
        ∙ ap (λ destinations. seg_first_senders_to destinations all more) (map-joined (λ q. destination_if q.0 q.1) (λ p. zip (index p) (flags p)) parts))
        (λ k x lt. let p = get_or parts k x in if_as_long-fits (index p) (flags p) _ (same k x lt))
        (made-senders (λ p. flagged_destinations (index p) (flags p)) fit)))

    pub counted : IsMadeOf (by_segments (of_all lengths parts) (λ d. by_segments (of_all others parts) (seg_place_counts_of (of_all index parts) d)))
        (map (λ p. by_segments (lengths p) (λ d. by_segments (others p) (seg_place_counts_of (index p) d))) parts)
    counted =
        by-two (seg_place_counts_of (of_all index parts)) (λ p. seg_place_counts_of (index p))
        (lists (of_two place_counts_of) (in_vector (joined (map (sizes lengths) parts))) (λ p. in_vector (sizes lengths p))
        (cuts-beside parts (nest (joined (map (sizes lengths) parts)) (of_all index parts)) (Ok (joined (map (sizes others) parts)))
        (λ p. nest (sizes lengths p) (index p)) (λ p. Ok (sizes others p)) (λ p. cut_of (sizes lengths p) (index p)) (sizes others)
        (cuts-nest (sizes lengths) index parts indices) (cuts-given (sizes others) parts) (one-each index)))

    module _ {X : Type 0} (source room : P → List X) (sources : AddUp lengths source parts) (rooms : AddUp others room parts) where
      pub made-combined : (join : X → X → X)
          → IsMadeOf (seg_combine_of join (of_all source parts) (of_all index parts) (joined (map (sizes lengths) parts)) (joined (map (sizes others) parts)) (of_all room parts))
          (map (λ p. seg_combine_of join (source p) (index p) (sizes lengths p) (sizes others p) (room p)) parts)
      made-combined join =
          lists (of_three (combine_of join)) (in_vector (joined (map (sizes lengths) parts))) (λ p. in_vector (sizes lengths p))
          (cuts-three parts (sizes lengths) (sizes lengths) (sizes others) source index room sources indices rooms (itself parts (sizes lengths)) (sizes-many parts lengths others many))

      pub combined : {O : Type 0} (operator : Result O Fault) (join_of : O → X → X → X) (o : O) → operator ≡ Ok o
          → IsMadeOf (by_operator operator (λ op. by_segments (of_all lengths parts) (λ d. by_segments (of_all others parts)
          (λ e. seg_combine_of (join_of op) (of_all source parts) (of_all index parts) d e (of_all room parts)))))
          (map (λ p. by_operator operator (λ op. by_segments (lengths p) (λ d. by_segments (others p) (λ e. seg_combine_of (join_of op) (source p) (index p) d e (room p))))) parts)
      combined {O = O} operator join_of o is =
          let whole : O → Result (List X) Fault = λ op. by_segments (of_all lengths parts) (λ d. by_segments (of_all others parts)
          (λ e. seg_combine_of (join_of op) (of_all source parts) (of_all index parts) d e (of_all room parts))) in
          let own : P → O → Result (List X) Fault = λ p op. by_segments (lengths p) (λ d. by_segments (others p) (λ e. seg_combine_of (join_of op) (source p) (index p) d e (room p))) in
          made_alike parts (whole o) (by_operator operator whole) (λ p. own p o) (λ p. by_operator operator (own p)) (ap (λ r. r >>= whole) is)
          (λ k x lt. ap (λ r. r >>= own (get_or parts k x)) is)
          (by-two (λ d e. seg_combine_of (join_of o) (of_all source parts) (of_all index parts) d e (of_all room parts))
          (λ p d e. seg_combine_of (join_of o) (source p) (index p) d e (room p)) (made-combined (join_of o)))

-- ---- orders

module _ {P : Type 0} (parts : List P) (keys lengths : P → List ℤ) (segments : List ℕ) (are : lengths_of (of_all lengths parts) ≡ Ok segments)
    (few : length (of_all keys parts) ≤ most_places) (fit : AddUp lengths keys parts) where
  -- a list that is made of the keys of each segment
  abbrev ordered : (List ℤ → List ℤ) → List ℤ → List ℕ → Result (List ℤ) Fault
  ordered order ks d = end_to_end (in_vector d) (λ segment. Ok (order segment)) (nest d ks)

  made-ordered : (order : List ℤ → List ℤ)
      → IsMadeOf (ordered order (of_all keys parts) (joined (map (sizes lengths) parts))) (map (λ p. ordered order (keys p) (sizes lengths p)) parts)
  made-ordered order =
      lists (λ segment. Ok (order segment)) (in_vector (joined (map (sizes lengths) parts))) (λ p. in_vector (sizes lengths p)) (cuts-nest (sizes lengths) keys parts fit)

  pub ordered-in : (order : List ℤ → List ℤ) → IsMadeOf (by_segments (of_all lengths parts) (λ d. in_limit (of_all keys parts) (ordered order (of_all keys parts) d)))
      (map (λ p. by_segments (lengths p) (λ d. in_limit (keys p) (ordered order (keys p) d))) parts)
  ordered-in order =
      by-lengths lengths parts segments are (λ d. in_limit (of_all keys parts) (ordered order (of_all keys parts) d)) (λ p d. in_limit (keys p) (ordered order (keys p) d))
      (by-limit keys parts (ordered order (of_all keys parts) (joined (map (sizes lengths) parts))) (λ p. ordered order (keys p) (sizes lengths p)) few (made-ordered order))

  pub ordered-into : (order : List ℤ → List ℤ) (room : P → List ℤ) → AsMany keys room parts
      → IsMadeOf (by_segments (of_all lengths parts) (λ d. in_limit (of_all keys parts) (if_as_long (of_all keys parts) (of_all room parts) (ordered order (of_all keys parts) d))))
      (map (λ p. by_segments (lengths p) (λ d. in_limit (keys p) (if_as_long (keys p) (room p) (ordered order (keys p) d)))) parts)
  ordered-into order room many =
      let all = joined (map (sizes lengths) parts) in
      by-lengths lengths parts segments are (λ d. in_limit (of_all keys parts) (if_as_long (of_all keys parts) (of_all room parts) (ordered order (of_all keys parts) d)))
      (λ p d. in_limit (keys p) (if_as_long (keys p) (room p) (ordered order (keys p) d)))
      (by-limit keys parts (if_as_long (of_all keys parts) (of_all room parts) (ordered order (of_all keys parts) all))
      (λ p. if_as_long (keys p) (room p) (ordered order (keys p) (sizes lengths p))) few
      (made_alike parts (ordered order (of_all keys parts) all) (if_as_long (of_all keys parts) (of_all room parts) (ordered order (of_all keys parts) all))
      (λ p. ordered order (keys p) (sizes lengths p)) (λ p. if_as_long (keys p) (room p) (ordered order (keys p) (sizes lengths p)))
      (if_as_long-fits (of_all keys parts) (of_all room parts) _ (as-many keys room parts many))
      (λ k x lt. let p = get_or parts k x in if_as_long-fits (keys p) (room p) _ (many k x lt)) (made-ordered order)))

-- ---- sorts by key

module _ {P : Type 0} (parts : List P) (keys values lengths : P → List ℤ) (segments : List ℕ) (are : lengths_of (of_all lengths parts) ≡ Ok segments)
    (few : length (of_all keys parts) ≤ most_places) (fit : AddUp lengths keys parts) (many : AsMany keys values parts) (before : ℤ → ℤ → Bool) where
  -- the keys and the values of each segment, sorted by key
  abbrev sorted_rows : List (List ℤ × List ℤ) → List ℤ × List ℤ
  sorted_rows segs = (joined (map (λ segment. keys_by before segment.0) segs), joined (map (of_two (values_by before)) segs))

  -- the segments of a part, of keys and of values side by side
  abbrev keyed : P → List (List ℤ × List ℤ)
  keyed p = zip (cut_of (sizes lengths p) (keys p)) (cut_of (sizes lengths p) (values p))

  rows-both : sorted_rows (joined (map keyed parts)) ≡ both_joined (map (λ p. sorted_rows (keyed p)) parts)
  rows-both =
      let first = row-joined (λ segment. keys_by before segment.0) keyed parts ∙ sym (ap joined (map-map (λ r. r.0) (λ p. sorted_rows (keyed p)) parts)) in
      let second = row-joined (of_two (values_by before)) keyed parts ∙ sym (ap joined (map-map (λ r. r.1) (λ p. sorted_rows (keyed p)) parts)) in
      (λ i. (first i, second i))

  pub sorted-by-key : AreMadeOf (by_segments (of_all lengths parts) (λ d. in_limit (of_all keys parts) (seg_sort_by_key_of before (of_all keys parts) (of_all values parts) d)))
      (map (λ p. by_segments (lengths p) (λ d. in_limit (keys p) (seg_sort_by_key_of before (keys p) (values p) d))) parts)
  sorted-by-key =
      let all = joined (map (sizes lengths) parts) in
      let K = of_all keys parts in let V = of_all values parts in
      let also_fit : AddUp lengths values parts = λ k x lt. fit k x lt ∙ many k x lt in
      let cuts = cuts-two parts (sizes lengths) (sizes lengths) keys values fit also_fit (itself parts (sizes lengths)) in
      made_by_lengths lengths parts segments are both_joined (λ d. in_limit K (seg_sort_by_key_of before K V d))
      (λ p d. in_limit (keys p) (seg_sort_by_key_of before (keys p) (values p) d))
      (made_by_limit keys parts both_joined (seg_sort_by_key_of before K V all) (λ p. seg_sort_by_key_of before (keys p) (values p) (sizes lengths p)) few
      (made_by_certain both_joined parts (seg_sort_by_key_of before K V all) (λ p. seg_sort_by_key_of before (keys p) (values p) (sizes lengths p)) (λ p. sorted_rows (keyed p))
      (if_as_long-fits K V _ (as-many keys values parts many) ∙ ap (λ r. r >>= λ segs. Ok (sorted_rows segs)) cuts.all ∙ ap Ok rows-both)
      (λ k x lt. let p = get_or parts k x in
      if_as_long-fits (keys p) (values p) _ (many k x lt) ∙ ap (λ r. r >>= λ segs. Ok (sorted_rows segs)) (cuts.each k x lt))))

-- ---- values of segments

module _ {P : Type 0} (parts : List P) (lengths : P → List ℤ) (segments : List ℕ) (are : lengths_of (of_all lengths parts) ≡ Ok segments) where
  pub each-value : {X V : Type 0} (value : List X → V) (xs : P → List X) → AddUp lengths xs parts
      → IsMadeOf (by_segments (of_all lengths parts) (each_of value (of_all xs parts))) (map (λ p. by_segments (lengths p) (each_of value (xs p))) parts)
  each-value value xs fit =
      let cuts = cuts-nest (sizes lengths) xs parts fit in
      by-lengths lengths parts segments are (each_of value (of_all xs parts)) (λ p. each_of value (xs p))
      (made-certain parts (each_of value (of_all xs parts) (joined (map (sizes lengths) parts))) (λ p. each_of value (xs p) (sizes lengths p))
      (λ p. map value (cut_of (sizes lengths p) (xs p)))
      (ap (λ r. r >>= λ ss. Ok (map value ss)) cuts.all ∙ ap Ok (map-joined value (λ p. cut_of (sizes lengths p) (xs p)) parts))
      (λ k x lt. ap (λ r. r >>= λ ss. Ok (map value ss)) (cuts.each k x lt)))

  module _ {X : Type 0} (xs : P → List X) (index : P → List ℤ) (fit : AddUp lengths xs parts) (many : AsMany index lengths parts) where
    cuts-indexed : Cuts parts (beside (nest (joined (map (sizes lengths) parts)) (of_all xs parts)) (Ok (of_all index parts)))
        (λ p. beside (nest (sizes lengths p) (xs p)) (Ok (index p))) (λ p. zip (cut_of (sizes lengths p) (xs p)) (index p))
    cuts-indexed =
        cuts-beside parts (nest (joined (map (sizes lengths) parts)) (of_all xs parts)) (Ok (of_all index parts)) (λ p. nest (sizes lengths p) (xs p)) (λ p. Ok (index p))
        (λ p. cut_of (sizes lengths p) (xs p)) index (cuts-nest (sizes lengths) xs parts fit) (cuts-given index parts) (given-many parts lengths xs index many)

    pub extracted : IsMadeOf (by_segments (of_all lengths parts) (seg_extract_of (of_all xs parts) (of_all index parts)))
        (map (λ p. by_segments (lengths p) (seg_extract_of (xs p) (index p))) parts)
    extracted =
        by-lengths lengths parts segments are (seg_extract_of (of_all xs parts) (of_all index parts)) (λ p. seg_extract_of (xs p) (index p))
        (made-values (of_two extract_of) at_segment (λ p. at_segment) parts (beside (nest (joined (map (sizes lengths) parts)) (of_all xs parts)) (Ok (of_all index parts)))
        (λ p. beside (nest (sizes lengths p) (xs p)) (Ok (index p))) (λ p. zip (cut_of (sizes lengths p) (xs p)) (index p)) cuts-indexed)

    pub replaced : (values : P → List X) → AsMany values lengths parts
        → IsMadeOf (by_segments (of_all lengths parts) (seg_replace_of (of_all xs parts) (of_all index parts) (of_all values parts)))
        (map (λ p. by_segments (lengths p) (seg_replace_of (xs p) (index p) (values p))) parts)
    replaced values also_many =
        by-lengths lengths parts segments are (seg_replace_of (of_all xs parts) (of_all index parts) (of_all values parts)) (λ p. seg_replace_of (xs p) (index p) (values p))
        (lists (of_three replace_of) at_segment (λ p. at_segment)
        (cuts-beside parts (beside (nest (joined (map (sizes lengths) parts)) (of_all xs parts)) (Ok (of_all index parts))) (Ok (of_all values parts))
        (λ p. beside (nest (sizes lengths p) (xs p)) (Ok (index p))) (λ p. Ok (values p)) (λ p. zip (cut_of (sizes lengths p) (xs p)) (index p)) values cuts-indexed
        (cuts-given values parts)
        (λ k x lt. let p = get_or parts k x in
        omega (arith, length-zip (cut_of (sizes lengths p) (xs p)) (index p), given-many parts lengths xs index many k x lt, many k x lt, also_many k x lt))))

module _ {P : Type 0} (parts : List P) (lengths : P → List ℤ) (segments : List ℕ) (are : lengths_of (of_all lengths parts) ≡ Ok segments) (bytes : P → List ℕ) (index : P → List ℤ)
    (fit : AddUp lengths bytes parts) (many : AsMany index lengths parts) where
  -- bytes as flags, list by list
  flags-joined : (lists : List (List ℕ)) → joined (map (map as_flag) lists) ≡ map as_flag (joined lists)
  flags-joined lists = sym (map-joined as_flag (λ l. l) lists) ∙ ap (λ ls. map as_flag (joined ls)) (map-id lists)

  pub extracted-flags : IsMadeOf (made_flags (by_segments (of_all lengths parts) (seg_extract_of (of_all bytes parts) (of_all index parts))))
      (map (λ p. made_flags (by_segments (lengths p) (seg_extract_of (bytes p) (index p)))) parts)
  extracted-flags =
      made-next (map as_flag) joined joined flags-joined parts (by_segments (of_all lengths parts) (seg_extract_of (of_all bytes parts) (of_all index parts)))
      (λ p. by_segments (lengths p) (seg_extract_of (bytes p) (index p))) (extracted parts lengths segments are bytes index fit many)

-- ---- segments side by side

module _ {P X : Type 0} (parts : List P) (lengths others : P → List ℤ) (segments also : List ℕ) (are : lengths_of (of_all lengths parts) ≡ Ok segments)
    (are_also : lengths_of (of_all others parts) ≡ Ok also) (many : AsMany lengths others parts) where
  pub appended : (a b : P → List X) → AddUp lengths a parts → AddUp others b parts
      → IsMadeOf (by_segments (of_all lengths parts) (λ d. by_segments (of_all others parts) (λ e. append_segments_of (of_all a parts) d (of_all b parts) e)))
      (map (λ p. by_segments (lengths p) (λ d. by_segments (others p) (λ e. append_segments_of (a p) d (b p) e))) parts)
  appended a b fit also_fit =
      let all = joined (map (sizes lengths) parts) in let more = joined (map (sizes others) parts) in
      let cuts = cuts-two parts (sizes lengths) (sizes others) a b fit also_fit (sizes-many parts lengths others many) in
      let pairs : P → List (List X) = λ p. map (of_two ◌++◌) (zip (cut_of (sizes lengths p) (a p)) (cut_of (sizes others p) (b p))) in
      by-two parts lengths others segments also are are_also many (λ d e. append_segments_of (of_all a parts) d (of_all b parts) e) (λ p d e. append_segments_of (a p) d (b p) e)
      (made-certain parts (append_segments_of (of_all a parts) all (of_all b parts) more) (λ p. append_segments_of (a p) (sizes lengths p) (b p) (sizes others p)) (λ p. joined (pairs p))
      (ap (λ r. r >>= λ ss. Ok (joined (map (of_two ◌++◌) ss))) cuts.all
      ∙ ap (λ ls. Ok (joined ls)) (map-joined (of_two ◌++◌) (λ p. zip (cut_of (sizes lengths p) (a p)) (cut_of (sizes others p) (b p))) parts)
      ∙ ap Ok (sym (in_rows (map pairs parts)) ∙ ap joined (map-map joined pairs parts)))
      (λ k x lt. ap (λ r. r >>= λ ss. Ok (joined (map (of_two ◌++◌) ss))) (cuts.each k x lt)))

  pub merged : (falses : P → List ℤ) (too : List ℕ) (flags : P → List Bool) (xs ys : P → List X) → lengths_of (of_all falses parts) ≡ Ok too → AsMany lengths falses parts
      → AddUp lengths flags parts → AddUp others xs parts → AddUp falses ys parts
      → IsMadeOf (by_segments (of_all lengths parts) (λ d. by_segments (of_all others parts) (λ e. by_segments (of_all falses parts)
      (λ g. seg_merge_of (of_all flags parts) d (of_all xs parts) e (of_all ys parts) g))))
      (map (λ p. by_segments (lengths p) (λ d. by_segments (others p) (λ e. by_segments (falses p) (λ g. seg_merge_of (flags p) d (xs p) e (ys p) g)))) parts)
  merged falses too flags xs ys are_too also_many flagged trues rest =
      let all = joined (map (sizes lengths) parts) in let more = joined (map (sizes others) parts) in
      by-two parts lengths others segments also are are_also many
      (λ d e. by_segments (of_all falses parts) (λ g. seg_merge_of (of_all flags parts) d (of_all xs parts) e (of_all ys parts) g))
      (λ p d e. by_segments (falses p) (λ g. seg_merge_of (flags p) d (xs p) e (ys p) g))
      (by-lengths falses parts too are_too (λ g. seg_merge_of (of_all flags parts) all (of_all xs parts) more (of_all ys parts) g)
      (λ p g. seg_merge_of (flags p) (sizes lengths p) (xs p) (sizes others p) (ys p) g)
      (lists (of_three segment_merge_of) at_segment (λ p. at_segment)
      (cuts-three parts (sizes lengths) (sizes others) (sizes falses) flags xs ys flagged trues rest (sizes-many parts lengths others many) (sizes-many parts lengths falses also_many))))
