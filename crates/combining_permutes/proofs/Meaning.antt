-- The segmented definitions, told by the two walks through the segments.
use Rattle.combining_permutes.proofs.Cited.{◌≡◌, ◌≢◌, ◌∙◌, ℕ, ◌+◌, ◌≤◌, List, [], ◌∷◌, length, map, sum, take, drop, refl, sym, ap, arith, ℤ, pos, Ok, Err, zip, replicate, Result}
use Rattle.combining_permutes.proofs.Cited.{LengthMismatch, fault, Fault, ◌>>=◌, unless, length-drop, length-replicate, length-take-le, take-map, drop-map, take-replicate, drop-replicate}
use Rattle.combining_permutes.proofs.Cited.{first_outside, outside, most_places}
use Rattle.combining_permutes.proofs.Cited.{combine_of, combined, combined_by, outside_by, place_counts_of, seg_combine_of, seg_place_counts_of, sum_of}
use Rattle.cvl_base.specs.Lists.{joined}
use Rattle.cvl_base.specs.Nests.{cut_of, nest}
use Rattle.cvl_base.specs.Segmented.{beside, end_to_end, in_vector, of_three, of_two, results_from}
use Rattle.cvl_base.proofs.Elementwise.{if_as_long-fits}
use Rattle.cvl_base.proofs.Lists.{sum-cons}
use Rattle.cvl_base.proofs.Nests.{length-cut, nest-fits, nest-misfits}
use Rattle.cvl_base.proofs.Segmented.{beside-fits, beside-misfits}
use Rattle.std.proofs.lemmas.Slice.Zip.{length-zip}
use Rattle.permute_walks.proofs.EndToEnd.{front, left_more}
use Rattle.permute_walks.proofs.Told.{IsTold}
use Rattle.combining_permutes.proofs.BySegments.{length-combined_by}
use Rattle.combining_permutes.proofs.Ones.{counted, ones}

-- ---- joined elements

module _ {X : Type 0} (join : X → X → X) (lengths : List ℕ) where
  -- the flat call on one segment
  flat : (n m : ℕ) (source : List X) (index : List ℤ) (before : List X) → n ≤ length source → length source ≡ length index → m ≤ length before
      → combine_of join (take n source) (take n index) (take m before)
      ≡ unless (first_outside 0 m (take n index)) (Ok (combined join (zip (take n index) (take n source)) 0 (take m before)))
  flat n m source index before within long wide =
      if_as_long-fits (take n source) (take n index) (unless (first_outside 0 (length (take m before)) (take n index)) (Ok (combined join (zip (take n index) (take n source)) 0 (take m before))))
      (length-take-le n source within ∙ sym (length-take-le n index (omega (arith, long, within))))
      ∙ ap (λ k. unless (first_outside 0 k (take n index)) (Ok (combined join (zip (take n index) (take n source)) 0 (take m before)))) (length-take-le m before wide)

  walked : (s place : ℕ) (left ms : List ℕ) (source : List X) (index : List ℤ) (before : List X) → drop s lengths ≡ left → sum (take s lengths) ≡ place → length left ≡ length ms
      → length source ≡ length index → sum left ≡ length index → sum ms ≡ length before
      → (results_from (in_vector lengths) (of_three (combine_of join)) s (zip (zip (cut_of left source) (cut_of left index)) (cut_of ms before)) >>= λ lists. Ok (joined lists))
      ≡ unless (outside_by place left ms index) (Ok (combined_by join left ms index source before))
  walked s place [] ms source index before lefts there count long total wide = refl
  walked s place (n ∷ ns) [] source index before lefts there count long total wide = absurd (omega (arith, count))
  walked s place (n ∷ ns) (m ∷ ms) source index before lefts there count long total wide =
      let on = left_more lengths s n ns lefts in
      let first = sum-cons n ns in
      let first_wide = sum-cons m ms in
      front lengths s place (combine_of join (take n source) (take n index) (take m before)) (map (outside m) (take n index)) (combined join (zip (take n index) (take n source)) 0 (take m before))
      (combined_by join ns ms (drop n index) (drop n source) (drop m before))
      (results_from (in_vector lengths) (of_three (combine_of join)) (s + 1) (zip (zip (cut_of ns (drop n source)) (cut_of ns (drop n index))) (cut_of ms (drop m before))))
      (outside_by (place + n) ns ms (drop n index)) there
      (flat n m source index before (omega (arith, first, total, long)) long (omega (arith, first_wide, wide)))
      (walked (s + 1) (place + n) ns ms (drop n source) (drop n index) (drop m before) on.0 (omega (arith, on.1, there)) (omega (arith, count))
      (omega (arith, long, length-drop n source, length-drop n index)) (omega (arith, first, total, length-drop n index)) (omega (arith, first_wide, wide, length-drop m before)))

module _ {X : Type 0} (join : X → X → X) (source : List X) (index : List ℤ) (lengths ms : List ℕ) (before : List X) where
  abbrev call : Result (List (List X)) Fault → Result (List (List ℤ)) Fault → Result (List (List X)) Fault → Result (List X) Fault
  call sources indices rooms = end_to_end (in_vector lengths) (of_three (combine_of join)) (beside (beside sources indices) rooms)

  -- the segments do not add up
  pub source_differs : sum lengths ≢ length source → seg_combine_of join source index lengths ms before ≡ Err (fault LengthMismatch)
  source_differs differ = ap (λ sources. call sources (nest lengths index) (nest ms before)) (nest-misfits lengths source differ)

  module _ (sourced : sum lengths ≡ length source) where
    pub index_differs : sum lengths ≢ length index → seg_combine_of join source index lengths ms before ≡ Err (fault LengthMismatch)
    index_differs differ = (λ i. call (nest-fits lengths source sourced i) (nest-misfits lengths index differ i) (nest ms before))

    module _ (total : sum lengths ≡ length index) where
      abbrev pairs : List (List X × List ℤ)
      pairs = zip (cut_of lengths source) (cut_of lengths index)

      paired : beside (nest lengths source) (nest lengths index) ≡ Ok pairs
      paired = (λ i. beside (nest-fits lengths source sourced i) (nest-fits lengths index total i))
          ∙ beside-fits (cut_of lengths source) (cut_of lengths index) (length-cut lengths source ∙ sym (length-cut lengths index))

      pub room_differs : sum ms ≢ length before → seg_combine_of join source index lengths ms before ≡ Err (fault LengthMismatch)
      room_differs differ = (λ i. end_to_end (in_vector lengths) (of_three (combine_of join)) (beside (paired i) (nest-misfits ms before differ i)))

      length-pairs : length pairs ≡ length lengths
      length-pairs = omega (arith, length-zip (cut_of lengths source) (cut_of lengths index), length-cut lengths source, length-cut lengths index)

      module _ (wide : sum ms ≡ length before) where
        pub count_differs : length lengths ≢ length ms → seg_combine_of join source index lengths ms before ≡ Err (fault LengthMismatch)
        count_differs differ =
            (λ i. end_to_end (in_vector lengths) (of_three (combine_of join)) (beside (paired i) (nest-fits ms before wide i)))
            ∙ ap (end_to_end (in_vector lengths) (of_three (combine_of join)))
            (beside-misfits pairs (cut_of ms before) (λ same. differ (sym length-pairs ∙ same ∙ length-cut ms before)))

        pub seg_told : length lengths ≡ length ms
            → IsTold (seg_combine_of join source index lengths ms before) (outside_by 0 lengths ms index) (combined_by join lengths ms index source before) (sum ms)
        seg_told count = record {
          is = (λ i. end_to_end (in_vector lengths) (of_three (combine_of join)) (beside (paired i) (nest-fits ms before wide i)))
              ∙ ap (end_to_end (in_vector lengths) (of_three (combine_of join)))
              (beside-fits pairs (cut_of ms before) (length-pairs ∙ count ∙ sym (length-cut ms before)))
              ∙ walked join lengths 0 0 lengths ms source index before refl refl count (sym sourced ∙ total) total wide;
          long = λ none. length-combined_by join lengths ms index source before count wide;
        }

-- ---- how many name a place

module _ (m : ℕ) (ms : List ℕ) where
  zeros_first : take m (replicate (sum (m ∷ ms)) (pos 0)) ≡ replicate m (pos 0)
  zeros_first = take-replicate m (sum (m ∷ ms)) (pos 0) (omega (arith, sum-cons m ms))

  zeros_left : drop m (replicate (sum (m ∷ ms)) (pos 0)) ≡ replicate (sum ms) (pos 0)
  zeros_left = drop-replicate m (sum (m ∷ ms)) (pos 0) ∙ ap (λ k. replicate k (pos 0)) (omega (arith, sum-cons m ms))

module _ (lengths : List ℕ) where
  counts_walked : (s place : ℕ) (left ms : List ℕ) (index : List ℤ) → drop s lengths ≡ left → sum (take s lengths) ≡ place → length left ≡ length ms → sum left ≡ length index
      → length index ≤ most_places
      → (results_from (in_vector lengths) (of_two place_counts_of) s (zip (cut_of left index) ms) >>= λ lists. Ok (joined lists))
      ≡ unless (outside_by place left ms index) (Ok (combined_by sum_of left ms index (ones index) (replicate (sum ms) (pos 0))))
  counts_walked s place [] ms index lefts there count total few = refl
  counts_walked s place (n ∷ ns) [] index lefts there count total few = absurd (omega (arith, count))
  counts_walked s place (n ∷ ns) (m ∷ ms) index lefts there count total few =
      let on = left_more lengths s n ns lefts in
      let first = sum-cons n ns in
      let own = length-take-le n index (omega (arith, first, total)) in
      let zeros = replicate (sum (m ∷ ms)) (pos 0) in
      let one = λ (i : ℤ). pos 1 in
      front lengths s place (place_counts_of (take n index) m) (map (outside m) (take n index)) (combined sum_of (zip (take n index) (take n (ones index))) 0 (take m zeros))
      (combined_by sum_of ns ms (drop n index) (drop n (ones index)) (drop m zeros)) (results_from (in_vector lengths) (of_two place_counts_of) (s + 1) (zip (cut_of ns (drop n index)) ms))
      (outside_by (place + n) ns ms (drop n index)) there
      (ap (λ r. unless (first_outside 0 m (take n index)) (Ok r))
      (sym (counted (take n index) (omega (arith, own, first, total, few)) 0 m)
      ∙ (λ i. combined sum_of (zip (take n index) (sym (take-map one n index) i)) 0 (sym (zeros_first m ms) i))))
      (counts_walked (s + 1) (place + n) ns ms (drop n index) on.0 (omega (arith, on.1, there)) (omega (arith, count)) (omega (arith, first, total, length-drop n index))
      (omega (arith, few, length-drop n index))
      ∙ ap (λ r. unless (outside_by (place + n) ns ms (drop n index)) (Ok r))
      (λ i. combined_by sum_of ns ms (drop n index) (sym (drop-map one n index) i) (sym (zeros_left m ms) i)))

module _ (index : List ℤ) (lengths ms : List ℕ) (total : sum lengths ≡ length index) where
  pub counts_differ : length lengths ≢ length ms → seg_place_counts_of index lengths ms ≡ Err (fault LengthMismatch)
  counts_differ differ =
      ap (end_to_end (in_vector lengths) (of_two place_counts_of))
      (ap (λ lists. beside lists (Ok ms)) (nest-fits lengths index total) ∙ beside-misfits (cut_of lengths index) ms (λ same. differ (sym (length-cut lengths index) ∙ same)))

  pub counts_told : length lengths ≡ length ms → length index ≤ most_places
      → IsTold (seg_place_counts_of index lengths ms) (outside_by 0 lengths ms index) (combined_by sum_of lengths ms index (ones index) (replicate (sum ms) (pos 0))) (sum ms)
  counts_told count few = record {
    is = ap (end_to_end (in_vector lengths) (of_two place_counts_of))
        (ap (λ lists. beside lists (Ok ms)) (nest-fits lengths index total) ∙ beside-fits (cut_of lengths index) ms (length-cut lengths index ∙ count))
        ∙ counts_walked lengths 0 0 lengths ms index refl refl count total few;
    long = λ none. length-combined_by sum_of lengths ms index (ones index) (replicate (sum ms) (pos 0)) count (sym (length-replicate (sum ms) (pos 0)));
  }
