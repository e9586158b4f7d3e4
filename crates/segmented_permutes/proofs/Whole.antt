-- The segmented definitions, told by the destinations of all segments.
use Rattle.std.proofs.Common.{◌≡◌, ◌≢◌, ◌∙◌, ℕ, ◌+◌, ◌≤◌, Bool, Bor, List, [], ◌∷◌, length, filter_map, sum, take, drop, refl, sym, ap, length-drop, arith, ℤ, slice_get, Result, Ok, Err}
use Rattle.std.specs.List.{zip}
use Rattle.std.proofs.lemmas.List.{drop-drop, length-take-le, take-append-drop}
use Rattle.std.proofs.lemmas.Slice.Zip.{length-zip}
use Rattle.cvl_base.specs.declared.fault.Fault.{Fault}
use Rattle.cvl_base.specs.declared.fault.FaultNo.TheVariants.{LengthMismatch}
use Rattle.cvl_base.specs.Faults.{fault}
use Rattle.cvl_base.specs.Elementwise.{if_as_long}
use Rattle.cvl_base.specs.Gives.{◌>>=◌, unless}
use Rattle.cvl_base.specs.Lists.{joined}
use Rattle.cvl_base.specs.Limits.{most_places}
use Rattle.cvl_base.specs.Nests.{cut_of, nest}
use Rattle.cvl_base.specs.Packs.{count_of}
use Rattle.cvl_base.specs.Permutes.{all_destinations, back_of, default_of, flagged_destinations, select_of, sent_over, sent_to_all, simple_of}
use Rattle.cvl_base.specs.Segmented.{beside, end_to_end, in_vector, of_two, of_three, results_from}
use Rattle.cvl_base.specs.SegmentedCalls.{seg_back_of, seg_default_of, seg_select_of, seg_simple_of}
use Rattle.fresh.specs.Parts.{part, length_part}
use Rattle.segment_sends.specs.SegmentDestinations.{destinations_in, fault_from, flagged_in_segments, all_in_segments, senders_from}
use Rattle.permute_walks.specs.Before.{IsPermuted}
use Rattle.permute_walks.specs.declared.before.Before.TheVariants as before
use Rattle.permute_walks.specs.Senders.{nobody, written_over}
use Rattle.cvl_base.proofs.Nests.{length-cut, nest-fits}
use Rattle.cvl_base.proofs.Lists.{sum-cons}
use Rattle.cvl_base.proofs.Elementwise.{if_as_long-fits, if_as_long-misfits}
use Rattle.permute_walks.proofs.Told.{IsSent}
use Rattle.segment_sends.proofs.AllSent.{flagged_segments_sent, length-senders, length-senders_from, segments_sent}
use Rattle.segment_sends.proofs.Through.{destinations-all, places-flagged}
use Rattle.permute_walks.proofs.EndToEnd.{left_more}
use Rattle.segmented_permutes.proofs.Joined.{front_taken, front_over}
use Rattle.cvl_base.proofs.Permutes.{length-all_destinations, length-flagged_destinations}

-- ---- the calls on the segments from s on, whose elements are xs and begin in the source at `place`

module _ {X : Type 0} (lengths : List ℕ) (source : List X) (few : length source ≤ nobody) where
  simple_walked : (s place : ℕ) (left : List ℕ) (xs : List X) (is : List ℤ) → drop s lengths ≡ left → sum (take s lengths) ≡ place → xs ≡ drop place source → place + sum left ≡ length source
      → sum left ≡ length is
      → (results_from (in_vector lengths) (of_two simple_of) s (zip (cut_of left xs) (cut_of left is)) >>= λ lists. Ok (joined lists))
      ≡ unless (fault_from place (all_in_segments left left is)) (Ok (filter_map (slice_get source) (senders_from place (all_in_segments left left is))))
  simple_walked s place [] xs is lefts there at total index_total = refl
  simple_walked s place (n ∷ ns) xs is lefts there at total index_total =
      let on = left_more lengths s n ns lefts in
      let all = sum-cons n ns in
      let ys = part source place n in
      let js = take n is in
      let ts = all_destinations js in
      let index_long : length js ≡ n = length-take-le n is (omega (arith, all, index_total)) in
      let long : length ys ≡ length js = length_part source place n (omega (arith, all, total)) ∙ sym index_long in
      front_taken lengths source few s place n n ts (simple_of (take n xs) js) (results_from (in_vector lengths) (of_two simple_of) (s + 1) (zip (cut_of ns (drop n xs)) (cut_of ns (drop n is))))
      (all_in_segments ns ns (drop n is)) there (length-all_destinations js ∙ index_long) (omega (arith, all, total))
      (ap (λ zs. simple_of (take n zs) js) at ∙ if_as_long-fits ys js (sent_to_all ys ts (length js)) long ∙ ap (sent_to_all ys ts) index_long)
      (simple_walked (s + 1) (place + n) ns (drop n xs) (drop n is) on.0 (omega (arith, on.1, there)) (ap (drop n) at ∙ drop-drop n place source) (omega (arith, all, total))
      (omega (arith, all, index_total, length-drop n is)))

  select_walked : (s place : ℕ) (left : List ℕ) (xs : List X) (is : List ℤ) (fs : List Bool) → drop s lengths ≡ left → sum (take s lengths) ≡ place → xs ≡ drop place source
      → place + sum left ≡ length source → sum left ≡ length is → sum left ≡ length fs
      → (results_from (in_vector lengths) (of_three select_of) s (zip (zip (cut_of left xs) (cut_of left is)) (cut_of left fs)) >>= λ lists. Ok (joined lists))
      ≡ unless (fault_from place (flagged_in_segments left is fs)) (Ok (filter_map (slice_get source) (senders_from place (flagged_in_segments left is fs))))
  select_walked s place [] xs is fs lefts there at total index_total flag_total = refl
  select_walked s place (n ∷ ns) xs is fs lefts there at total index_total flag_total =
      let on = left_more lengths s n ns lefts in
      let all = sum-cons n ns in
      let ys = part source place n in
      let js = take n is in
      let gs = take n fs in
      let sent = sent_to_all ys (flagged_destinations js gs) (count_of gs) in
      let index_long : length js ≡ n = length-take-le n is (omega (arith, all, index_total)) in
      let long : length ys ≡ length js = length_part source place n (omega (arith, all, total)) ∙ sym index_long in
      let flag_long : length js ≡ length gs = index_long ∙ sym (length-take-le n fs (omega (arith, all, flag_total))) in
      front_taken lengths source few s place n (count_of gs) (flagged_destinations js gs) (select_of (take n xs) js gs)
      (results_from (in_vector lengths) (of_three select_of) (s + 1) (zip (zip (cut_of ns (drop n xs)) (cut_of ns (drop n is))) (cut_of ns (drop n fs))))
      (flagged_in_segments ns (drop n is) (drop n fs)) there
      (length-flagged_destinations js gs flag_long ∙ index_long) (omega (arith, all, total))
      (ap (λ zs. select_of (take n zs) js gs) at ∙ if_as_long-fits ys js (if_as_long js gs sent) long ∙ if_as_long-fits js gs sent flag_long)
      (select_walked (s + 1) (place + n) ns (drop n xs) (drop n is) (drop n fs) on.0 (omega (arith, on.1, there)) (ap (drop n) at ∙ drop-drop n place source) (omega (arith, all, total))
      (omega (arith, all, index_total, length-drop n is)) (omega (arith, all, flag_total, length-drop n fs)))

  default_walked : (s place : ℕ) (left widths : List ℕ) (xs : List X) (is : List ℤ) (defaults : List X) → drop s lengths ≡ left → sum (take s lengths) ≡ place → xs ≡ drop place source
      → place + sum left ≡ length source → sum left ≡ length is → sum widths ≡ length defaults → length left ≡ length widths
      → (results_from (in_vector lengths) (of_three default_of) s (zip (zip (cut_of left xs) (cut_of left is)) (cut_of widths defaults)) >>= λ lists. Ok (joined lists))
      ≡ unless (fault_from place (all_in_segments left widths is)) (Ok (written_over source (senders_from place (all_in_segments left widths is)) defaults))
  default_walked s place [] [] xs is defaults lefts there at total index_total default_total count = refl
  default_walked s place [] (w ∷ ws) xs is defaults lefts there at total index_total default_total count = absurd (omega (arith, count))
  default_walked s place (n ∷ ns) [] xs is defaults lefts there at total index_total default_total count = absurd (omega (arith, count))
  default_walked s place (n ∷ ns) (w ∷ ws) xs is defaults lefts there at total index_total default_total count =
      let on = left_more lengths s n ns lefts in
      let all = sum-cons n ns in
      let wide = sum-cons w ws in
      let ys = part source place n in
      let js = take n is in
      let ds = take w defaults in
      let ts = all_destinations js in
      let index_long : length js ≡ n = length-take-le n is (omega (arith, all, index_total)) in
      let long : length ys ≡ length js = length_part source place n (omega (arith, all, total)) ∙ sym index_long in
      front_over lengths source few s place n w ts (default_of (take n xs) js ds)
      (results_from (in_vector lengths) (of_three default_of) (s + 1) (zip (zip (cut_of ns (drop n xs)) (cut_of ns (drop n is))) (cut_of ws (drop w defaults))))
      (all_in_segments ns ws (drop n is)) there
      (length-all_destinations js ∙ index_long) (omega (arith, all, total)) ds (drop w defaults) (length-take-le w defaults (omega (arith, wide, default_total)))
      (ap (λ zs. default_of (take n zs) js ds) at ∙ if_as_long-fits ys js (sent_over ys ts ds) long)
      (default_walked (s + 1) (place + n) ns ws (drop n xs) (drop n is) (drop w defaults) on.0 (omega (arith, on.1, there)) (ap (drop n) at ∙ drop-drop n place source) (omega (arith, all, total))
      (omega (arith, all, index_total, length-drop n is)) (omega (arith, wide, default_total, length-drop w defaults)) (omega (arith, count)))
      ∙ ap (λ zs. unless (fault_from place (all_in_segments (n ∷ ns) (w ∷ ws) is)) (Ok (written_over source (senders_from place (all_in_segments (n ∷ ns) (w ∷ ws) is)) zs)))
      (take-append-drop w defaults)

-- ---- the arguments of the segments

module _ {S C : Type 0} (segments : Result (List S) Fault) (ss : List S) (widths : List ℕ) (zs : List C) (are : segments ≡ Ok ss) (total : sum widths ≡ length zs) where
  both : beside segments (nest widths zs) ≡ if_as_long ss (cut_of widths zs) (Ok (zip ss (cut_of widths zs)))
  both = λ i. beside (are i) (nest-fits widths zs total i)

  pub beside-fits : length ss ≡ length widths → beside segments (nest widths zs) ≡ Ok (zip ss (cut_of widths zs))
  beside-fits count = both ∙ if_as_long-fits ss (cut_of widths zs) (Ok (zip ss (cut_of widths zs))) (count ∙ sym (length-cut widths zs))

  -- where the segments are not equally many
  pub beside-differ : length ss ≢ length widths → beside segments (nest widths zs) ≡ Err (fault LengthMismatch)
  beside-differ differ = both ∙ if_as_long-misfits ss (cut_of widths zs) (Ok (zip ss (cut_of widths zs))) (λ same. differ (same ∙ length-cut widths zs))

-- ---- the definitions

pub seg_back-differ : {X : Type 0} (source : List X) (index : List ℤ) (widths lengths : List ℕ) → sum widths ≡ length source → sum lengths ≡ length index → length widths ≢ length lengths
    → seg_back_of source index widths lengths ≡ Err (fault LengthMismatch)
seg_back-differ source index widths lengths total index_total differ =
    ap (end_to_end (in_vector lengths) (of_two back_of))
    (beside-differ (nest widths source) (cut_of widths source) lengths index (nest-fits widths source total) index_total (λ same. differ (sym (length-cut widths source) ∙ same)))

module _ {X : Type 0} (source : List X) (index : List ℤ) (lengths : List ℕ) (total : sum lengths ≡ length source) (index_total : sum lengths ≡ length index) where
  abbrev segments : List (List X × List ℤ)
  segments = zip (cut_of lengths source) (cut_of lengths index)

  nested : beside (nest lengths source) (nest lengths index) ≡ Ok segments
  nested = beside-fits (nest lengths source) (cut_of lengths source) lengths index (nest-fits lengths source total) index_total (length-cut lengths source)

  many : length segments ≡ length lengths
  many = omega (arith, length-zip (cut_of lengths source) (cut_of lengths index), length-cut lengths source, length-cut lengths index)

  pub seg_default-differ : (defaults : List X) (widths : List ℕ) → sum widths ≡ length defaults → length lengths ≢ length widths
      → seg_default_of source index defaults lengths widths ≡ Err (fault LengthMismatch)
  seg_default-differ defaults widths default_total differ =
      ap (end_to_end (in_vector lengths) (of_three default_of))
      (beside-differ (beside (nest lengths source) (nest lengths index)) segments widths defaults nested default_total (λ same. differ (sym many ∙ same)))

  module _ (few : length index ≤ most_places) where
    small : length source ≤ nobody
    small = omega (arith, total, index_total, few)

    pub seg_simple_sent : IsSent source (seg_simple_of source index lengths) (fault_from 0 (all_in_segments lengths lengths index))
        (senders_from 0 (all_in_segments lengths lengths index)) (length index)
    seg_simple_sent = record {
      is = ap (end_to_end (in_vector lengths) (of_two simple_of)) nested
          ∙ simple_walked lengths source small 0 0 lengths source index refl refl refl (omega (arith, total)) index_total;
      sent = segments_sent (length source) small lengths index index_total (omega (arith, total, index_total));
      as_many = length-senders lengths lengths index refl ∙ index_total;
    }

    pub seg_select_sent : (flags : List Bool) → sum lengths ≡ length flags
        → IsSent source (seg_select_of source index flags lengths) (fault_from 0 (flagged_in_segments lengths index flags)) (senders_from 0 (flagged_in_segments lengths index flags)) (count_of flags)
    seg_select_sent flags flag_total = record {
      is = ap (end_to_end (in_vector lengths) (of_three select_of)) (beside-fits (beside (nest lengths source) (nest lengths index)) segments lengths flags nested flag_total many)
          ∙ select_walked lengths source small 0 0 lengths source index flags refl refl refl (omega (arith, total)) index_total flag_total;
      sent = flagged_segments_sent (length source) small lengths index flags index_total flag_total (omega (arith, total, index_total));
      as_many = length-senders_from 0 (flagged_in_segments lengths index flags) ∙ places-flagged lengths index flags flag_total;
    }

    pub seg_default_sent : (defaults : Bor (List X)) (widths : List ℕ) → sum widths ≡ length defaults.now → length lengths ≡ length widths
        → IsPermuted source (before.Defaults defaults) (seg_default_of source index defaults.now lengths widths) (fault_from 0 (all_in_segments lengths widths index))
        (senders_from 0 (all_in_segments lengths widths index))
    seg_default_sent defaults widths default_total count =
        let sent = all_in_segments lengths widths index in
        record {
          is = λ stands same.
              ap (end_to_end (in_vector lengths) (of_three default_of))
              (beside-fits (beside (nest lengths source) (nest lengths index)) segments widths defaults.now nested default_total (many ∙ count))
              ∙ default_walked lengths source small 0 0 lengths widths source index defaults.now refl refl refl (omega (arith, total)) index_total default_total count
              ∙ ap (λ xs. unless (fault_from 0 sent) (Ok (written_over source (senders_from 0 sent) xs))) (sym same);
          as_many = length-senders lengths widths index count ∙ default_total;
        }

-- there are as many destinations as indices
pub few_sent : (lengths widths : List ℕ) (index : List ℤ) (n : ℕ) → length index ≤ n → sum lengths ≡ length index → length lengths ≡ length widths
    → destinations_in (all_in_segments lengths widths index) ≤ n
few_sent lengths widths index n few total count = omega (arith, destinations-all lengths widths index total count, few)
