-- The flat indices of the segmented permutes: the walk that makes them, and what destinations they are.
use Rattle.std.proofs.Common.{◌≡◌, ◌∙◌, ℕ, suc, ◌+◌, ◌<◌, ◌≤◌, Bool, true, false, if◌then◌else◌, List, [], ◌∷◌, ◌++◌, length, map, sum, take, drop, refl, sym, ap, arith, inl, inr}
use Rattle.std.proofs.Common.{length-drop, subst, ℤ, pos, negsuc, IfSome, Option, Some, None, Ok}
use Rattle.std.specs.Option.{option_or}
use Rattle.std.proofs.lemmas.Bool.{lt-ltb, le-ltb}
use Rattle.std.proofs.lemmas.Bool.Decides.{leb_tells}
use Rattle.std.proofs.lemmas.List.{length-map, length-take-le, map-append}
use Rattle.std.proofs.lemmas.Simd.{map-map}
use Rattle.cvl_base.specs.declared.fault.FaultNo.TheVariants.{IndexOutOfRange}
use Rattle.cvl_base.specs.Configs.{TilesAndWorkers}
use Rattle.cvl_base.specs.Gives.{unless}
use Rattle.cvl_base.specs.Limits.{most_elements}
use Rattle.cvl_base.specs.Packs.{count_of}
use Rattle.cvl_base.specs.Permutes.{all_destinations, flagged_destinations, first_fault, destination_if, wrongs}
use Rattle.permute_walks.specs.Indices.{first_outside, outside}
use Rattle.permute_walks.specs.Senders.{senders_of}
use Rattle.permutes.specs.Ways.{RacesWithin, pace_of}
use Rattle.permutes.specs.declared.ways.Way.{Way}
use Rattle.cvl_base.proofs.Permutes.{length-all_destinations, length-flagged_destinations}
use Rattle.segmented_permutes.specs.Backs.{outside_from}
use Rattle.segmented_permutes.specs.FlatIndices.{flat_index, flat_indices}
use Rattle.segment_sends.specs.SegmentDestinations.{fault_from, flagged_in_segments, all_in_segments, places_in, senders_from, destinations_in}
use Rattle.cvl_base.proofs.Lists.{sum-cons}
use Rattle.segmented_permutes.proofs.Flattened.{fault_flat, first_fault-append, flat_destination, flat_destinations, senders_flat}

-- ---- the walk

-- the first s segments are done: their indices are pushed, and the places of the next one begin at `start`
pub record IsFlatThrough (segments : List (ℕ × List (Option ℤ))) (index : List ℤ) (start s : ℕ) (flat rest : List ℤ) : Type 0 where
  pub indices_are : flat ++ flat_indices start (drop s segments) rest ≡ flat_indices 0 segments index
  pub places_left : start + places_in (drop s segments) ≡ places_in segments
  pub destinations_left : destinations_in (drop s segments) ≡ length rest

-- ---- where each place takes part

pub destinations_all : (start : ℕ) (lengths widths : List ℕ) (index : List ℤ) → sum lengths ≤ length index
    → flat_destinations start (all_in_segments lengths widths index) ≡ all_destinations (flat_indices start (all_in_segments lengths widths index) index)
destinations_all start [] [] index within = refl
destinations_all start [] (m ∷ ms) index within = refl
destinations_all start (n ∷ ns) [] index within = refl
destinations_all start (n ∷ ns) (m ∷ ms) index within =
    let all = sum-cons n ns in
    let others = all_in_segments ns ms (drop n index) in
    let long : length (all_destinations (take n index)) ≡ n = length-all_destinations (take n index) ∙ length-take-le n index (omega (arith, all, within)) in
    (λ i. (map-map (flat_destination start m) (λ j. Some j) (take n index) ∙ sym (map-map (λ j. Some j) (flat_index start m) (take n index))) i
    ++ destinations_all (start + m) ns ms (drop n index) (omega (arith, all, within, length-drop n index)) i)
    ∙ sym (map-append (λ i. Some i) (map (flat_index start m) (take n index)) (flat_indices (start + m) others (drop n index)))
    ∙ ap (λ k. all_destinations (map (flat_index start m) (take k index) ++ flat_indices (start + m) others (drop k index))) (sym long)

-- ---- where the flagged places do

flat_flagged_destinations : (start m : ℕ) (index : List ℤ) (flags : List Bool) → map (flat_destination start m) (flagged_destinations index flags)
    ≡ flagged_destinations (map (flat_index start m) index) flags
flat_flagged_destinations start m [] flags = refl
flat_flagged_destinations start m (i ∷ index) [] = refl
flat_flagged_destinations start m (i ∷ index) (true ∷ flags) = ap (λ rest. Some (flat_index start m i) ∷ rest) (flat_flagged_destinations start m index flags)
flat_flagged_destinations start m (i ∷ index) (false ∷ flags) = ap (λ rest. None ∷ rest) (flat_flagged_destinations start m index flags)

flagged-append : (index others : List ℤ) (flags : List Bool) → length index ≤ length flags
    → flagged_destinations (index ++ others) flags ≡ flagged_destinations index (take (length index) flags) ++ flagged_destinations others (drop (length index) flags)
flagged-append [] others flags within = refl
flagged-append (i ∷ index) others [] within = absurd (omega arith)
flagged-append (i ∷ index) others (f ∷ flags) within = ap (λ rest. destination_if i f ∷ rest) (flagged-append index others flags (omega (arith, within)))

pub destinations_flagged : (start : ℕ) (lengths : List ℕ) (index : List ℤ) (flags : List Bool) → sum lengths ≤ length index → sum lengths ≤ length flags
    → flat_destinations start (flagged_in_segments lengths index flags) ≡ flagged_destinations (flat_indices start (flagged_in_segments lengths index flags) index) flags
destinations_flagged start [] index flags within flag_within = refl
destinations_flagged start (n ∷ ns) index flags within flag_within =
    let all = sum-cons n ns in
    let js = take n index in
    let fs = take n flags in
    let m = count_of fs in
    let others = flagged_in_segments ns (drop n index) (drop n flags) in
    let flat = map (flat_index start m) js in
    let index_long : length js ≡ n = length-take-le n index (omega (arith, all, within)) in
    let flag_long : length fs ≡ n = length-take-le n flags (omega (arith, all, flag_within)) in
    let flat_long : length flat ≡ n = length-map js (flat_index start m) ∙ index_long in
    let long : length (flagged_destinations js fs) ≡ n = length-flagged_destinations js fs (index_long ∙ sym flag_long) ∙ index_long in
    (λ i. flat_flagged_destinations start m js fs i
    ++ destinations_flagged (start + m) ns (drop n index) (drop n flags) (omega (arith, all, within, length-drop n index)) (omega (arith, all, flag_within, length-drop n flags)) i)
    ∙ ap (λ k. flagged_destinations flat (take k flags) ++ flagged_destinations (flat_indices (start + m) others (drop n index)) (drop k flags)) (sym flat_long)
    ∙ sym (flagged-append flat (flat_indices (start + m) others (drop n index)) flags (omega (arith, flat_long, all, flag_within)))
    ∙ ap (λ k. flagged_destinations (map (flat_index start m) (take k index) ++ flat_indices (start + m) others (drop k index)) flags) (sym long)

-- ---- of a back permute

outside_one : (start m whole : ℕ) (i : ℤ) → start + m ≤ whole → outside whole (flat_index start m i) ≡ outside m i
outside_one start m whole (negsuc a) within = refl
outside_one start m whole (pos a) within =
    elim (leb_tells (suc a) m) [
      | inl inside ↦
          let lt : a < m = omega (arith, inside.1) in
          ap (λ b. outside whole (if b then pos (start + a) else negsuc 0)) (lt-ltb a m lt)
          ∙ ap (λ b. if b then None else Some IndexOutOfRange) (lt-ltb (start + a) whole (omega (arith, lt, within)) ∙ sym (lt-ltb a m lt))
      | inr out ↦
          let ge : m ≤ a = omega (arith, out.1) in
          ap (λ b. outside whole (if b then pos (start + a) else negsuc 0)) (le-ltb a m ge) ∙ ap (λ b. if b then None else Some IndexOutOfRange) (sym (le-ltb a m ge))
    ]

pub outside_flat : (place start whole : ℕ) (widths lengths : List ℕ) (index : List ℤ) → length widths ≡ length lengths → sum lengths ≤ length index → start + sum widths ≤ whole
    → outside_from place widths lengths index ≡ first_outside place whole (flat_indices start (all_in_segments lengths widths index) index)
outside_flat place start whole [] [] index count total within = refl
outside_flat place start whole [] (n ∷ ns) index count total within = absurd (omega (arith, count))
outside_flat place start whole (m ∷ ms) [] index count total within = absurd (omega (arith, count))
outside_flat place start whole (m ∷ ms) (n ∷ ns) index count total within =
    let all = sum-cons n ns in
    let wide = sum-cons m ms in
    let js = take n index in
    let others = flat_indices (start + m) (all_in_segments ns ms (drop n index)) (drop n index) in
    let index_long : length js ≡ n = length-take-le n index (omega (arith, all, total)) in
    let long : length (all_destinations js) ≡ n = length-all_destinations js ∙ index_long in
    ap (option_or (first_outside place m js)) (outside_flat (place + n) (start + m) whole ms ns (drop n index) (omega (arith, count)) (omega (arith, all, total, length-drop n index))
    (omega (arith, wide, within)))
    ∙ ap (λ k. option_or (first_outside place m js) (first_outside (place + k) whole others)) (sym (length-map js (outside m) ∙ index_long))
    ∙ sym (first_fault-append place (map (outside m) js) (map (outside whole) others))
    ∙ ap (λ ws. first_fault place (ws ++ map (outside whole) others)) (sym (map-map (outside whole) (flat_index start m) js
    ∙ (λ i. map (λ j. outside_one start m whole j (omega (arith, wide, within)) i) js)))
    ∙ ap (first_fault place) (sym (map-append (outside whole) (map (flat_index start m) js) others))
    ∙ ap (λ k. first_outside place whole (map (flat_index start m) (take k index) ++ flat_indices (start + m) (all_in_segments ns ms (drop n index)) (drop k index))) (sym long)

-- ---- what a race at flat destinations finds

pub raced_flat : (segments : List (ℕ × List (Option ℤ))) (whole : ℕ) (ts : List (Option ℤ)) → places_in segments ≡ whole → ts ≡ flat_destinations 0 segments
    → unless (first_fault 0 (wrongs whole ts)) (Ok (senders_of 0 ts whole)) ≡ unless (fault_from 0 segments) (Ok (senders_from 0 segments))
raced_flat segments whole ts wide are =
    ap (λ us. unless (first_fault 0 (wrongs whole us)) (Ok (senders_of 0 us whole))) are
    ∙ (λ i. unless (sym (fault_flat segments whole wide) i) (Ok (sym (senders_flat segments whole wide) i)))

-- ---- a race for the senders

pub raced_within : (places : ℕ) (way : Way) → RacesWithin places way → {pace : Option TilesAndWorkers} {race : TilesAndWorkers} → pace ≡ pace_of way → pace ≡ Some race → places ≤ most_elements
raced_within places way few made is = subst (λ o. IfSome o (λ _. places ≤ most_elements)) (sym made ∙ is) few
