-- What the indices of a segmented back permute take: a list for each segment, of which the code reads a part by ranges of source and
-- index; and what a run holds while it is written segment by segment.
use Rattle.std.proofs.Common.{◌≡◌, ◌∙◌, ℕ, zero, suc, ◌+◌, ◌-◌, ◌<◌, ◌≤◌, List, [], ◌∷◌, ◌++◌, length, map, sum, take, drop, get_or, refl, sym, ap, length-drop, arith, inl, inr}
use Rattle.std.proofs.Common.{ℤ, option_map, slice_get, Option, Some, None, Ok}
use Rattle.std.specs.Prelude.{min, unwrap_or}
use Rattle.std.specs.Option.{option_or}
use Rattle.std.proofs.lemmas.List.{drop-drop, drop-take, length-map, length-take-le, map-append, take-take, take_all}
use Rattle.std.proofs.lemmas.Bool.{cases_lt}
use Rattle.std.proofs.lemmas.Option.{none-some}
use Rattle.fresh.specs.Found.{first_without}
use Rattle.fresh.specs.Parts.{length_part, part}
use Rattle.fresh.specs.Places.{Stretch, somes, stretch, with_items}
use Rattle.fresh.proofs.FirstWithout.{first_of_both}
use Rattle.fresh.proofs.Halves.{part_map}
use Rattle.segdes.specs.Starts.{start_of}
use Rattle.segdes.proofs.ListRuns.{list-long, lists-many, part-joined, part-more, whole-long}
use Rattle.segdes.proofs.Searched.{start_of_mono}
use Rattle.cvl_base.specs.declared.fault.FaultNo.TheVariants.{IndexOutOfRange}
use Rattle.cvl_base.specs.Extracts.{element_at}
use Rattle.cvl_base.specs.Faults.{fault_at}
use Rattle.cvl_base.specs.Gives.{unless}
use Rattle.cvl_base.specs.SegmentedCalls.{seg_back_of}
use Rattle.cvl_base.proofs.Lists.{sum-cons}
use Rattle.permute_walks.specs.Indices.{each_or}
use Rattle.permute_walks.proofs.TakenOr.{values_told}
use Rattle.permute_walks.proofs.Told.{IsTold}
use Rattle.segmented_permutes.specs.Backs.{IsSegmentedBack, lists_at, outside_from, values_at}
use Rattle.segmented_permutes.proofs.Backed.{outside_valued, seg_back_values}
use Rattle.segment_sends.proofs.Ranges.{range_is}
use Rattle.segment_sends.proofs.Through.{start_more}

part_of_front : {X : Type 0} (xs : List X) (n p k : ℕ) → p + k ≤ n → part (take n xs) p k ≡ part xs p k
part_of_front xs n p k within =
    let split : n ≡ p + (n - p) = omega arith in
    ap (λ j. take k (drop p (take j xs))) split ∙ ap (take k) (drop-take p (n - p) xs) ∙ take-take k (n - p) (drop p xs) (omega arith)

module _ {X : Type 0} where
  -- each is as long as its segment of the index
  lists_long : (widths : List ℕ) (source : List X) (lengths : List ℕ) (index : List ℤ) → length widths ≡ length lengths → sum lengths ≤ length index
      → lengths ≡ map length (lists_at widths source lengths index)
  lists_long [] source [] index count total = refl
  lists_long [] source (n ∷ ns) index count total = absurd (omega arith)
  lists_long (m ∷ ms) source [] index count total = absurd (omega arith)
  lists_long (m ∷ ms) source (n ∷ ns) index count total =
      let all = sum-cons n ns in
      let here : n ≡ length (map (element_at (take m source)) (take n index)) =
      sym (length-map (take n index) (element_at (take m source)) ∙ length-take-le n index (omega (arith, all, total))) in
      let rest = lists_long ms (drop m source) ns (drop n index) (omega arith) (omega (arith, all, total, length-drop n index)) in
      λ i. here i ∷ rest i

  list_is : (widths : List ℕ) (source : List X) (lengths : List ℕ) (index : List ℤ) (s : ℕ) → length widths ≡ length lengths → s < length lengths
      → get_or (lists_at widths source lengths index) s []
      ≡ map (element_at (take (get_or widths s 0) (drop (sum (take s widths)) source))) (take (get_or lengths s 0) (drop (sum (take s lengths)) index))
  list_is [] source lengths index s count lt = absurd (omega arith)
  list_is (m ∷ ms) source [] index s count lt = absurd (omega arith)
  list_is (m ∷ ms) source (n ∷ ns) index zero count lt = refl
  list_is (m ∷ ms) source (n ∷ ns) index (suc s) count lt =
      let from = drop-drop (sum (take s ms)) m source ∙ ap (λ j. drop j source) (sym (sum-cons m (take s ms))) in
      let at = drop-drop (sum (take s ns)) n index ∙ ap (λ j. drop j index) (sym (sum-cons n (take s ns))) in
      list_is ms (drop m source) ns (drop n index) s (omega arith) (omega arith) ∙ (λ i. map (element_at (take (get_or ms s 0) (from i))) (take (get_or ns s 0) (at i)))

  module _ {widths : List ℕ} {source : List X} {lengths : List ℕ} {index : List ℤ} (fits : IsSegmentedBack widths source lengths index) where
    lengths_are : lengths ≡ map length (lists_at widths source lengths index)
    lengths_are = lists_long widths source lengths index fits.count (omega (arith, fits.total))

    pub length-values : length (values_at widths source lengths index) ≡ length index
    length-values = whole-long (lists_at widths source lengths index) lengths lengths_are ∙ fits.total

    -- what some indices of one segment take
    pub values_part : (s p k : ℕ) → s < length lengths → start_of lengths s ≤ p → p + k ≤ start_of lengths (s + 1)
        → part (values_at widths source lengths index) p k ≡ map (element_at (take (get_or widths s 0) (drop (start_of widths s) source))) (part index p k)
    values_part s p k lt begins ends =
        let start = start_of lengths s in
        let from = p - start in
        let n = get_or lengths s 0 in
        let lists = lists_at widths source lengths index in
        let read = element_at (take (get_or widths s 0) (drop (start_of widths s) source)) in
        let within : from + k ≤ n = omega (arith, begins, ends, start_more lengths s lt) in
        let there : p ≡ sum (take s (map length lists)) + from = omega (arith, begins, ap (λ ns. start_of ns s) lengths_are) in
        let long : from + k ≤ length (get_or lists s []) = omega (arith, within, list-long lists lengths lengths_are s lt) in
        let many : s < length lists = omega (arith, lt, lists-many lists lengths lengths_are) in
        let back : start + from ≡ p = omega (arith, begins) in
        ap (λ q. part (values_at widths source lengths index) q k) there
        ∙ part-joined lists s from k many long
        ∙ ap (λ vs. part vs from k) (list_is widths source lengths index s fits.count lt)
        ∙ sym (part_map read (take n (drop start index)) from k)
        ∙ ap (map read) (part_of_front (drop start index) n from k within ∙ ap (take k) (drop-drop from start index) ∙ ap (λ q. part index q k) back)

    -- as the code reads them
    pub values_read : (s start m first k place n : ℕ) → s < length lengths → start ≡ start_of widths s → m ≡ get_or widths s 0 → first ≡ place → k ≡ n → start_of lengths s ≤ place
        → place + n ≤ start_of lengths (s + 1)
        → map (element_at (take (start + m - start) (drop start source))) (take (first + k - first) (drop first index)) ≡ part (values_at widths source lengths index) place n
    values_read s start m first k place n lt there wide at is begins ends =
        let many : first + k - first ≡ n = omega (arith, is) in
        (λ i. map (element_at (range_is widths source fits.source_total s (omega (arith, lt, fits.count)) start m there wide i)) (take (many i) (drop (at i) index)))
        ∙ sym (values_part s place n lt begins ends)

-- ---- the walk

-- the last segment that starts before some place, or at it
starts_at : (d : List ℕ) (first before begin : ℕ) → begin ≡ before - 1 → ((s : ℕ) → s < before → start_of d s < first + 1) → start_of d begin ≤ first
starts_at d first zero begin is earlier = let none : begin ≡ 0 = omega (arith, is) in omega (arith, ap (start_of d) none)
starts_at d first (suc before) begin is earlier = omega (arith, earlier begin (omega (arith, is)))

-- behind all segments is their total
pub reaches : (d : List ℕ) (s place : ℕ) → (s < length d → place ≤ start_of d s) → place ≤ sum d → place ≤ start_of d s
reaches d s place later within =
    elim (cases_lt s (length d)) [
      | inl lt ↦ later lt
      | inr ge ↦ omega (arith, within, ap sum (take_all s d ge))
    ]

-- What a walk from segment to segment has written of an empty run, and found in it, when it comes to segment s.
pub record IsTaken {X : Type 0} (values : List (Option X)) (other : X) (d : List ℕ) (old : Stretch X) (s : ℕ) (now : Stretch X) (found : Option ℕ) : Type 0 where
  pub count : ℕ
  pub held : now ≡ stretch old.block old.first (each_or other (part values old.first count)) (old.room - count)
  pub told : found ≡ first_without old.first (part values old.first count)
  pub few : count ≤ old.room
  pub begins : min (old.first + old.room) (start_of d s) ≤ old.first + count
  pub ends : old.first + count ≤ start_of d (s + 1)

-- The run's next place is one of segment s or its end, and the room has all that is left of the segment.
pub record IsLeftWhole {X : Type 0} (d : List ℕ) (s : ℕ) (now : Stretch X) : Type 0 where
  pub begins : start_of d s ≤ now.first + length now.items
  pub ends : now.first + length now.items ≤ start_of d (s + 1)
  pub room : start_of d (s + 1) ≤ now.first + length now.items + now.room

module _ {X : Type 0} {values : List (Option X)} {other : X} {d : List ℕ} {old : Stretch X} (empty : old.items ≡ []) (within : old.first + old.room ≤ length values) where
  taken_none : (s : ℕ) → start_of d s ≤ old.first → old.first ≤ start_of d (s + 1) → IsTaken values other d old s old None
  taken_none s begins ends =
      let room : old.room ≡ old.room - 0 = omega arith in
      record {
        count = 0;
        held = λ i. stretch old.block old.first (empty i) (room i);
        told = refl;
        few = omega arith;
        begins = omega (arith, begins);
        ends = omega (arith, ends);
      }

  -- the walk begins at the last segment that starts before the run's first place, or at it
  pub taken_first : (first before begin : ℕ) → first ≡ old.first → begin ≡ before - 1 → old.first + old.room ≤ sum d → ((s : ℕ) → s < before → start_of d s < first + 1)
      → ((s : ℕ) → before ≤ s → s < length d → first + 1 ≤ start_of d s) → IsTaken values other d old begin old None
  taken_first first before begin there is total earlier later =
      taken_none begin (omega (arith, there, starts_at d first before begin is earlier))
      (reaches d (begin + 1) old.first (λ lt. omega (arith, there, later (begin + 1) (omega (arith, is)) lt)) (omega (arith, total)))

  module _ {s : ℕ} {now : Stretch X} {found : Option ℕ} (w : IsTaken values other d old s now found) where
    long : length (part values old.first w.count) ≡ w.count
    long = length_part values old.first w.count (omega (arith, within, w.few))

    pub taken_place : now.first + length now.items ≡ old.first + w.count
    taken_place = omega (arith, ap (λ (r : Stretch X). r.first) w.held, ap (λ (r : Stretch X). length r.items) w.held, length-map (part values old.first w.count) (λ v. unwrap_or v other), long)

    pub taken_room : now.room ≡ old.room - w.count
    taken_room = ap (λ (r : Stretch X). r.room) w.held

    pub left_from : start_of d s < old.first + old.room → start_of d s ≤ now.first + length now.items
    left_from before = omega (arith, taken_place, w.begins, before)

    pub left_whole : start_of d s < old.first + old.room → start_of d (s + 1) ≤ old.first + old.room → IsLeftWhole d s now
    left_whole before past = record {
      begins = left_from before;
      ends = omega (arith, taken_place, w.ends);
      room = omega (arith, taken_place, taken_room, w.few, past);
    }

    -- all that is left of the segment, or as much as there is room for
    pub taken_next : (place k : ℕ) (next : Stretch X) (here now_found : Option ℕ) → s < length d → place ≡ now.first + length now.items → k ≡ min (start_of d (s + 1) - place) now.room
        → next ≡ with_items now (each_or other (part values place k)) → here ≡ first_without place (part values place k) → now_found ≡ option_or found here
        → IsTaken values other d old (s + 1) next now_found
    taken_next place k next here now_found lt at is pushed first are =
        let there : place ≡ old.first + w.count = at ∙ taken_place in
        let more : part values old.first (w.count + k) ≡ part values old.first w.count ++ part values place k =
        part-more values old.first w.count k ∙ ap (λ p. part values old.first w.count ++ part values p k) (sym there) in
        let wide : length (part values place k) ≡ k = length_part values place k (omega (arith, there, is, taken_room, within, w.few)) in
        let room : old.room - w.count - length (each_or other (part values place k)) ≡ old.room - (w.count + k) =
        omega (arith, length-map (part values place k) (λ v. unwrap_or v other), wide) in
        let items : each_or other (part values old.first w.count) ++ each_or other (part values place k) ≡ each_or other (part values old.first (w.count + k)) =
        sym (ap (each_or other) more ∙ map-append (λ v. unwrap_or v other) (part values old.first w.count) (part values place k)) in
        let spot : place ≡ old.first + length (part values old.first w.count) = omega (arith, there, long) in
        record {
          count = w.count + k;
          held = pushed ∙ ap (λ (r : Stretch X). with_items r (each_or other (part values place k))) w.held ∙ (λ i. stretch old.block old.first (items i) (room i));
          told = are ∙ (λ i. option_or (w.told i) (first i))
              ∙ ap (λ p. option_or (first_without old.first (part values old.first w.count)) (first_without p (part values place k))) spot
              ∙ sym (ap (first_without old.first) more ∙ first_of_both old.first (part values old.first w.count) (part values place k));
          few = omega (arith, is, taken_room, w.few);
          begins = omega (arith, there, is, taken_room, w.few, w.ends);
          ends = omega (arith, there, is, w.ends, start_of_mono d (s + 1) (s + 1 + 1) (omega arith));
        }

    pub taken_all : (last : ℕ) → old.first + old.room ≤ start_of d last → last ≤ s
        → (now ≡ stretch old.block old.first (part (each_or other values) old.first old.room) 0) × (found ≡ first_without old.first (part values old.first old.room))
    taken_all last past to =
        let all : w.count ≡ old.room = omega (arith, past, start_of_mono d last s to, w.begins, w.few) in
        let none : old.room - w.count ≡ 0 = omega (arith, all) in (
          w.held ∙ (λ i. stretch old.block old.first (each_or other (part values old.first (all i))) (none i))
              ∙ ap (λ xs. stretch old.block old.first xs 0) (part_map (λ v. unwrap_or v other) values old.first old.room),
          w.told ∙ ap (λ k. first_without old.first (part values old.first k)) all,
        )

-- ---- the call

module _ {X : Type 0} (source : List X) (index : List ℤ) (widths lengths : List ℕ) (fits : IsSegmentedBack widths source lengths index) where
  abbrev values : List (Option X)
  values = values_at widths source lengths index

  outside_is : outside_from 0 widths lengths index ≡ option_map (λ p. fault_at IndexOutOfRange p) (first_without 0 values)
  outside_is = outside_valued 0 widths source lengths index (omega (arith, fits.source_total)) (omega (arith, fits.total))

  none_without : (o : Option ℕ) → None ≡ option_map (λ p. fault_at IndexOutOfRange p) o → o ≡ None
  none_without None none = refl
  none_without (Some p) none = absurd (none-some (fault_at IndexOutOfRange p) none)

  pub each_inside : None ≡ outside_from 0 widths lengths index → first_without 0 values ≡ None
  each_inside none = none_without (first_without 0 values) (none ∙ outside_is)

  length-taken : (vs : List (Option X)) (place : ℕ) → first_without place vs ≡ None → length (somes vs) ≡ length vs
  length-taken [] place none = refl
  length-taken (None ∷ vs) place none = absurd (none-some place (sym none))
  length-taken (Some x ∷ vs) place none = omega (arith, length-taken vs (place + 1) none)

  pub seg_back_told : IsTold (seg_back_of source index widths lengths) (outside_from 0 widths lengths index) (somes values) (length index)
  seg_back_told = record {
    is = seg_back_values source index widths lengths fits.source_total fits.total fits.count
        ∙ values_told IndexOutOfRange 0 values
        ∙ ap (λ o. unless o (Ok (somes values))) (sym outside_is);
    long = λ none. length-taken values 0 (each_inside none) ∙ length-values fits;
  }

pub fitting : {X : Type 0} (source : List X) (index : List ℤ) (widths lengths : List ℕ) → sum widths ≡ length source → sum lengths ≡ length index → length widths ≡ length lengths
    → IsSegmentedBack widths source lengths index
fitting source index widths lengths source_total total count = record { source_total = source_total; total = total; count = count }

pub no_first : {X : Type 0} (xs : List X) (first : Option X) → first ≡ slice_get xs 0 → first ≡ None → xs ≡ []
no_first [] first is none = refl
no_first (x ∷ xs) first is none = absurd (none-some x (sym none ∙ is))
