-- The first walk through the segments: what it has found after the first segments, and after all.
use Rattle.std.proofs.Common.{◌≡◌, ◌∙◌, cond, ℕ, zero, suc, ◌+◌, ◌-◌, ◌<◌, ◌≤◌, Bool, List, [], ◌∷◌, ◌++◌, length, map, sum, take, drop, get_or, replicate, refl, sym, ap, append_assoc, append-nil}
use Rattle.std.proofs.Common.{length-drop, arith, ℤ, Option, Some, None}
use Rattle.std.specs.List.{zip}
use Rattle.std.specs.Option.{option_or}
use Rattle.std.proofs.lemmas.List.{drop_more, drop_all, take_all, take-map, take-replicate, drop-replicate, drop-drop, get_or-map, length-map, length-take, length-take-le}
use Rattle.std.proofs.lemmas.List.Sums.{count_by-le-length, sum_by-append, sum_by-take-le, sum_by_more_le, sum_by_more}
use Rattle.std.proofs.lemmas.Simd.{map-map}
use Rattle.std.proofs.Math.Seq.{take-add}
use Rattle.std.proofs.lemmas.Slice.{take-put_mid, drop-put_mid}
use Rattle.std.proofs.lemmas.Slice.Zip.{firsts-zip, get_or-zip, length-zip, seconds-zip}
use borrow.Rule.Slice.PartMut.{put_mid, same_len_mid}
use Rattle.cvl_base.specs.declared.fault.Fault.{Fault}
use Rattle.cvl_base.specs.Nests.{cut_of}
use Rattle.cvl_base.specs.Packs.{count_of}
use Rattle.cvl_base.specs.Permutes.{all_destinations, first_fault, flagged_destinations, wrongs}
use Rattle.segment_sends.specs.SegmentDestinations.{fault_from, flagged_in_segments, all_in_segments, places_in, senders_from, destinations_in}
use Rattle.permute_walks.specs.Senders.{nobody, senders_of}
use Rattle.cvl_base.proofs.Nests.{cut_at, length-cut, lengths-cut}
use Rattle.cvl_base.proofs.Lists.{sum-cons}
use Rattle.cvl_base.proofs.Permutes.{length-all_destinations}
use Rattle.permute_walks.proofs.Sent.{length-senders_of, count-flagged_destinations}

-- the first s segments are done: their destinations end at the place given, and their places of the result at `start`
pub record IsSentThrough (segments : List (ℕ × List (Option ℤ))) (place start s : ℕ) (senders : List ℕ) : Type 0 where
  pub fault_is : fault_from 0 segments ≡ fault_from place (drop s segments)
  pub senders_are : take start senders ++ senders_from place (drop s segments) ≡ senders_from 0 segments
  pub rest_is : drop start senders ≡ replicate (length senders - start) nobody
  pub room_is : start + places_in (drop s segments) ≡ length senders
  pub left_is : place + destinations_in (drop s segments) ≡ destinations_in segments

pub through_none : (segments : List (ℕ × List (Option ℤ))) (senders : List ℕ) → senders ≡ replicate (length senders) nobody → places_in segments ≡ length senders → IsSentThrough segments 0 0 0 senders
through_none segments senders fresh room = record {
  fault_is = refl;
  senders_are = refl;
  rest_is = fresh ∙ ap (λ n. replicate n nobody) (omega arith);
  room_is = omega (arith, room);
  left_is = omega arith;
}

-- the next segment, whose range of the senders the code reads and writes
module _ {segments : List (ℕ × List (Option ℤ))} {place start s : ℕ} {senders : List ℕ} {m : ℕ} {ts : List (Option ℤ)} (to : IsSentThrough segments place start s senders) (lt : s < length segments)
    (is : get_or segments s (0, []) ≡ (m, ts)) where
  abbrev others : List (ℕ × List (Option ℤ))
  others = drop (s + 1) segments

  abbrev range : List ℕ
  range = take (start + m - start) (drop start senders)

  split : drop s segments ≡ (m, ts) ∷ others
  split = drop_more segments s (0, []) lt ∙ ap (λ p. p ∷ others) is

  room_more : start + m + places_in others ≡ length senders
  room_more = omega (arith, to.room_is, ap places_in split, sum-cons m (map (λ (p : ℕ × List (Option ℤ)). p.0) others))

  left_more : place + length ts + destinations_in others ≡ destinations_in segments
  left_more = omega (arith, to.left_is, ap destinations_in split, sum-cons (length ts) (map (λ (p : ℕ × List (Option ℤ)). length p.1) others))

  pub through_left : place + length ts ≤ destinations_in segments
  through_left = omega (arith, left_more)

  pub through_room : start + m ≤ length senders
  through_room = omega (arith, room_more)

  width : start + m - start ≡ m
  width = omega arith

  long : length range ≡ m
  long = length-take-le (start + m - start) (drop start senders) (omega (arith, width, through_room, length-drop start senders)) ∙ width

  pub range_fresh : range ≡ replicate (length range) nobody
  range_fresh = (λ i. take (width i) (to.rest_is i)) ∙ take-replicate m (length senders - start) nobody (omega (arith, room_more)) ∙ ap (λ n. replicate n nobody) (sym long)

  first_of_segment : fault_from 0 segments ≡ option_or (first_fault place (wrongs (length range) ts)) (fault_from (place + length ts) others)
  first_of_segment = to.fault_is ∙ ap (fault_from place) split ∙ ap (λ n. option_or (first_fault place (wrongs n ts)) (fault_from (place + length ts) others)) (sym long)

  pub range_fails : (f : Fault) → Some f ≡ first_fault place (wrongs (length range) ts) → Some f ≡ fault_from 0 segments
  range_fails f bad = sym (first_of_segment ∙ ap (λ o. option_or o (fault_from (place + length ts) others)) (sym bad))

  pub range_more : (sent new : List ℕ) (next : ℕ) → None ≡ first_fault place (wrongs (length range) ts) → sent ≡ senders_of place ts (length range)
      → new ≡ put_mid start (start + m - start) senders sent
      → place + length ts ≡ next → IsSentThrough segments next (start + m) (s + 1) new
  range_more sent new next right are put onward =
      let k = start + m - start in
      let sent_are : sent ≡ senders_of place ts m = are ∙ ap (senders_of place ts) long in
      let wide : length sent ≡ m = ap length sent_are ∙ length-senders_of place ts m in
      let within : start + m ≤ length senders = through_room in
      let as_long : length new ≡ length senders = ap length put ∙ same_len_mid start k senders sent (wide ∙ sym long) in
      record {
        fault_is = first_of_segment ∙ (λ i. option_or (sym right i) (fault_from (onward i) others));
        senders_are = (λ i. take (start + m) (put i) ++ senders_from (sym onward i) others)
            ∙ ap (λ xs. xs ++ senders_from (place + length ts) others)
            (take-put_mid start k senders sent (start + m) (omega (arith, width, wide)) (omega (arith, width, within)) ∙ ap (λ xs. take start senders ++ xs) sent_are)
            ∙ append_assoc (take start senders) (senders_of place ts m) (senders_from (place + length ts) others)
            ∙ ap (λ ps. take start senders ++ senders_from place ps) (sym split)
            ∙ to.senders_are;
        rest_is = ap (drop (start + m)) put
            ∙ drop-put_mid start k senders sent (start + m) (omega (arith, width)) (omega (arith, width, wide)) (omega (arith, width, within))
            ∙ sym (drop-drop m start senders)
            ∙ ap (drop m) to.rest_is
            ∙ drop-replicate m (length senders - start) nobody
            ∙ ap (λ n. replicate n nobody) (omega (arith, as_long, within));
        room_is = omega (arith, room_more, as_long);
        left_is = omega (arith, left_more, onward);
      }

pub through_all : {segments : List (ℕ × List (Option ℤ))} {place start s : ℕ} {senders : List ℕ} → IsSentThrough segments place start s senders → length segments ≤ s
    → (None ≡ fault_from 0 segments) × (senders ≡ senders_from 0 segments)
through_all {segments = segments} {place = place} {start = start} {s = s} {senders = senders} to past =
    let none = drop_all s segments past in
    let full : start ≡ length senders = omega (arith, to.room_is, ap places_in none) in (
      sym (to.fault_is ∙ ap (fault_from place) none),
      sym (sym to.senders_are ∙ ap (λ ps. take start senders ++ senders_from place ps) none ∙ append-nil (take start senders) ∙ take_all start senders (omega (arith, full))),
    )

-- ---- the segments where each place takes part

module _ (lengths result_lengths : List ℕ) (index : List ℤ) (count : length lengths ≡ length result_lengths) where
  pub length-all : length (all_in_segments lengths result_lengths index) ≡ length lengths
  length-all = omega (arith, length-zip result_lengths (map all_destinations (cut_of lengths index)), length-map (cut_of lengths index) all_destinations, length-cut lengths index)

  pub segment_at : (s : ℕ) → s < length lengths → get_or (all_in_segments lengths result_lengths index) s (0, [])
      ≡ (get_or result_lengths s 0, all_destinations (take (get_or lengths s 0) (drop (sum (take s lengths)) index)))
  segment_at s lt =
      let long = length-cut lengths index in
      get_or-zip result_lengths (map all_destinations (cut_of lengths index)) s (0, []) (omega arith) (omega (arith, length-map (cut_of lengths index) all_destinations))
      ∙ ap (λ ts. (get_or result_lengths s 0, ts)) (get_or-map all_destinations (cut_of lengths index) s [] [] (omega arith) ∙ ap all_destinations (cut_at lengths index s lt))

  pub places-all : places_in (all_in_segments lengths result_lengths index) ≡ sum result_lengths
  places-all = ap sum (firsts-zip result_lengths (map all_destinations (cut_of lengths index)) (omega (arith, length-map (cut_of lengths index) all_destinations, length-cut lengths index)))

-- ---- a segment lies in the vector

module _ {X : Type 0} (lengths : List ℕ) (xs : List X) (total : sum lengths ≡ length xs) (s : ℕ) (lt : s < length lengths) where
  pub segment_within : sum (take s lengths) + get_or lengths s 0 ≤ length xs
  segment_within = omega (arith, total, sum_by_more_le (λ x. x) lengths s 0 lt)

  pub length-segment : length (take (get_or lengths s 0) (drop (sum (take s lengths)) xs)) ≡ get_or lengths s 0
  length-segment = length-take-le (get_or lengths s 0) (drop (sum (take s lengths)) xs) (omega (arith, segment_within, length-drop (sum (take s lengths)) xs))

pub start_more : (lengths : List ℕ) (s : ℕ) → s < length lengths → sum (take (s + 1) lengths) ≡ sum (take s lengths) + get_or lengths s 0
start_more lengths s lt = sum_by_more (λ x. x) lengths s 0 lt

-- ---- the segments of flagged places

abbrev flagged_segment : List ℤ × List Bool → ℕ × List (Option ℤ)
flagged_segment p = (count_of p.1, flagged_destinations p.0 p.1)

pub flagged_places_ahead : (lengths : List ℕ) (index : List ℤ) (flags : List Bool) (s : ℕ) → places_in (take s (flagged_in_segments lengths index flags)) ≡ count_of (take (sum (take s lengths)) flags)
flagged_places_ahead [] index flags zero = refl
flagged_places_ahead [] index flags (suc s) = refl
flagged_places_ahead (n ∷ ns) index flags zero = refl
flagged_places_ahead (n ∷ ns) index flags (suc s) =
    let k = sum (take s ns) in
    let cut : take (sum (take (suc s) (n ∷ ns))) flags ≡ take n flags ++ take k (drop n flags) = ap (λ j. take j flags) (sum-cons n (take s ns)) ∙ take-add n k flags in
    omega (
      arith,
      sum-cons (count_of (take n flags)) (map (λ (p : ℕ × List (Option ℤ)). p.0) (take s (flagged_in_segments ns (drop n index) (drop n flags)))),
      flagged_places_ahead ns (drop n index) (drop n flags) s,
      ap count_of cut,
      sum_by-append (λ (f : Bool). cond f 1 0) (take n flags) (take k (drop n flags)),
    )

module _ (lengths : List ℕ) (index : List ℤ) (flags : List Bool) where
  pub length-flagged : length (flagged_in_segments lengths index flags) ≡ length lengths
  length-flagged =
      omega (
        arith,
        length-map (zip (cut_of lengths index) (cut_of lengths flags)) flagged_segment,
        length-zip (cut_of lengths index) (cut_of lengths flags),
        length-cut lengths index,
        length-cut lengths flags,
      )

  pub flagged_segment_at : (s : ℕ) → s < length lengths
      → get_or (flagged_in_segments lengths index flags) s (0, [])
      ≡ (
        count_of (take (get_or lengths s 0) (drop (sum (take s lengths)) flags)),
        flagged_destinations (take (get_or lengths s 0) (drop (sum (take s lengths)) index))
            (take (get_or lengths s 0) (drop (sum (take s lengths)) flags)),
      )
  flagged_segment_at s lt =
      let long = length-cut lengths index in
      let flag_long = length-cut lengths flags in
      get_or-map flagged_segment (zip (cut_of lengths index) (cut_of lengths flags)) s ([], []) (0, []) (omega (arith, length-zip (cut_of lengths index) (cut_of lengths flags)))
      ∙ ap flagged_segment (get_or-zip (cut_of lengths index) (cut_of lengths flags) s ([], []) (omega arith) (omega arith))
      ∙ (λ i. (count_of (cut_at lengths flags s lt i), flagged_destinations (cut_at lengths index s lt i) (cut_at lengths flags s lt i)))

  pub places-flagged : sum lengths ≡ length flags → places_in (flagged_in_segments lengths index flags) ≡ count_of flags
  places-flagged total =
      let n = length lengths in
      let all : sum (take n lengths) ≡ length flags = ap sum (take_all n lengths (omega arith)) ∙ total in
      ap places_in (sym (take_all n (flagged_in_segments lengths index flags) (omega (arith, length-flagged))))
      ∙ flagged_places_ahead lengths index flags n
      ∙ ap count_of (take_all (sum (take n lengths)) flags (omega (arith, all)))

-- ---- how many places and destinations the segments before one have

pub each_long : (lengths widths : List ℕ) (index : List ℤ) → sum lengths ≤ length index → length lengths ≡ length widths → map (λ p. length p.1) (all_in_segments lengths widths index) ≡ lengths
each_long lengths widths index total count =
    let segments = cut_of lengths index in
    let long : length (map all_destinations segments) ≡ length widths = omega (arith, length-map segments all_destinations, length-cut lengths index, count) in
    sym (map-map length (λ (p : ℕ × List (Option ℤ)). p.1) (all_in_segments lengths widths index)) ∙ ap (map length) (seconds-zip widths (map all_destinations segments) long)
    ∙ map-map length all_destinations segments ∙ (λ i. map (λ js. length-all_destinations js i) segments) ∙ lengths-cut lengths index total

pub destinations-all : (lengths widths : List ℕ) (index : List ℤ) → sum lengths ≡ length index → length lengths ≡ length widths → destinations_in (all_in_segments lengths widths index) ≡ length index
destinations-all lengths widths index total count = ap sum (each_long lengths widths index (omega (arith, total)) count) ∙ total

module _ (lengths widths : List ℕ) (index : List ℤ) (count : length lengths ≡ length widths) (s : ℕ) where
  pub places_ahead : places_in (take s (all_in_segments lengths widths index)) ≡ sum (take s widths)
  places_ahead =
      ap sum (sym (take-map (λ (p : ℕ × List (Option ℤ)). p.0) s (all_in_segments lengths widths index))
      ∙ ap (take s) (firsts-zip widths (map all_destinations (cut_of lengths index)) (omega (arith, length-map (cut_of lengths index) all_destinations, length-cut lengths index, count))))

  pub destinations_ahead : sum lengths ≡ length index → destinations_in (take s (all_in_segments lengths widths index)) ≡ sum (take s lengths)
  destinations_ahead total =
      ap sum (sym (take-map (λ (p : ℕ × List (Option ℤ)). length p.1) s (all_in_segments lengths widths index)) ∙ ap (take s) (each_long lengths widths index (omega (arith, total)) count))

pub flagged_long : (lengths : List ℕ) (index : List ℤ) (flags : List Bool) → sum lengths ≤ length index → sum lengths ≤ length flags
    → map (λ p. length p.1) (flagged_in_segments lengths index flags) ≡ lengths
flagged_long [] index flags total flag_total = refl
flagged_long (n ∷ ns) index flags total flag_total =
    let all = sum-cons n ns in
    let index_long : length (take n index) ≡ n = length-take-le n index (omega (arith, all, total)) in
    let flags_long : length (take n flags) ≡ n = length-take-le n flags (omega (arith, all, flag_total)) in
    let here : length (flagged_destinations (take n index) (take n flags)) ≡ n = omega (arith, count-flagged_destinations (take n index) (take n flags), index_long, flags_long) in
    let rest = flagged_long ns (drop n index) (drop n flags) (omega (arith, all, total, length-drop n index)) (omega (arith, all, flag_total, length-drop n flags)) in
    λ i. here i ∷ rest i

pub destinations-flagged : (lengths : List ℕ) (index : List ℤ) (flags : List Bool) → sum lengths ≡ length index → sum lengths ≡ length flags
    → destinations_in (flagged_in_segments lengths index flags) ≡ length index
destinations-flagged lengths index flags total flag_total = ap sum (flagged_long lengths index flags (omega (arith, total)) (omega (arith, flag_total))) ∙ total

pub start_within : (lengths : List ℕ) (s n : ℕ) → sum lengths ≡ n → sum (take s lengths) ≤ n
start_within lengths s n total = omega (arith, total, sum_by-take-le (λ x. x) lengths s)

-- of a segment's flags no more are true
pub flagged_width : (lengths : List ℕ) (index : List ℤ) (flags : List Bool) (s : ℕ) → s < length lengths → (get_or (flagged_in_segments lengths index flags) s (0, [])).0 ≤ get_or lengths s 0
flagged_width lengths index flags s lt =
    let fs = take (get_or lengths s 0) (drop (sum (take s lengths)) flags) in
    omega (
      arith,
      ap (λ (p : ℕ × List (Option ℤ)). p.0) (flagged_segment_at lengths index flags s lt),
      count_by-le-length (λ (flag : Bool). flag) fs,
      length-take (get_or lengths s 0) (drop (sum (take s lengths)) flags),
    )

-- how many there are in all
pub ruleset segment_counts = (length-all, places-all, destinations-all, length-flagged, places-flagged, destinations-flagged)

-- a list of which each element is read
pub ruleset mapped = (length-map, take-map)
