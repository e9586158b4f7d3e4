-- The walks of a simple permute by segments straight into a room: what the marks of each segment tell, and what the room holds.
use Rattle.std.proofs.Common.{◌≡◌, ◌∙◌, ℕ, zero, suc, ◌+◌, ◌-◌, ◌<◌, ◌≤◌, List, [], ◌∷◌, ◌++◌, length, filter_map, sum, take, drop, get_or, refl, sym, ap, arith, ℤ, slice_get, Option, Some, None}
use Rattle.std.proofs.lemmas.List.{take_all}
use Rattle.std.proofs.lemmas.List.Elements.{All-weaker}
use Rattle.std.proofs.lemmas.Option.{none-some}
use Rattle.std.proofs.lemmas.Slice.{take-put_mid}
use Rattle.std.proofs.Math.Seq.{take-add}
use borrow.Rule.Slice.PartMut.{put_mid, same_len_mid}
use Rattle.cvl_base.specs.declared.fault.FaultNo.{FaultNo}
use Rattle.cvl_base.specs.Faults.{fault_at}
use Rattle.cvl_base.specs.Limits.{most_places}
use Rattle.cvl_base.specs.Permutes.{all_destinations, first_fault, wrongs}
use Rattle.fresh.specs.Parts.{part, length_part}
use Rattle.segdes.specs.Starts.{start_of}
use Rattle.permute_walks.specs.Senders.{senders_of, written_over}
use Rattle.permute_walks.proofs.EachSent.{all_take_part, each_sent}
use Rattle.permute_walks.proofs.Scattered.{written_all}
use Rattle.cvl_base.proofs.Permutes.{length-all_destinations}
use Rattle.permute_walks.proofs.Sent.{length-senders_of}
use Rattle.permute_walks.proofs.Taken.{taken_flat, taken_part}
use Rattle.segment_sends.specs.SegmentDestinations.{destinations_in, fault_from, all_in_segments, places_in, senders_from}
use Rattle.segment_sends.specs.Shares.{fault_behind, segment_at, permuted}
use Rattle.segment_sends.proofs.Ranges.{length-range, segment_of_range}
use Rattle.segment_sends.proofs.Shared.{fault_at_end, fault_next, fault_passed, length-permuted, permuted_at}
use Rattle.segment_sends.proofs.Through.{destinations_ahead, length-all, places_ahead, places-all, segment_within}
use Rattle.segment_sends.proofs.AllSent.{neither, length-senders_from, segments_sent}

-- ---- what is wrong hangs on no place

no_fault_at : (p q : ℕ) (ws : List (Option FaultNo)) → None ≡ first_fault p ws → None ≡ first_fault q ws
no_fault_at p q [] none = refl
no_fault_at p q (None ∷ ws) none = no_fault_at (p + 1) (q + 1) ws none
no_fault_at p q (Some number ∷ ws) none = absurd (none-some (fault_at number p) none)

module _ (lengths : List ℕ) (index : List ℤ) (total : sum lengths ≡ length index) where
  abbrev pub segments : List (ℕ × List (Option ℤ))
  segments = all_in_segments lengths lengths index

  -- the range of a segment, as the code reads it
  module _ (s : ℕ) (lt : s < length lengths) (first n : ℕ) (there : first ≡ start_of lengths s) (is : n ≡ get_or lengths s 0) where
    abbrev segment : List ℤ
    segment = take (first + n - first) (drop first index)

    pub segment_long : length segment ≡ n
    segment_long = length-range lengths index total s lt first n there is

    segment_is : segment_at segments s ≡ (n, all_destinations segment)
    segment_is = segment_of_range lengths index total s first n n lt there is lengths refl is

    -- the segment at its place, and by itself
    wrongs_are : first_fault 0 (wrongs (length segment) (all_destinations segment)) ≡ first_fault 0 (wrongs (segment_at segments s).0 (segment_at segments s).1)
    wrongs_are = (λ i. first_fault 0 (wrongs (segment_long i) (all_destinations segment))) ∙ (λ i. first_fault 0 (wrongs (sym segment_is i).0 (sym segment_is i).1))

    in_segments : s < length segments
    in_segments = omega (arith, lt, length-all lengths lengths index refl)

    pub segment_passed : None ≡ first_fault 0 (wrongs (length segment) (all_destinations segment)) → fault_behind segments s ≡ fault_behind segments (s + 1)
    segment_passed right = fault_passed segments s in_segments (no_fault_at 0 (destinations_in (take s segments)) (wrongs (segment_at segments s).0 (segment_at segments s).1) (right ∙ wrongs_are))

    pub right_here : None ≡ fault_behind segments s → None ≡ first_fault 0 (wrongs (length segment) (all_destinations segment))
    right_here right =
        no_fault_at (destinations_in (take s segments)) 0 (wrongs (segment_at segments s).0 (segment_at segments s).1) (sym (neither _ _ (sym (right ∙ fault_next segments s in_segments))).0)
        ∙ sym wrongs_are

  -- where there is no fault, there is none behind any segment
  right_behind : None ≡ fault_from 0 segments → (s : ℕ) → s ≤ length segments → None ≡ fault_behind segments s
  right_behind right zero le = right
  right_behind right (suc s) le =
      let next : s + 1 ≡ suc s = omega arith in
      sym (neither _ _ (sym (right_behind right s (omega arith) ∙ fault_next segments s (omega arith)))).1 ∙ ap (fault_behind segments) next

  pub right_all : (s : ℕ) → fault_from 0 segments ≡ fault_behind segments s → length lengths ≤ s → None ≡ fault_from 0 segments
  right_all s same past = fault_at_end segments s (omega (arith, past, length-all lengths lengths index refl)) ∙ sym same

  -- ---- the room

  module _ {X : Type 0} (source : List X) (sourced : length source ≡ length index) (few : length index ≤ most_places) (right : None ≡ fault_from 0 segments) where
    abbrev whole : List X
    whole = permuted source segments source

    places_all : places_in segments ≡ length source
    places_all = places-all lengths lengths index refl ∙ total ∙ sym sourced

    pub whole_is : whole ≡ filter_map (slice_get source) (senders_from 0 segments)
    whole_is =
        written_all source (senders_from 0 segments) source (length-senders_from 0 segments ∙ places_all)
        (segments_sent (length source) (omega (arith, sourced, few)) lengths index total (omega (arith, sourced)) (sym right))

    whole_long : length whole ≡ length source
    whole_long = length-permuted source segments source places_all

    -- a segment of the room
    module _ (s : ℕ) (lt : s < length lengths) (first n : ℕ) (there : first ≡ start_of lengths s) (is : n ≡ get_or lengths s 0) where
      abbrev ys : List X
      ys = take (first + n - first) (drop first source)

      abbrev js : List ℤ
      js = segment s lt first n there is

      js_long : length js ≡ n
      js_long = segment_long s lt first n there is

      room_within : first + n ≤ length source
      room_within = omega (arith, is, there, sourced, segment_within lengths index total s lt)

      pub segment_right : None ≡ first_fault 0 (wrongs (length js) (all_destinations js))
      segment_right = right_here s lt first n there is (right_behind right s (omega (arith, lt, length-all lengths lengths index refl)))

      -- what it is sent
      segment_of_whole : filter_map (slice_get ys) (senders_of 0 (all_destinations js) (length js)) ≡ part whole first n
      segment_of_whole =
          let ts = all_destinations js in
          let ts_long : length ts ≡ n = length-all_destinations js ∙ js_long in
          let here = part source first n in
          let here_long : length here ≡ n = length_part source first n room_within in
          let ys_are : ys ≡ here = ap (λ k. take k (drop first source)) (omega arith) in
          let told = segment_is s lt first n there is in
          let start = places_ahead lengths lengths index refl s ∙ sym there in
          let place = destinations_ahead lengths lengths index refl s total ∙ sym there in
          let below = All-weaker (λ k. k < first + length ts) (λ k. k < length source) (λ k lt. omega (arith, lt, ts_long, room_within)) (senders_of first ts n)
          (each_sent first ts n (omega (arith, ts_long, room_within, sourced, few)) (no_fault_at 0 first (wrongs n ts) (segment_right ∙ ap (λ k. first_fault 0 (wrongs k ts)) js_long))
          (all_take_part js ∙ js_long)) in
          (λ i. filter_map (slice_get (ys_are i)) (senders_of 0 ts (js_long i)))
          ∙ taken_flat here ts n (here_long ∙ sym ts_long) (omega (arith, here_long, room_within, sourced, few))
          ∙ sym (taken_part source (omega (arith, sourced, few)) first n ts ts_long room_within n)
          ∙ sym (written_all source (senders_of first ts n) here (length-senders_of first ts n ∙ sym here_long) below)
          ∙ (λ i. written_over source (senders_of (sym place i) (sym told i).1 (sym told i).0) (part source (sym start i) (sym told i).0))
          ∙ sym (permuted_at source segments source s (omega (arith, lt, length-all lengths lengths index refl)))
          ∙ (λ i. part whole (start i) (told i).0)

      -- one more segment is written
      pub room_more : (out new : List X) → length out ≡ length index → take first out ≡ take first whole
          → new ≡ put_mid first (first + n - first) out (filter_map (slice_get ys) (senders_of 0 (all_destinations js) (length js)))
          → (length new ≡ length index) × (take (first + n) new ≡ take (first + n) whole)
      room_more out new long done put =
          let segment = filter_map (slice_get ys) (senders_of 0 (all_destinations js) (length js)) in
          let wide : length segment ≡ n = ap length segment_of_whole ∙ length_part whole first n (omega (arith, room_within, whole_long)) in (
            ap length put ∙ same_len_mid first (first + n - first) out segment (omega (arith, wide, length_part out first (first + n - first) (omega (arith, room_within, sourced, long)))) ∙ long,
            ap (take (first + n)) put
                ∙ take-put_mid first (first + n - first) out segment (first + n) (omega (arith, wide)) (omega (arith, room_within, sourced, long))
                ∙ (λ i. done i ++ segment_of_whole i) ∙ sym (take-add first n whole),
          )

    pub room_all : (s : ℕ) (out : List X) → length out ≡ length index → take (sum (take s lengths)) out ≡ take (sum (take s lengths)) whole → length lengths ≤ s
        → out ≡ filter_map (slice_get source) (senders_from 0 segments)
    room_all s out long done past =
        let all : sum (take s lengths) ≡ length index = ap sum (take_all s lengths past) ∙ total in
        sym (take_all (sum (take s lengths)) out (omega (arith, long, all))) ∙ done ∙ take_all (sum (take s lengths)) whole (omega (arith, whole_long, sourced, all)) ∙ whole_is
