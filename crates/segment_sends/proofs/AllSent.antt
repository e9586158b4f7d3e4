-- Each place of a result by segments has a sender, where there is no fault.
use Rattle.std.proofs.Common.{◌≡◌, ◌∙◌, ℕ, suc, ◌+◌, ◌<◌, ◌≤◌, Bool, List, [], ◌∷◌, length, map, sum, get_or, refl, sym, ap, length-append, arith, ℤ, Option, Some, None}
use Rattle.std.specs.List.{sum_by}
use Rattle.std.specs.Option.{option_or}
use Rattle.std.proofs.lemmas.List.Elements.{All-append, All-nil, All-weaker}
use Rattle.std.proofs.lemmas.Option.{none-some}
use Rattle.cvl_base.specs.declared.fault.Fault.{Fault}
use Rattle.cvl_base.specs.Permutes.{first_fault, wrongs}
use Rattle.permute_walks.specs.Senders.{nobody, senders_of}
use Rattle.cvl_base.proofs.Lists.{sum-cons}
use Rattle.permute_walks.proofs.EachSent.{takes_part, each_sent, all_take_part, flagged_take_part}
use Rattle.permute_walks.proofs.Sent.{length-senders_of}
use Rattle.permute_walks.proofs.Told.{AreAllSent}
use Rattle.segment_sends.proofs.Through.{destinations-flagged, destinations-all, flagged_segment_at, length-flagged, length-all, length-segment, segment_at, places-all}
use Rattle.segment_sends.specs.SegmentDestinations.{destinations_in, fault_from, flagged_in_segments, all_in_segments, places_in, senders_from}

pub neither : (o others : Option Fault) → option_or o others ≡ None → (o ≡ None) × (others ≡ None)
neither None others none = (refl, none)
neither (Some f) others none = absurd (none-some f (sym none))

module _ (n : ℕ) (few : n ≤ nobody) where
  -- the destinations of all segments stand before n, and of each segment as many take part as its result has places
  each_segment_sent : (place : ℕ) (segments : List (ℕ × List (Option ℤ))) → place + destinations_in segments ≤ n
      → ((s : ℕ) → s < length segments → sum_by takes_part (get_or segments s (0, [])).1 ≡ (get_or segments s (0, [])).0) → AreAllSent (fault_from place segments) n (senders_from place segments)
  each_segment_sent place [] within as_many right = All-nil (λ s. s < n)
  each_segment_sent place ((m, ts) ∷ segments) within as_many right =
      let none = neither (first_fault place (wrongs m ts)) (fault_from (place + length ts) segments) right in
      let all = sum-cons (length ts) (map (λ (p : ℕ × List (Option ℤ)). length p.1) segments) in
      All-append (λ s. s < n) (senders_of place ts m) (senders_from (place + length ts) segments)
      (All-weaker (λ s. s < place + length ts) (λ s. s < n) (λ s below. omega (arith, within, all)) (senders_of place ts m)
      (each_sent place ts m (omega (arith, within, all)) (sym none.0) (as_many 0 (omega arith))))
      (each_segment_sent (place + length ts) segments (omega (arith, within, all)) (λ s lt. as_many (suc s) (omega arith)) none.1)

  pub segments_sent : (lengths : List ℕ) (index : List ℤ) → sum lengths ≡ length index → length index ≤ n
      → AreAllSent (fault_from 0 (all_in_segments lengths lengths index)) n (senders_from 0 (all_in_segments lengths lengths index))
  segments_sent lengths index total within =
      each_segment_sent 0 (all_in_segments lengths lengths index) (omega (arith, destinations-all lengths lengths index total refl, within)) (λ s lt.
      let in_lengths : s < length lengths = omega (arith, lt, length-all lengths lengths index refl) in
      let is = segment_at lengths lengths index refl s in_lengths in
      ap (λ (p : ℕ × List (Option ℤ)). sum_by takes_part p.1) is ∙ all_take_part _ ∙ length-segment lengths index total s in_lengths ∙ ap (λ (p : ℕ × List (Option ℤ)). p.0) (sym is))

  pub flagged_segments_sent : (lengths : List ℕ) (index : List ℤ) (flags : List Bool) → sum lengths ≡ length index → sum lengths ≡ length flags → length index ≤ n
      → AreAllSent (fault_from 0 (flagged_in_segments lengths index flags)) n (senders_from 0 (flagged_in_segments lengths index flags))
  flagged_segments_sent lengths index flags total flag_total within =
      each_segment_sent 0 (flagged_in_segments lengths index flags) (omega (arith, destinations-flagged lengths index flags total flag_total, within)) (λ s lt.
      let in_lengths : s < length lengths = omega (arith, lt, length-flagged lengths index flags) in
      let is = flagged_segment_at lengths index flags s in_lengths in
      let long = length-segment lengths index total s in_lengths ∙ sym (length-segment lengths flags flag_total s in_lengths) in
      ap (λ (p : ℕ × List (Option ℤ)). sum_by takes_part p.1) is ∙ flagged_take_part _ _ long ∙ ap (λ (p : ℕ × List (Option ℤ)). p.0) (sym is))

-- as many senders as places
pub length-senders_from : (place : ℕ) (segments : List (ℕ × List (Option ℤ))) → length (senders_from place segments) ≡ places_in segments
length-senders_from place [] = refl
length-senders_from place ((m, ts) ∷ segments) =
    omega (
      arith,
      length-append (senders_of place ts m) (senders_from (place + length ts) segments),
      length-senders_of place ts m,
      length-senders_from (place + length ts) segments,
      sum-cons m
          (map (λ (p : ℕ × List (Option ℤ)). p.0) segments),
    )

pub length-senders : (lengths widths : List ℕ) (index : List ℤ) → length lengths ≡ length widths → length (senders_from 0 (all_in_segments lengths widths index)) ≡ sum widths
length-senders lengths widths index count = length-senders_from 0 (all_in_segments lengths widths index) ∙ places-all lengths widths index count
