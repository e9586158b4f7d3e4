-- The destinations of a segment, as the code reads them by ranges of the index and the flags.
use Rattle.std.proofs.Common.{◌≡◌, ◌∙◌, ℕ, ◌+◌, ◌-◌, ◌<◌, Bool, List, [], length, take, drop, get_or, sum, sym, ap, arith, ℤ}
use Rattle.cvl_base.specs.Packs.{count_of}
use Rattle.cvl_base.specs.Permutes.{all_destinations, flagged_destinations}
use Rattle.segdes.specs.Starts.{start_of}
use Rattle.segment_sends.specs.SegmentDestinations.{flagged_in_segments, all_in_segments}
use Rattle.segment_sends.proofs.Through.{segment_at, flagged_segment_at, length-segment}

-- the range from `first` on, of n elements, is the segment
module _ {X : Type 0} (lengths : List ℕ) (xs : List X) (total : sum lengths ≡ length xs) (s : ℕ) (lt : s < length lengths)
    (first n : ℕ) (there : first ≡ start_of lengths s) (is : n ≡ get_or lengths s 0) where
  pub range_is : take (first + n - first) (drop first xs) ≡ take (get_or lengths s 0) (drop (start_of lengths s) xs)
  range_is =
      ap (λ k. take k (drop first xs)) (omega (arith, is)) ∙ ap (λ k. take (get_or lengths s 0) (drop k xs)) there

  pub length-range : length (take (first + n - first) (drop first xs)) ≡ n
  length-range = ap length range_is ∙ length-segment lengths xs total s lt ∙ sym is

module _ (lengths : List ℕ) (index : List ℤ) (total : sum lengths ≡ length index) (s first n m : ℕ) (lt : s < length lengths)
    (there : first ≡ start_of lengths s) (is : n ≡ get_or lengths s 0) where
  pub segment_of_range : (result_lengths : List ℕ) → length lengths ≡ length result_lengths → m ≡ get_or result_lengths s 0
      → get_or (all_in_segments lengths result_lengths index) s (0, []) ≡ (m, all_destinations (take (first + n - first) (drop first index)))
  segment_of_range result_lengths count wide =
      segment_at lengths result_lengths index count s lt
      ∙ (λ i. (sym wide i, all_destinations (sym (range_is lengths index total s lt first n there is) i)))

  pub flagged_segment_of_range : (flags : List Bool) → sum lengths ≡ length flags → m ≡ count_of (take (first + n - first) (drop first flags))
      → get_or (flagged_in_segments lengths index flags) s (0, [])
      ≡ (m, flagged_destinations (take (first + n - first) (drop first index)) (take (first + n - first) (drop first flags)))
  flagged_segment_of_range flags flag_total wide =
      let fs = range_is lengths flags flag_total s lt first n there is in
      flagged_segment_at lengths index flags s lt
      ∙ (λ i. (count_of (sym fs i), flagged_destinations (sym (range_is lengths index total s lt first n there is) i) (sym fs i)))
      ∙ ap (λ k. (k, flagged_destinations (take (first + n - first) (drop first index)) (take (first + n - first) (drop first flags)))) (sym wide)
