-- Calls by segments that come as their lengths, whose caller may get anything wrong: each list of lengths is checked in turn, then
-- how long the index is, and then the call's own faults come.
-- Source: CVL's segmented calls, in this library's profile of calls for callers of another language.
use Rattle.std.specs.Prelude.{ℤ, Bool, List, Result}
use Rattle.cvl_base.specs.declared.fault.Fault.{Fault}
use Rattle.cvl_base.specs.SegmentedCalls.{seg_back_of, seg_default_of, seg_select_of, seg_simple_of}
use Rattle.c_calls.specs.Calls.{by_segments, in_limit}
use Rattle.combining_permutes.specs.CombiningPermutes.{seg_place_counts_of}
use Rattle.first_senders.specs.FirstSenders.{seg_first_senders_of, seg_select_first_senders_of}
use Rattle.flag_merges.specs.Merges.{seg_merge_of}
use Rattle.segment_slices.specs.Pairs.{append_segments_of}
use Rattle.segment_slices.specs.Slices.{gather_segments_of}

module _ {X : Type 0} where
  -- each segment of the source, at the places that its indices name
  abbrev pub simple_by_lengths : List X → List ℤ → List ℤ → Result (List X) Fault
  simple_by_lengths source index lengths = by_segments lengths (λ d. in_limit index (seg_simple_of source index d))

  -- the same of the elements whose flags are true
  abbrev pub select_by_lengths : List X → List ℤ → List Bool → List ℤ → Result (List X) Fault
  select_by_lengths source index flags lengths = by_segments lengths (λ d. in_limit index (seg_select_of source index flags d))

  -- into segments of other lengths, over the defaults there
  abbrev pub default_by_lengths : List X → List ℤ → List X → List ℤ → List ℤ → Result (List X) Fault
  default_by_lengths source index defaults lengths default_lengths =
      by_segments lengths (λ d. by_segments default_lengths (λ e. in_limit index (seg_default_of source index defaults d e)))

  -- the index has segments of its own
  abbrev pub back_by_lengths : List X → List ℤ → List ℤ → List ℤ → Result (List X) Fault
  back_by_lengths source index lengths index_lengths =
      by_segments lengths (λ d. by_segments index_lengths (λ e. in_limit index (seg_back_of source index d e)))

  -- the slices of the source with these starts and lengths, in order
  abbrev pub gather_by_lengths : List X → List ℤ → List ℤ → Result (List X) Fault
  gather_by_lengths source starts lengths =
      by_segments lengths (λ d. in_limit starts (gather_segments_of source starts lengths))

  -- each segment of the first, and behind it that of the second
  abbrev pub append_by_lengths : List X → List ℤ → List X → List ℤ → Result (List X) Fault
  append_by_lengths a lengths b other_lengths =
      by_segments lengths (λ d. by_segments other_lengths (λ e. append_segments_of a d b e))

  -- each segment of flags merges a segment of elements for its true flags and one for its false flags
  abbrev pub merge_by_lengths : List Bool → List ℤ → List X → List ℤ → List X → List ℤ → Result (List X) Fault
  merge_by_lengths flags lengths when_true true_lengths when_false false_lengths =
      by_segments lengths (λ d. by_segments true_lengths (λ e. by_segments false_lengths
      (λ g. seg_merge_of flags d when_true e when_false g)))

-- for each place of a segment of the result, the first place of the same segment of the index that names it
abbrev pub first_senders_by_lengths : List ℤ → List ℤ → List ℤ → Result (List ℤ) Fault
first_senders_by_lengths index lengths result_lengths =
    by_segments lengths (λ d. by_segments result_lengths (λ e. in_limit index (seg_first_senders_of index d e)))

-- the same of the places whose flags are true
abbrev pub select_first_senders_by_lengths : List ℤ → List Bool → List ℤ → List ℤ → Result (List ℤ) Fault
select_first_senders_by_lengths index flags lengths result_lengths =
    by_segments lengths (λ d. by_segments result_lengths (λ e. in_limit index (seg_select_first_senders_of index flags d e)))

-- for each place of a segment of the result, how many indices of the same segment name it
abbrev pub counts_by_lengths : List ℤ → List ℤ → List ℤ → Result (List ℤ) Fault
counts_by_lengths index lengths result_lengths =
    by_segments lengths (λ d. by_segments result_lengths (λ e. seg_place_counts_of index d e))
