-- First senders: for each place of a result the least place whose index names it.
-- Source: of the pairs of CVL's permute, d[i[k]] = s[k], in which an index may repeat here, that with the least k; -1 for none and the
-- faults are this library's profile.
use Rattle.std.specs.Prelude.{ℕ, ℤ, pos, negsuc, Bool, if◌then◌else◌, List, map, position, Option, Some, None, Result, Ok}
use Rattle.std.specs.List.{range_with_len}
use Rattle.cvl_base.specs.declared.fault.Fault.{Fault}
use Rattle.cvl_base.specs.declared.fault.FaultNo.{FaultNo}
use Rattle.cvl_base.specs.declared.fault.FaultNo.TheVariants.{IndexOutOfRange}
use Rattle.cvl_base.specs.Elementwise.{if_as_long}
use Rattle.cvl_base.specs.Gives.{unless}
use Rattle.cvl_base.specs.Nests.{nest}
use Rattle.cvl_base.specs.Permutes.{all_destinations, first_fault, flagged_destinations, is_destination, is_place}
use Rattle.cvl_base.specs.Segmented.{beside, end_to_end, in_vector, of_two}

-- the place, or -1 if there is none
abbrev pub sender_or_none : Option ℕ → ℤ
sender_or_none (Some place) = pos place
sender_or_none None = negsuc 0

-- the first place whose destination is d, or -1
abbrev pub first_sender : List (Option ℤ) → ℕ → ℤ
first_sender destinations d = sender_or_none (position (is_destination (pos d)) destinations)

-- the first senders of the n places from `lowest` on
abbrev pub first_senders : List (Option ℤ) → ℕ → ℕ → List ℤ
first_senders destinations lowest n = map (first_sender destinations) (range_with_len lowest n)

-- what is wrong with a destination if the result has m places
abbrev pub wrong_in : ℕ → Option ℤ → Option FaultNo
wrong_in m None = None
wrong_in m (Some i) = if is_place m i then None else Some IndexOutOfRange

-- the first senders of the places 0 to m - 1, or the fault of the first destination that is none of them
abbrev pub first_senders_to : List (Option ℤ) → ℕ → Result (List ℤ) Fault
first_senders_to destinations m = unless (first_fault 0 (map (wrong_in m) destinations)) (Ok (first_senders destinations 0 m))

-- each place takes part, or those whose flag is true
abbrev pub first_senders_of : List ℤ → ℕ → Result (List ℤ) Fault
first_senders_of index m = first_senders_to (all_destinations index) m

-- the first senders among the places with a true flag
abbrev pub select_first_senders_of : List ℤ → List Bool → ℕ → Result (List ℤ) Fault
select_first_senders_of index flags m = if_as_long index flags (first_senders_to (flagged_destinations index flags) m)

-- The same on each segment, which has a segment of the result: an index counts from the start of that, and a sender from the start of its
-- own.
abbrev pub seg_first_senders_to : List (Option ℤ) → List ℕ → List ℕ → Result (List ℤ) Fault
seg_first_senders_to destinations lengths result_lengths =
    end_to_end (in_vector lengths) (of_two first_senders_to) (beside (nest lengths destinations) (Ok result_lengths))

-- the first senders of each segment, by the places of that segment of the result
abbrev pub seg_first_senders_of : List ℤ → List ℕ → List ℕ → Result (List ℤ) Fault
seg_first_senders_of index lengths result_lengths = seg_first_senders_to (all_destinations index) lengths result_lengths

-- the same among the places with a true flag
abbrev pub seg_select_first_senders_of : List ℤ → List Bool → List ℕ → List ℕ → Result (List ℤ) Fault
seg_select_first_senders_of index flags lengths result_lengths =
    if_as_long index flags (seg_first_senders_to (flagged_destinations index flags) lengths result_lengths)
