-- Combining permutes by sums that never wrap, whose caller may get anything wrong.
-- Source: this library's combining permutes, in its profile of calls for callers of another language.
use Rattle.std.specs.Prelude.{ℤ, List, Result}
use Rattle.c_calls.specs.Calls.{by_segments, in_limit}
use Rattle.cvl_base.specs.declared.fault.Fault.{Fault}
use Rattle.exact_combines.specs.ExactCombines.{checked_combine_of, exact_sums_of, seg_checked_combine_of, seg_exact_sums_of}

-- each sum of the room, plus what is sent to it
abbrev pub exact_by : List ℤ → List ℤ → List ℤ → Result (List ℤ) Fault
exact_by source index room = in_limit index (in_limit room (exact_sums_of source index room))

-- the same in segments, of which each has a segment of the room
abbrev pub seg_exact_by : List ℤ → List ℤ → List ℤ → List ℤ → List ℤ → Result (List ℤ) Fault
seg_exact_by source index lengths room_lengths room =
    by_segments lengths (λ d. by_segments room_lengths (λ e. in_limit index (in_limit room (seg_exact_sums_of source index d e room))))

-- each integer of the room, plus what is sent to it, which has to fit 32 bits
abbrev pub checked_by : List ℤ → List ℤ → List ℤ → Result (List ℤ) Fault
checked_by source index room = in_limit index (in_limit room (checked_combine_of source index room))

-- the same in segments, of which each has a segment of the room
abbrev pub seg_checked_by : List ℤ → List ℤ → List ℤ → List ℤ → List ℤ → Result (List ℤ) Fault
seg_checked_by source index lengths room_lengths room =
    by_segments lengths (λ d. by_segments room_lengths (λ e. in_limit index (in_limit room (seg_checked_combine_of source index d e room))))
