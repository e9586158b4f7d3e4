-- Combining permutes by sums over whole numbers, which never wrap: at each place of a room what stood there, plus all that is sent there.
-- Source: the combining send of Blelloch, Vector Models for Data-Parallel Computing, 1990, over whole numbers; the faults and their places
-- are this library's profile.
use Rattle.std.specs.Prelude.{ℕ, ℤ, ◌+ℤ◌, List, Result}
use Rattle.cvl_base.specs.declared.fault.Fault.{Fault}
use Rattle.cvl_base.specs.Elementwise.{if_as_long}
use Rattle.cvl_base.specs.Gives.{◌>>=◌}
use Rattle.combining_permutes.specs.CombiningPermutes.{combine_of, seg_combine_of}
use Rattle.long_sums.specs.RoomSums.{all_fitting, all_growing}

-- ---- sums in 64 bits

-- each sum of the room plus what is sent there, if it may grow
abbrev pub exact_sums_of : List ℤ → List ℤ → List ℤ → Result (List ℤ) Fault
exact_sums_of source index before = if_as_long source index (all_growing 0 before >>= λ sums. combine_of ◌+ℤ◌ source index sums)

-- the same of each segment, which has a segment of the room
abbrev pub seg_exact_sums_of : List ℤ → List ℤ → List ℕ → List ℕ → List ℤ → Result (List ℤ) Fault
seg_exact_sums_of source index lengths room_lengths before =
    all_growing 0 before >>= λ sums. seg_combine_of ◌+ℤ◌ source index lengths room_lengths sums

-- ---- sums that have to fit 32 bits

-- each number of the room plus what is sent there, or the fault of the first place whose sum does not fit 32 bits
abbrev pub checked_combine_of : List ℤ → List ℤ → List ℤ → Result (List ℤ) Fault
checked_combine_of source index before = combine_of ◌+ℤ◌ source index before >>= all_fitting 0

-- the same of each segment, which has a segment of the room
abbrev pub seg_checked_combine_of : List ℤ → List ℤ → List ℕ → List ℕ → List ℤ → Result (List ℤ) Fault
seg_checked_combine_of source index lengths room_lengths before =
    seg_combine_of ◌+ℤ◌ source index lengths room_lengths before >>= all_fitting 0
