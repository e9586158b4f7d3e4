-- Sums that have to fit 32 bits, of one share of a call's room: they are made in 64 bits, in memory of the call's own.
-- Source: Blelloch's combining send, over whole numbers; the fault and its place are this library's profile.
use Rattle.std.specs.Prelude.{ℕ, ◌==◌, not, ℤ, ◌+ℤ◌, List, length, Result, Ok, Err}
use Rattle.std.specs.List.{zip}
use Rattle.combine_parts.specs.RoomJoins.{joined_share_of}
use Rattle.combining_permutes.specs.CombiningPermutes.{combined}
use Rattle.cvl_base.specs.declared.fault.Fault.{Fault}
use Rattle.cvl_base.specs.declared.fault.FaultNo.TheVariants as no
use Rattle.cvl_base.specs.Elementwise.{if_as_long}
use Rattle.cvl_base.specs.Faults.{fault}
use Rattle.cvl_base.specs.Gives.{◌>>=◌, fault_if}
use Rattle.long_sums.specs.LongSums.{long_sum_of}
use Rattle.long_sums.specs.RoomSums.{all_fitting}
use Rattle.part_calls.specs.Limits.{few_enough, range_within}

-- what stood in a share of the room, plus the rooms of all parts: n sums
abbrev pub share_sums_of : ℕ → List ℕ → List ℤ → List ℤ → ℕ → Result (List ℤ) Fault
share_sums_of from boundaries memory before n =
    few_enough n (fault_if (not (length before == n)) (fault no.LengthMismatch)
    (joined_share_of long_sum_of from boundaries memory before))

-- what stood in a range of the room, its places from `from` on, plus all that is sent there: n sums
abbrev pub range_sums_of : List ℤ → List ℤ → ℕ → List ℤ → ℕ → Result (List ℤ) Fault
range_sums_of source index from before n =
    range_within (length index) from n (if_as_long source index
    (fault_if (not (length before == n)) (fault no.LengthMismatch) (Ok (combined ◌+ℤ◌ (zip index source) from before))))

-- that all sums fit, or the fault of the first that does not
abbrev pub all_fit : Result (List ℤ) Fault → Result (Unit {0}) Fault
all_fit sums = sums >>= all_fitting 0 >>= λ _. Ok tt

-- the sums, whether they fit or not, or what stood there before
abbrev pub sums_or : List ℤ → Result (List ℤ) Fault → List ℤ
sums_or before (Ok sums) = sums
sums_or before (Err f) = before
