-- Checked sums of a part of a segmented vector that is cut at any place, and what stands before each part and goes on behind it, in 64
-- bits. The fault is that of the first sum outside 32 bits, at its place among the part's sums.
-- Source: Blelloch's segmented scans (Vector Models for Data-Parallel Computing, 1990), over whole numbers; the fault is this library's
-- profile.
use Rattle.std.specs.Prelude.{ℕ, ℤ, pos, ◌+ℤ◌, Bool, List, Result}
use Rattle.c_calls.specs.Calls.{by_segments, in_limit}
use Rattle.cvl_base.specs.declared.fault.Fault.{Fault}
use Rattle.cvl_base.specs.Gives.{◌>>=◌}
use Rattle.long_sums.specs.LongSums.{long_sum_of}
use Rattle.part_calls.specs.Sums.{all_fitting}
use Rattle.segment_parts.specs.Behinds.{seg_behinds_of}
use Rattle.segment_parts.specs.Carries.{seg_carries_of}
use Rattle.segment_parts.specs.Parts.{part_scan_of}
use Rattle.segment_parts.specs.Reduces.{part_reduces_of}

-- the checked scan of a part, whose first `head` elements go on from `before`
abbrev pub checked_part_scan_of : ℤ → ℕ → List ℕ → List ℤ → Result (List ℤ) Fault
checked_part_scan_of before head lengths xs = part_scan_of ◌+ℤ◌ (pos 0) before head lengths xs >>= all_fitting

-- the same, of a part whose whole segments are given as their lengths
abbrev pub checked_part_scan_by : ℤ → ℕ → List ℤ → List ℤ → Result (List ℤ) Fault
checked_part_scan_by before head lengths xs = in_limit xs (by_segments lengths (λ segments. checked_part_scan_of before head segments xs))

-- what stands before each part, in 64 bits
abbrev pub long_carries_of : List Bool → List ℤ → Result (List ℤ) Fault
long_carries_of starts told = seg_carries_of long_sum_of (pos 0) starts told

-- the checked sums of the segments that start in a part, with `behind`, the sum of what goes on behind the part, added to the last one
abbrev pub checked_part_reduces_of : ℤ → ℕ → List ℕ → List ℤ → Result (List ℤ) Fault
checked_part_reduces_of behind head lengths xs = part_reduces_of ◌+ℤ◌ (pos 0) behind head lengths xs >>= all_fitting

-- the same, of a part whose segments are given as their lengths
abbrev pub checked_part_reduce_by : ℤ → ℕ → List ℤ → List ℤ → Result (List ℤ) Fault
checked_part_reduce_by behind head lengths xs =
    in_limit xs (by_segments lengths (λ segments. checked_part_reduces_of behind head segments xs))

-- what goes on behind each part, in 64 bits
abbrev pub long_behinds_of : List Bool → List ℤ → Result (List ℤ) Fault
long_behinds_of starts told = seg_behinds_of long_sum_of (pos 0) starts told
