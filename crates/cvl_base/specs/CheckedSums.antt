-- Checked sums: folds and scans under addition of whole numbers, which never wrap. The fault is that of the first result outside
-- 32 bits, at its place in the list of results.
-- Source: Blelloch's prescan, over whole numbers; the fault and its places are this library's profile.
use Rattle.std.specs.Prelude.{ℕ, ℤ, pos, ◌+ℤ◌, List, map, Option, Some, None, Result, if◌then◌else◌}
use Rattle.std.specs.Option.{ok_or}
use Rattle.operators.specs.Exact.{total_of}
use Rattle.operators.specs.Folds.{scan_of}
use Rattle.operators.specs.ItemWords.{is_number}
use Rattle.cvl_base.specs.declared.fault.Fault.{Fault}
use Rattle.cvl_base.specs.declared.fault.FaultNo.TheVariants.{Overflow}
use Rattle.cvl_base.specs.Elementwise.{values_from}
use Rattle.cvl_base.specs.Faults.{fault_at}
use Rattle.cvl_base.specs.Nests.{nest}
use Rattle.cvl_base.specs.Segmented.{in_vector, at_segment, one_each, end_to_end}

-- the sums of the numbers before each one
abbrev pub totals_of : List ℤ → List ℤ
totals_of xs = scan_of ◌+ℤ◌ (pos 0) xs

-- the number, if it fits 32 bits
abbrev pub fitting : ℤ → Option ℤ
fitting z = if is_number z then Some z else None

-- the sums of the elements before each, or the fault of the first that does not fit 32 bits
abbrev pub checked_scan_of : List ℤ → Result (List ℤ) Fault
checked_scan_of xs = values_from Overflow 0 (map fitting (totals_of xs))

-- the sum of all elements, or the fault that it does not fit 32 bits
abbrev pub checked_reduce_of : List ℤ → Result ℤ Fault
checked_reduce_of xs = ok_or (fitting (total_of xs)) (fault_at Overflow 0)

-- a scan's fault has its place in the whole vector
abbrev pub checked_seg_scan_of : List ℤ → List ℕ → Result (List ℤ) Fault
checked_seg_scan_of xs lengths = end_to_end (in_vector lengths) checked_scan_of (nest lengths xs)

-- and that of a segment's sum at the segment
abbrev pub checked_seg_reduce_of : List ℤ → List ℕ → Result (List ℤ) Fault
checked_seg_reduce_of xs lengths = one_each at_segment checked_reduce_of (nest lengths xs)
