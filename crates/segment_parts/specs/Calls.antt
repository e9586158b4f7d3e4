-- Scans of parts by the number of an operator, and what stands before each part. A part has at most 2,147,483,647 elements, and its whole
-- segments are given as their lengths.
-- Source: CVL's segmented scans, in this library's profile of calls for callers of another language.
use Rattle.std.specs.Prelude.{ℕ, ℤ, Bool, List, Result}
use Rattle.cvl_base.specs.declared.fault.Fault.{Fault}
use Rattle.cvl_base.specs.Scans.{bool_join_of, bool_unit_of, int_join_of, int_unit_of}
use Rattle.c_calls.specs.Calls.{by_operator, by_segments, in_limit}
use Rattle.c_calls.specs.Numbers.{bool_binary, int_monoid}
use Rattle.segment_parts.specs.Carries.{seg_carries_of}
use Rattle.segment_parts.specs.Parts.{part_scan_of}

-- the scan of a part of integers, of which the first `head` go on from a segment before it
abbrev pub part_int_scan_by : ℕ → ℤ → ℕ → List ℤ → List ℤ → Result (List ℤ) Fault
part_int_scan_by number before head lengths xs =
    by_operator (int_monoid number) (λ o.
    in_limit xs (by_segments lengths (λ segments. part_scan_of (int_join_of o) (int_unit_of o) before head segments xs)))

-- the scan of a part of booleans
abbrev pub part_bool_scan_by : ℕ → Bool → ℕ → List ℤ → List Bool → Result (List Bool) Fault
part_bool_scan_by number before head lengths xs =
    by_operator (bool_binary number) (λ o.
    in_limit xs (by_segments lengths (λ segments. part_scan_of (bool_join_of o) (bool_unit_of o) before head segments xs)))

-- what stands before each part of integers
abbrev pub int_carries_by : ℕ → List Bool → List ℤ → Result (List ℤ) Fault
int_carries_by number starts told =
    by_operator (int_monoid number) (λ o. seg_carries_of (int_join_of o) (int_unit_of o) starts told)

-- what stands before each part of booleans
abbrev pub bool_carries_by : ℕ → List Bool → List Bool → Result (List Bool) Fault
bool_carries_by number starts told =
    by_operator (bool_binary number) (λ o. seg_carries_of (bool_join_of o) (bool_unit_of o) starts told)
