-- Scans and reduces by the number of an operator, of whole vectors with at most 2,147,483,647 elements and of segments given as their
-- lengths.
-- Source: CVL's scans and reduces, in this library's profile of calls for callers of another language.
use Rattle.std.specs.Prelude.{ℕ, ℤ, Bool, List, Result, Ok}
use Rattle.cvl_base.specs.declared.fault.Fault.{Fault}
use Rattle.cvl_base.specs.Scans.{bool_join_of, bool_reduce_of, bool_scan_of, bool_unit_of}
use Rattle.cvl_base.specs.Scans.{int_join_of, int_reduce_of, int_scan_of, int_unit_of}
use Rattle.cvl_base.specs.SegmentedCalls.{seg_reduce_of, seg_scan_of}
use Rattle.c_calls.specs.Calls.{by_operator, by_segments, in_limit}
use Rattle.c_calls.specs.Numbers.{bool_binary, int_monoid}
use Rattle.c_calls.specs.Tiles.{bool_scan_after, int_scan_after}
use Rattle.flag_calls.specs.Flags.{flags_of}

-- ---- integers

-- their scan
abbrev pub int_scan_by : ℕ → List ℤ → Result (List ℤ) Fault
int_scan_by number xs = by_operator (int_monoid number) (λ o. in_limit xs (Ok (int_scan_of o xs)))

-- their scan after an integer
abbrev pub int_scan_after_by : ℕ → ℤ → List ℤ → Result (List ℤ) Fault
int_scan_after_by number before xs = by_operator (int_monoid number) (λ o. in_limit xs (Ok (int_scan_after o before xs)))

-- their reduce
abbrev pub int_reduce_by : ℕ → List ℤ → Result ℤ Fault
int_reduce_by number xs = by_operator (int_monoid number) (λ o. in_limit xs (Ok (int_reduce_of o xs)))

-- the scan of each segment
abbrev pub seg_int_scan_by : ℕ → List ℤ → List ℤ → Result (List ℤ) Fault
seg_int_scan_by number xs lengths =
    by_operator (int_monoid number) (λ o. by_segments lengths (seg_scan_of (int_join_of o) (int_unit_of o) xs))

-- the reduce of each segment
abbrev pub seg_int_reduce_by : ℕ → List ℤ → List ℤ → Result (List ℤ) Fault
seg_int_reduce_by number xs lengths =
    by_operator (int_monoid number) (λ o. by_segments lengths (seg_reduce_of (int_join_of o) (int_unit_of o) xs))

-- ---- booleans, which are bytes for the reduces

-- their scan
abbrev pub bool_scan_by : ℕ → List Bool → Result (List Bool) Fault
bool_scan_by number xs = by_operator (bool_binary number) (λ o. in_limit xs (Ok (bool_scan_of o xs)))

-- their scan after a boolean
abbrev pub bool_scan_after_by : ℕ → Bool → List Bool → Result (List Bool) Fault
bool_scan_after_by number before xs = by_operator (bool_binary number) (λ o. in_limit xs (Ok (bool_scan_after o before xs)))

-- their reduce
abbrev pub bool_reduce_by : ℕ → List ℕ → Result Bool Fault
bool_reduce_by number bytes = by_operator (bool_binary number) (λ o. in_limit bytes (Ok (bool_reduce_of o (flags_of bytes))))

-- the scan of each segment
abbrev pub seg_bool_scan_by : ℕ → List Bool → List ℤ → Result (List Bool) Fault
seg_bool_scan_by number xs lengths =
    by_operator (bool_binary number) (λ o. by_segments lengths (seg_scan_of (bool_join_of o) (bool_unit_of o) xs))

-- the reduce of each segment
abbrev pub seg_bool_reduce_by : ℕ → List ℕ → List ℤ → Result (List Bool) Fault
seg_bool_reduce_by number bytes lengths =
    by_operator (bool_binary number) (λ o. by_segments lengths (seg_reduce_of (bool_join_of o) (bool_unit_of o) (flags_of bytes)))
