-- Reduces of parts by the number of an operator, counts of parts, and what goes on behind each part. A part has at most 2,147,483,647
-- elements, and the segments that start in it are given as their lengths.
-- Source: CVL's segmented reduces and counts, in this library's profile of calls for callers of another language.
use Rattle.std.specs.Prelude.{ℕ, ℤ, pos, Bool, List, map, Result}
use Rattle.operators.specs.Conversions.{integer_of}
use Rattle.cvl_base.specs.declared.fault.Fault.{Fault}
use Rattle.cvl_base.specs.Integers.{sum_of}
use Rattle.cvl_base.specs.Scans.{bool_join_of, bool_unit_of, int_join_of, int_unit_of}
use Rattle.c_calls.specs.Calls.{by_operator, by_segments, in_limit}
use Rattle.c_calls.specs.Numbers.{bool_binary, int_monoid}
use Rattle.flag_calls.specs.Flags.{flag_of, flags_of}
use Rattle.segment_parts.specs.Behinds.{seg_behinds_of}
use Rattle.segment_parts.specs.Reduces.{part_reduces_of}

-- the reduces of the segments that start in a part of integers
abbrev pub part_int_reduce_by : ℕ → ℤ → ℕ → List ℤ → List ℤ → Result (List ℤ) Fault
part_int_reduce_by number behind head lengths xs =
    by_operator (int_monoid number) (λ o.
    in_limit xs (by_segments lengths (λ segments. part_reduces_of (int_join_of o) (int_unit_of o) behind head segments xs)))

-- the reduces of the segments that start in a part of booleans, which come as bytes
abbrev pub part_bool_reduce_by : ℕ → Bool → ℕ → List ℤ → List ℕ → Result (List Bool) Fault
part_bool_reduce_by number behind head lengths bytes =
    by_operator (bool_binary number) (λ o.
    in_limit bytes (by_segments lengths (λ segments.
    part_reduces_of (bool_join_of o) (bool_unit_of o) behind head segments (flags_of bytes))))

-- 1 for a byte that is true, and 0 for one that is false
abbrev pub one_if_true : ℕ → ℤ
one_if_true byte = integer_of (flag_of byte)

-- the counts of the segments that start in a part of flags: their sums, if each true flag is 1 and each other 0
abbrev pub part_count_of : ℤ → ℕ → List ℤ → List ℕ → Result (List ℤ) Fault
part_count_of behind head lengths bytes =
    in_limit bytes (by_segments lengths (λ segments. part_reduces_of sum_of (pos 0) behind head segments (map one_if_true bytes)))

-- what goes on behind each part of integers
abbrev pub int_behinds_by : ℕ → List Bool → List ℤ → Result (List ℤ) Fault
int_behinds_by number starts told =
    by_operator (int_monoid number) (λ o. seg_behinds_of (int_join_of o) (int_unit_of o) starts told)

-- what goes on behind each part of booleans
abbrev pub bool_behinds_by : ℕ → List Bool → List Bool → Result (List Bool) Fault
bool_behinds_by number starts told =
    by_operator (bool_binary number) (λ o. seg_behinds_of (bool_join_of o) (bool_unit_of o) starts told)
