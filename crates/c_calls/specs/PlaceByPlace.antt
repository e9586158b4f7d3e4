-- The elementwise calls by the number of an operator, and choices between flags, on vectors of at most 2,147,483,647 elements. Flags are
-- bytes here.
-- Source: CVL's elementwise calls, in this library's profile of calls for callers of another language.
use Rattle.std.specs.Prelude.{ℕ, ℤ, Bool, List, Result, Ok}
use Rattle.cvl_base.specs.declared.fault.Fault.{Fault}
use Rattle.cvl_base.specs.Elementwise.{bools1_of, bools2_of, choose_of, compare_of, ints1_of, ints2_of}
use Rattle.c_calls.specs.Calls.{by_operator, in_limit}
use Rattle.c_calls.specs.Numbers.{bool_binary, comparison, int_binary, unary}
use Rattle.flag_calls.specs.Flags.{as_bytes, flags_of}

-- the operator on each two integers at the same place
abbrev pub int2_by : ℕ → List ℤ → List ℤ → Result (List ℤ) Fault
int2_by number xs ys = by_operator (int_binary number) (λ o. in_limit xs (ints2_of o xs ys))

-- the operator on each integer
abbrev pub int1_by : ℕ → List ℤ → Result (List ℤ) Fault
int1_by number xs = by_operator (unary number) (λ o. in_limit xs (Ok (ints1_of o xs)))

-- the comparison of each two integers at the same place
abbrev pub compare_by : ℕ → List ℤ → List ℤ → Result (List Bool) Fault
compare_by number xs ys = by_operator (comparison number) (λ o. in_limit xs (compare_of o xs ys))

-- the operator on each two flags at the same place
abbrev pub bool2_by : ℕ → List ℕ → List ℕ → Result (List ℕ) Fault
bool2_by number xs ys =
    as_bytes (by_operator (bool_binary number) (λ o. in_limit xs (bools2_of o (flags_of xs) (flags_of ys))))

-- the operator on each flag
abbrev pub bool1_by : ℕ → List ℕ → Result (List ℕ) Fault
bool1_by number xs = as_bytes (by_operator (unary number) (λ o. in_limit xs (Ok (bools1_of o (flags_of xs)))))

-- at each place the flag of the first vector if that of `flags` is true, else that of the second
abbrev pub choose_flags : List ℕ → List ℕ → List ℕ → Result (List ℕ) Fault
choose_flags flags xs ys = as_bytes (in_limit flags (choose_of (flags_of flags) (flags_of xs) (flags_of ys)))
