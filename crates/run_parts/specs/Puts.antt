-- What a part puts into its range of a room, of the lengths of the runs that begin in it. Sums wrap to 32 bits, which no sum of lengths of
-- a vector's runs needs.
-- Source: reduce_by_key of Thrust over tiles; a run begins where the scan of the lengths says (Blelloch, Prefix Sums and Their
-- Applications, 1990).
use Rattle.std.specs.Prelude.{ℕ, nat_lt, ℤ, pos, List, length, take, Result, Ok}
use Rattle.c_calls.specs.Calls.{in_limit}
use Rattle.cvl_base.specs.declared.fault.Fault.{Fault}
use Rattle.cvl_base.specs.declared.fault.FaultNo.TheVariants as no
use Rattle.cvl_base.specs.Faults.{fault}
use Rattle.cvl_base.specs.Folds.{scan_of}
use Rattle.cvl_base.specs.Gives.{fault_if}
use Rattle.cvl_base.specs.Integers.{sum_of}
use Rattle.cvl_base.specs.Limits.{most_places}
use Rattle.segment_parts.specs.Reduces.{join_last}

-- what is made of the first n of some lengths, beside a number; or TooLong if these or the number are more than 2,147,483,647, and
-- LengthMismatch if they are fewer than n
abbrev pub of_first : ℕ → ℕ → List ℤ → (List ℤ → List ℤ) → Result (List ℤ) Fault
of_first number n own made =
    in_limit own (fault_if (nat_lt most_places number) (fault no.TooLong)
    (fault_if (nat_lt (length own) n) (fault no.LengthMismatch) (Ok (made (take n own)))))

-- the lengths of n runs, the last of which has `behind` elements more behind the part
abbrev pub put_lengths_of : ℕ → ℕ → List ℤ → Result (List ℤ) Fault
put_lengths_of behind n own = of_first behind n own (λ lengths. join_last sum_of lengths (pos behind))

-- where n runs with these lengths begin, of which the first begins at `begin`
abbrev pub put_starts_of : ℕ → ℕ → List ℤ → Result (List ℤ) Fault
put_starts_of begin n own = of_first begin n own (λ lengths. scan_of sum_of (pos begin) lengths)
