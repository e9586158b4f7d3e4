-- How many elements the parts of a vector have together.
-- Source: CVL's segment descriptors; the limit is this library's profile.
use Rattle.std.specs.Prelude.{ℕ, nat_lt, List, sum, Result, Ok}
use Rattle.cvl_base.specs.declared.fault.Fault.{Fault}
use Rattle.cvl_base.specs.declared.fault.FaultNo.TheVariants as no
use Rattle.cvl_base.specs.Faults.{fault}
use Rattle.cvl_base.specs.Gives.{fault_if}
use Rattle.cvl_base.specs.Limits.{most_places}

-- the sum of the parts' lengths, or the fault that no vector is so long
abbrev pub total_within : List ℕ → Result ℕ Fault
total_within sizes = fault_if (nat_lt most_places (sum sizes)) (fault no.TooLong) (Ok (sum sizes))
