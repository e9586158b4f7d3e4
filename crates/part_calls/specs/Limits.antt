-- That a part or a range lies within the longest vector.
-- Source: this library's profile.
use Rattle.std.specs.Prelude.{ℕ, ◌+◌, nat_lt, Result}
use Rattle.cvl_base.specs.declared.fault.Fault.{Fault}
use Rattle.cvl_base.specs.declared.fault.FaultNo.TheVariants as no
use Rattle.cvl_base.specs.Faults.{fault}
use Rattle.cvl_base.specs.Gives.{fault_if}
use Rattle.cvl_base.specs.Limits.{most_places}

-- the call, if so many are no more than a vector may have elements
abbrev pub few_enough : {Y : Type 0} → ℕ → Result Y Fault → Result Y Fault
few_enough count call = fault_if (nat_lt most_places count) (fault no.TooLong) call

-- the call on so many items and on the n places from `low` on, if neither go beyond the longest vector
abbrev pub range_within : {Y : Type 0} → ℕ → ℕ → ℕ → Result Y Fault → Result Y Fault
range_within items low n call = few_enough items (few_enough (low + n) call)
