-- The sums of a whole room: whether each may grow or fits 32 bits.
-- Source: this library's profile: which sums are a fault, and its place.
use Rattle.std.specs.Prelude.{ℕ, ℤ, List, map, Option, Some, None, Result}
use Rattle.std.specs.Prelude.{if◌then◌else◌}
use Rattle.cvl_base.specs.CheckedSums.{fitting}
use Rattle.cvl_base.specs.declared.fault.Fault.{Fault}
use Rattle.cvl_base.specs.declared.fault.FaultNo.TheVariants.{Overflow}
use Rattle.cvl_base.specs.Elementwise.{values_from}
use Rattle.long_sums.specs.LongSums.{may_grow}

-- the sum, if it may grow
abbrev pub growing : ℤ → Option ℤ
growing sum = if may_grow sum then Some sum else None

-- the sums, or the fault of the first that may not grow; the first of all stands at the place given
abbrev pub all_growing : ℕ → List ℤ → Result (List ℤ) Fault
all_growing place sums = values_from Overflow place (map growing sums)

-- the sums, or the fault of the first that does not fit 32 bits; the first of all stands at the place given
abbrev pub all_fitting : ℕ → List ℤ → Result (List ℤ) Fault
all_fitting place sums = values_from Overflow place (map fitting sums)
