-- Sums of one part of a vector that continue from a carry: the whole number that the elements before the part add up to, which need not fit
-- 32 bits.
-- Source: Blelloch, Prefix Sums and Their Applications, 1990, over whole numbers; the fault is this library's profile.
use Rattle.std.specs.Prelude.{ℤ, ◌+ℤ◌, List, map, Result}
use Rattle.cvl_base.specs.declared.fault.Fault.{Fault}
use Rattle.cvl_base.specs.declared.fault.FaultNo.TheVariants.{Overflow}
use Rattle.cvl_base.specs.CheckedSums.{fitting}
use Rattle.cvl_base.specs.Elementwise.{values_from}
use Rattle.cvl_base.specs.Folds.{scan_of}

-- the sums, or the fault at the first that doesn't fit 32 bits
abbrev pub all_fitting : List ℤ → Result (List ℤ) Fault
all_fitting sums = values_from Overflow 0 (map fitting sums)

-- the sums of the carry and what stands before each one
abbrev pub checked_scan_after : ℤ → List ℤ → Result (List ℤ) Fault
checked_scan_after carry xs = all_fitting (scan_of ◌+ℤ◌ carry xs)
