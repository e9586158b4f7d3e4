-- Sums of parts in 64 bits, put together.
-- Source: Blelloch, Prefix Sums and Their Applications, 1990: processors sum up their parts, and scan the sums.
use Rattle.std.specs.Prelude.{ℤ, pos, List, Result}
use Rattle.std.specs.Option.{ok_or}
use Rattle.cvl_base.specs.CheckedSums.{fitting}
use Rattle.cvl_base.specs.declared.fault.Fault.{Fault}
use Rattle.cvl_base.specs.declared.fault.FaultNo.TheVariants.{Overflow}
use Rattle.cvl_base.specs.Faults.{fault_at}
use Rattle.cvl_base.specs.Folds.{fold_of, scan_of}
use Rattle.long_sums.specs.LongSums.{long_sum_of}

-- what stands before each part: the sum of those before it
abbrev pub carries_of : List ℤ → List ℤ
carries_of sums = scan_of long_sum_of (pos 0) sums

-- the sum of all parts
abbrev pub long_total_of : List ℤ → ℤ
long_total_of sums = fold_of long_sum_of (pos 0) sums

-- the sum of all parts, or the fault that it does not fit 32 bits
abbrev pub carried_total_of : List ℤ → Result ℤ Fault
carried_total_of sums = ok_or (fitting (long_total_of sums)) (fault_at Overflow 0)
