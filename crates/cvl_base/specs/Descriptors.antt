-- Descriptors of segmented vectors: the lengths of the segments, in order.
-- Source: CVL's segment descriptors.
use Rattle.std.specs.Prelude.{◌≡◌, ℕ, ◌<◌, ◌≤◌, ℤ, pos, negsuc, slice_get, Some, Result, Ok, option_map, List, length, map, sum}
use Rattle.std.specs.Prelude.{unsigned_abs, position, nat_lt}
use Rattle.std.specs.Int.{is_negative}
use Rattle.cvl_base.specs.declared.fault.Fault.{Fault}
use Rattle.cvl_base.specs.declared.fault.FaultNo.TheVariants as no
use Rattle.cvl_base.specs.Faults.{fault, fault_at}
use Rattle.cvl_base.specs.Gives.{unless, fault_if}
use Rattle.cvl_base.specs.Limits.{most_elements}

-- the numbers are the lengths of segments: none is negative, and their number and their total are at most `most`
pub record AreLengthsWithin (most : ℕ) (numbers : List ℤ) : Type 0 where
  pub none_negative : numbers ≡ map pos (map unsigned_abs numbers)
  pub few : length numbers ≤ most
  pub in_limit : sum (map unsigned_abs numbers) ≤ most

-- the numbers are the lengths of a descriptor
abbrev pub AreLengths : List ℤ → Type 0
AreLengths = AreLengthsWithin most_elements

-- making a descriptor (CVL's make-descriptor, with a limit): a fault at the first negative number, else a fault if the total is above the
-- limit, else the lengths
abbrev pub descriptor_within : ℕ → List ℤ → Result (List ℕ) Fault
descriptor_within most numbers =
    unless (option_map (fault_at no.NegativeLength) (position is_negative numbers))
    (fault_if (nat_lt most (sum (map unsigned_abs numbers))) (fault no.TooLong)
    (Ok (map unsigned_abs numbers)))

-- making a descriptor with the limit of scripts and sessions
abbrev pub descriptor_of : List ℤ → Result (List ℕ) Fault
descriptor_of = descriptor_within most_elements

-- the first negative number stands at place k: before it there are only lengths
pub record IsFirstNegative (numbers : List ℤ) (k : ℕ) : Type 0 where
  pub before : (j : ℕ) → j < k → (n : ℕ) × (slice_get numbers j ≡ Some (pos n))
  pub here : (n : ℕ) × (slice_get numbers k ≡ Some (negsuc n))
