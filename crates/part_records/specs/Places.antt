-- Where the results of parts stand in one room, each behind those of the parts before.
-- Source: Blelloch, Prefix Sums and Their Applications, 1990: a pack puts elements where the scan of the counts says.
use Rattle.std.specs.Prelude.{ℕ, ◌+◌, ◌==◌, ℤ, nat_lt, not, List, [], ◌∷◌, ◌++◌, length, sum, Result, Ok, Err}
use Rattle.cvl_base.specs.declared.fault.Fault.{Fault}
use Rattle.cvl_base.specs.declared.fault.FaultNo.TheVariants as no
use Rattle.cvl_base.specs.Descriptors.{descriptor_within}
use Rattle.cvl_base.specs.Faults.{fault}
use Rattle.cvl_base.specs.Folds.{scan_of}
use Rattle.cvl_base.specs.Gives.{◌>>=◌, fault_if}
use Rattle.cvl_base.specs.Limits.{most_places}

-- where each result begins, at last where they all end; and how many elements they have
pub record Layout : Type 0 where
  pub places : List ℕ
  pub total : ℕ

-- of these numbers
abbrev pub layout : List ℕ → ℕ → Layout
layout places total = record { places = places; total = total }

-- of results with these lengths
abbrev pub layout_of : List ℕ → Layout
layout_of lengths = layout (scan_of ◌+◌ 0 lengths ++ sum lengths ∷ []) (sum lengths)

-- the same for counts, of which none is negative and whose sum a vector may have as its length, into a record of so many places
abbrev pub layout_by : ℕ → List ℤ → Result Layout Fault
layout_by record_length counts =
    fault_if (nat_lt most_places (length counts)) (fault no.TooLong)
    (descriptor_within most_places counts >>= λ lengths.
    fault_if (not (length counts + 1 == record_length)) (fault no.LengthMismatch) (Ok (layout_of lengths)))

-- the layout, or what stood there before
abbrev pub layout_or : Layout → Result Layout Fault → Layout
layout_or before (Ok now) = now
layout_or before (Err f) = before

-- the fault of lengths that differ if a room has fewer places than the results have elements
abbrev pub fits_room : ℕ → Layout → Result (Unit {0}) Fault
fits_room room now = fault_if (nat_lt room now.total) (fault no.LengthMismatch) (Ok tt)

-- the same of a layout that may have a fault
abbrev pub fitted : ℕ → Result Layout Fault → Result (Unit {0}) Fault
fitted room meaning = meaning >>= fits_room room
