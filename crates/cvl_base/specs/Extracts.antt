-- The calls that read or change the element at one place.
-- Source: CVL's extract and replace; the faults are this library's profile.
use Rattle.std.specs.Prelude.{ℤ, pos, negsuc, List, length, nat_lt, if◌then◌else◌, Option, Some, None, Result, slice_get, slice_set}
use Rattle.std.specs.Option.{ok_or}
use Rattle.cvl_base.specs.declared.fault.Fault.{Fault}
use Rattle.cvl_base.specs.declared.fault.FaultNo.TheVariants as no
use Rattle.cvl_base.specs.Faults.{fault_at}

-- the element at a place, if there is one
abbrev pub element_at : {X : Type 0} → List X → ℤ → Option X
element_at xs (pos k) = slice_get xs k
element_at xs (negsuc k) = None

-- the list with another element at a place, if there is that place
abbrev pub with_element_at : {X : Type 0} → List X → ℤ → X → Option (List X)
with_element_at xs (pos k) x = if nat_lt k (length xs) then Some (slice_set xs k x) else None
with_element_at xs (negsuc k) x = None

-- the element at an index, or the fault that the index is outside
abbrev pub extract_of : {X : Type 0} → List X → ℤ → Result X Fault
extract_of xs index = ok_or (element_at xs index) (fault_at no.IndexOutOfRange 0)

-- the vector with another element at an index, or the fault that the index is outside
abbrev pub replace_of : {X : Type 0} → List X → ℤ → X → Result (List X) Fault
replace_of xs index x = ok_or (with_element_at xs index x) (fault_at no.IndexOutOfRange 0)
