-- What a call means if its caller may get anything wrong: checks come first, and then the call's own definition.
-- Source: this library's profile of CVL's calls, for callers of another language.
use Rattle.std.specs.Prelude.{ℕ, ◌+◌, ℤ, List, length, nat_lt, Result}
use Rattle.cvl_base.specs.declared.fault.Fault.{Fault}
use Rattle.cvl_base.specs.declared.fault.FaultNo.TheVariants as no
use Rattle.cvl_base.specs.Descriptors.{descriptor_within}
use Rattle.cvl_base.specs.Faults.{fault}
use Rattle.cvl_base.specs.Gives.{◌>>=◌, fault_if}
use Rattle.cvl_base.specs.Limits.{most_places}
use Rattle.sparse_products.specs.Answers.{row_lengths_of}

-- the call, if the vector has at most 2,147,483,647 elements
abbrev pub in_limit : {X Y : Type 0} → List X → Result Y Fault → Result Y Fault
in_limit xs call = fault_if (nat_lt most_places (length xs)) (fault no.TooLong) call

-- the call by an operator, if one has the number
abbrev pub by_operator : {X Y : Type 0} → Result X Fault → (X → Result Y Fault) → Result Y Fault
by_operator operator call = operator >>= call

-- the descriptor of segments with these lengths
abbrev pub lengths_of : List ℤ → Result (List ℕ) Fault
lengths_of lengths = in_limit lengths (descriptor_within most_places lengths)

-- the call on segments with these lengths
abbrev pub by_segments : {Y : Type 0} → List ℤ → (List ℕ → Result Y Fault) → Result Y Fault
by_segments lengths call = lengths_of lengths >>= call

-- the call on the lengths of rows given by their offsets, at most 2,147,483,648 of them
abbrev pub by_row_offsets : {Y : Type 0} → List ℤ → (List ℤ → Result Y Fault) → Result Y Fault
by_row_offsets offsets call =
    fault_if (nat_lt (most_places + 1) (length offsets)) (fault no.TooLong) (row_lengths_of offsets >>= call)
