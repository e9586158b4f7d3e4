-- Vectors as they are written, and the faults that most worked values have.
-- Source: this library's profile.
use Prim.Native.String.{String}
use Rattle.std.specs.Prelude.{ℕ, ℤ, Bool, ◌==◌, List, codes, filter, length, map, nat_lt, slice_index}
use Rattle.std.specs.List.{slice_split}
use Rattle.std.specs.Str.Parse.{digits_value, signed_digits_value}
use Rattle.cvl_base.specs.declared.fault.Fault.{Fault}
use Rattle.cvl_base.specs.declared.fault.FaultNo.TheVariants as no
use Rattle.cvl_base.specs.Faults.{fault, fault_at}

-- what stands between blanks (32)
abbrev words : String → List (List ℕ)
words text = filter (λ word. nat_lt 0 (length word)) (slice_split (λ c. c == 32) (codes text))

-- integers and lengths in decimal, and booleans as `T` (84) and `F`
abbrev pub ints : String → List ℤ
ints text = map (λ word. signed_digits_value 10 word) (words text)

-- lengths, from their text
abbrev pub lengths : String → List ℕ
lengths text = map (λ word. digits_value 10 word) (words text)

-- booleans, from their text
abbrev pub bools : String → List Bool
bools text = map (λ word. slice_index word 0 == 84) (words text)

-- the segments, unless others are named
abbrev pub segments : List ℕ
segments = lengths "2 0 3"

-- lengths that don't agree
abbrev pub length_mismatch : Fault
length_mismatch = fault no.LengthMismatch

-- the index at this place is out of range, or repeated
abbrev pub out_of_range : ℕ → Fault
out_of_range place = fault_at no.IndexOutOfRange place

-- the fault of a repeated index at a place
abbrev pub repeated : ℕ → Fault
repeated place = fault_at no.IndexRepeated place

-- the number at this place does not fit
abbrev pub overflow : ℕ → Fault
overflow place = fault_at no.Overflow place

-- the lengths of this segment don't agree
abbrev pub other_length : ℕ → Fault
other_length segment = fault_at no.LengthMismatch segment
