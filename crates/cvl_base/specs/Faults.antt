-- The table of faults: each fault's number, name and text, and the places that faults have.
-- Source: this library's profile.
use Rattle.std.specs.Prelude.{ℕ, List, [], ◌++◌, codes, Option, Some, None}
use Rattle.std.specs.Fmt.{decimal}
use Rattle.cvl_base.specs.declared.fault.FaultNo.{FaultNo}
use Rattle.cvl_base.specs.declared.fault.FaultNo.TheVariants as no
use Rattle.cvl_base.specs.declared.fault.Fault.{Fault}

-- the number of a fault, by which scripts and other languages report it
abbrev pub number_of : FaultNo → ℕ
number_of no.BadLine = 1
number_of no.UnknownCall = 2
number_of no.WrongArgumentCount = 3
number_of no.UnknownName = 4
number_of no.WrongKind = 5
number_of no.BadNumber = 6
number_of no.LengthMismatch = 7
number_of no.DivideByZero = 8
number_of no.ShiftOutOfRange = 9
number_of no.IndexOutOfRange = 10
number_of no.IndexRepeated = 11
number_of no.NegativeLength = 12
number_of no.TooLong = 13
number_of no.NoSuchInput = 14
number_of no.BadInput = 15
number_of no.TooManyNames = 16
number_of no.ScriptTooLong = 17
number_of no.Overflow = 18

-- the name of a fault
abbrev pub name_of : FaultNo → List ℕ
name_of no.BadLine = codes "BadLine"
name_of no.UnknownCall = codes "UnknownCall"
name_of no.WrongArgumentCount = codes "WrongArgumentCount"
name_of no.UnknownName = codes "UnknownName"
name_of no.WrongKind = codes "WrongKind"
name_of no.BadNumber = codes "BadNumber"
name_of no.LengthMismatch = codes "LengthMismatch"
name_of no.DivideByZero = codes "DivideByZero"
name_of no.ShiftOutOfRange = codes "ShiftOutOfRange"
name_of no.IndexOutOfRange = codes "IndexOutOfRange"
name_of no.IndexRepeated = codes "IndexRepeated"
name_of no.NegativeLength = codes "NegativeLength"
name_of no.TooLong = codes "TooLong"
name_of no.NoSuchInput = codes "NoSuchInput"
name_of no.BadInput = codes "BadInput"
name_of no.TooManyNames = codes "TooManyNames"
name_of no.ScriptTooLong = codes "ScriptTooLong"
name_of no.Overflow = codes "Overflow"

-- how a fault is printed: its number and its name
abbrev pub number_text : FaultNo → List ℕ
number_text number = codes "fault " ++ decimal (number_of number) ++ codes " " ++ name_of number

-- a fault of the whole call or line
abbrev pub fault : FaultNo → Fault
fault number = record { number = number; place = None }

-- a fault of one element, counted from 0
abbrev pub fault_at : FaultNo → ℕ → Fault
fault_at number place = record { number = number; place = Some place }

-- how a place is printed after a fault
abbrev pub place_text : Option ℕ → List ℕ
place_text None = []
place_text (Some place) = codes " at " ++ decimal place

-- how a fault is printed with its place
abbrev pub fault_text : Fault → List ℕ
fault_text f = number_text f.number ++ place_text f.place
