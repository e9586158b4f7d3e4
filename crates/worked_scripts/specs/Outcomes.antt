-- The call that a line reads as, the value of a call on given arguments, and what a script writes on given vectors, all as they are
-- written. The definitions don't look at the allocator of a value, so the values here have none.
-- Source: this library's script format.
use Prim.Native.String.{String}
use Rattle.std.specs.Prelude.{ℕ, List, [], codes, map, slice_get, Option, Some, None, Result}
use Rattle.cvl_base.specs.declared.call.Call.{Call}
use Rattle.cvl_base.specs.declared.fault.Fault.{Fault}
use Rattle.cvl_base.specs.declared.fault.FaultNo.{FaultNo}
use Rattle.cvl_base.specs.declared.operation.Op.{Op}
use Rattle.cvl_base.specs.declared.value.Value.{Value}
use Rattle.cvl_base.specs.declared.value.Value.TheVariants.{Booleans, Descriptor, Integers}
use Rattle.cvl_base.specs.Faults.{fault}
use Rattle.line_reader.specs.Lines.{call_of}
use Rattle.vector_handles.specs.declared.input.Input.TheVariants.{Vector}
use Rattle.vector_handles.specs.CallValues.{table_value}
use Rattle.script_runs.specs.Meaning.{Meaning, meaning, text_of_script}
use Rattle.worked_values.specs.Written as written

-- a value without an allocator
abbrev pub Plain : Type 0
Plain = Value (Unit {0})

-- vectors and descriptors as they are written
abbrev pub ints : String → Plain
ints text = Integers (written.ints text)

-- an operand of booleans, from its text
abbrev pub bools : String → Plain
bools text = Booleans (written.bools text)

-- a descriptor, from its text
abbrev pub lengths : String → Plain
lengths text = Descriptor (written.lengths text)

-- the value of a call of the table, from its arguments in the order of the script
abbrev pub value_of : Op → List Plain → Result Plain Fault
value_of op args = table_value [] op (slice_get args)

-- the call that a line reads as
abbrev pub call_in : String → Result (Option (Call (Unit {0}))) Fault
call_in line = call_of (codes line)

-- the whole text, and the line of the first fault with its fault
abbrev pub outcome_of : Meaning → List ℕ × Option (ℕ × Fault)
outcome_of m = (text_of_script m, m.stop)

-- what a script does whose inputs are these vectors
abbrev pub outcome_on : String → List String → List ℕ × Option (ℕ × Fault)
outcome_on script vectors = outcome_of (meaning {A = Unit {0}} (codes script) (map (λ text. Vector (written.ints text)) vectors))

-- this text, and no fault
abbrev pub writes : String → List ℕ × Option (ℕ × Fault)
writes text = (codes text, None)

-- no text, and a fault of this line
abbrev pub stops : ℕ → FaultNo → List ℕ × Option (ℕ × Fault)
stops line number = ([], Some (line, fault number))
