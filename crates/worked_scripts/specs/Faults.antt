-- The fault of an answer.
-- Source: this library's script format.
use Rattle.std.specs.Prelude.{Option, Some, None, Result, Ok, Err}
use Rattle.cvl_base.specs.declared.fault.Fault.{Fault}

-- the fault of an answer, if it has one
abbrev pub fault_of : {X : Type 0} → Result X Fault → Option Fault
fault_of (Ok x) = None
fault_of (Err f) = Some f
