-- Which fault a line has, if it has one.
-- Source: this library's script format.
use Rattle.std.specs.Prelude.{Bool, true, false, Result, Ok, Err}
use Rattle.cvl_base.specs.declared.fault.Fault.{Fault}
use Rattle.cvl_base.specs.declared.fault.FaultNo.{FaultNo}
use Rattle.cvl_base.specs.declared.fault.FaultNo.TheVariants.{BadLine}

-- whether a fault is BadLine
abbrev pub is_bad_line : FaultNo → Bool
is_bad_line BadLine = true
is_bad_line _ = false

-- does it end with such a fault?
abbrev pub ends_with : {X : Type 0} → (FaultNo → Bool) → Result X Fault → Bool
ends_with are (Ok x) = false
ends_with are (Err f) = are f.number
