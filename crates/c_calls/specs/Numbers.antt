-- The numbers by which a caller chooses an operator: that of the family with the number, or UnknownCall, without a place.
-- Source: this library's header.
use Rattle.std.specs.Prelude.{ℕ, Option, Result}
use Rattle.std.specs.Option.{ok_or}
use Rattle.cvl_base.specs.declared.fault.Fault.{Fault}
use Rattle.cvl_base.specs.declared.fault.FaultNo.TheVariants as no
use Rattle.cvl_base.specs.Faults.{fault}
use Rattle.call_table.specs.declared.families.IntBinary.{IntBinary}
use Rattle.call_table.specs.declared.families.IntMonoid.{IntMonoid}
use Rattle.call_table.specs.declared.families.BoolBinary.{BoolBinary}
use Rattle.call_table.specs.declared.families.Comparison.{Comparison}
use Rattle.call_table.specs.declared.families.Unary.{Unary}
use Rattle.call_table.specs.Operators.{int_binary_of, int_monoid_of, bool_binary_of, comparison_of, unary_of}

-- the operator, or UnknownCall if the number names none
abbrev pub known : {X : Type 0} → Option X → Result X Fault
known operator = ok_or operator (fault no.UnknownCall)

-- the operator on two integers of a number
abbrev pub int_binary : ℕ → Result IntBinary Fault
int_binary number = known (int_binary_of number)

-- the operator on integers that scans of a number
abbrev pub int_monoid : ℕ → Result IntMonoid Fault
int_monoid number = known (int_monoid_of number)

-- the operator on two booleans of a number
abbrev pub bool_binary : ℕ → Result BoolBinary Fault
bool_binary number = known (bool_binary_of number)

-- the comparison of a number
abbrev pub comparison : ℕ → Result Comparison Fault
comparison number = known (comparison_of number)

-- the operator on one element of a number
abbrev pub unary : ℕ → Result Unary Fault
unary number = known (unary_of number)
