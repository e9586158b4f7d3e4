-- The conversions between booleans and 32-bit integers.
-- Source: CVL's conversions: true is 1 and false is 0, and each number but 0 counts as true.
use Rattle.std.specs.Prelude.{Bool, true, false, not, ℤ, pos}
use Rattle.std.specs.Ordering.{int_eq}

-- T is 1 and F is 0
abbrev pub integer_of : Bool → ℤ
integer_of true = pos 1
integer_of false = pos 0

-- F is 0, and each other number is T
abbrev pub boolean_of : ℤ → Bool
boolean_of x = not (int_eq x (pos 0))
