-- Elementwise calls: element k of the result is the operator on the elements k, and the fault is at the least k for which the operator has
-- no value. The vectors of a call have the same length.
-- Source: CVL's elementwise calls.
use Rattle.std.specs.Prelude.{ℕ, ◌+◌, ◌==◌, Bool, true, false, not, List, [], ◌∷◌, length, map, Option, Result, Ok, ℤ}
use Rattle.std.specs.Option.{ok_or}
use Rattle.std.specs.List.{zip}
use Rattle.cvl_base.specs.declared.fault.Fault.{Fault}
use Rattle.cvl_base.specs.declared.fault.FaultNo.{FaultNo}
use Rattle.cvl_base.specs.declared.fault.FaultNo.TheVariants.{LengthMismatch, DivideByZero, ShiftOutOfRange}
use Rattle.call_table.specs.declared.families.IntBinary.{IntBinary}
use Rattle.call_table.specs.declared.families.IntBinary.TheVariants.{Monoid, Sub, Div, Mod, Lsh, Rsh}
use Rattle.call_table.specs.declared.families.Unary.{Unary}
use Rattle.call_table.specs.declared.families.Unary.TheVariants.{Not, Copy}
use Rattle.call_table.specs.declared.families.Comparison.{Comparison}
use Rattle.call_table.specs.declared.families.Comparison.TheVariants.{Greater, Less, AtLeast, AtMost, Equal, Unequal}
use Rattle.call_table.specs.declared.families.BoolBinary.{BoolBinary}
use Rattle.operators.specs.Conversions.{integer_of, boolean_of}
use Rattle.cvl_base.specs.Faults.{fault, fault_at}
use Rattle.cvl_base.specs.Gives.{◌>>=◌, fault_if}
use Rattle.cvl_base.specs.Scans.{bool_join_of, int_join_of}
use Rattle.operators.specs.Integers.{difference_of, quotient_of, remainder_of, left_shift_of, right_shift_of, not_of}
use Rattle.operators.specs.Integers.{is_greater, is_less, is_at_least, is_at_most, is_equal, is_unequal}

-- all the values, or the fault at the first place that has none; the first of all stands at the place given
abbrev pub values_from : {Y : Type 0} → FaultNo → ℕ → List (Option Y) → Result (List Y) Fault
values_from number place [] = Ok []
values_from number place (v ∷ vs) =
    ok_or v (fault_at number place) >>= λ y. values_from number (place + 1) vs >>= λ ys. Ok (y ∷ ys)

-- goes on if two lists are equally long, else LengthMismatch
abbrev pub if_as_long : {X Y Z : Type 0} → List X → List Y → Result Z Fault → Result Z Fault
if_as_long xs ys rest = fault_if (not (length xs == length ys)) (fault LengthMismatch) rest

-- an operator with a value on all pairs
abbrev pub on_pairs : {X Y Z : Type 0} → (X → Y → Z) → List X → List Y → Result (List Z) Fault
on_pairs operator xs ys = if_as_long xs ys (Ok (map (λ p. operator p.0 p.1) (zip xs ys)))

-- an operator without a value on some pairs, and the fault of such a pair
abbrev pub on_pairs_or : {X Y Z : Type 0} → FaultNo → (X → Y → Option Z) → List X → List Y → Result (List Z) Fault
on_pairs_or number operator xs ys = if_as_long xs ys (values_from number 0 (map (λ p. operator p.0 p.1) (zip xs ys)))

-- an operator on the pairs of elements of two vectors of integers
abbrev pub ints2_of : IntBinary → List ℤ → List ℤ → Result (List ℤ) Fault
ints2_of (Monoid operator) = on_pairs (int_join_of operator)
ints2_of Sub = on_pairs difference_of
ints2_of Div = on_pairs_or DivideByZero quotient_of
ints2_of Mod = on_pairs_or DivideByZero remainder_of
ints2_of Lsh = on_pairs_or ShiftOutOfRange left_shift_of
ints2_of Rsh = on_pairs_or ShiftOutOfRange right_shift_of

-- an operator on each element of a vector of integers
abbrev pub ints1_of : Unary → List ℤ → List ℤ
ints1_of Not xs = map not_of xs
ints1_of Copy xs = xs

-- a comparison of the pairs of elements of two vectors of integers
abbrev pub compare_of : Comparison → List ℤ → List ℤ → Result (List Bool) Fault
compare_of Greater = on_pairs is_greater
compare_of Less = on_pairs is_less
compare_of AtLeast = on_pairs is_at_least
compare_of AtMost = on_pairs is_at_most
compare_of Equal = on_pairs is_equal
compare_of Unequal = on_pairs is_unequal

-- an operator on the pairs of elements of two vectors of booleans
abbrev pub bools2_of : BoolBinary → List Bool → List Bool → Result (List Bool) Fault
bools2_of operator = on_pairs (bool_join_of operator)

-- an operator on each element of a vector of booleans
abbrev pub bools1_of : Unary → List Bool → List Bool
bools1_of Not xs = map not xs
bools1_of Copy xs = xs

-- the first of two if the flag is true, else the second
abbrev pub chosen : {X : Type 0} → Bool → X × X → X
chosen true pair = pair.0
chosen false pair = pair.1

-- the element of the first vector where the flag is true, and of the second where it is false
abbrev pub choose_of : {X : Type 0} → List Bool → List X → List X → Result (List X) Fault
choose_of flags xs ys = if_as_long flags xs (if_as_long flags ys (Ok (map (λ p. chosen p.0 p.1) (zip flags (zip xs ys)))))

-- each boolean as an integer
abbrev pub ints_from_bools : List Bool → List ℤ
ints_from_bools xs = map integer_of xs

-- each integer as a boolean
abbrev pub bools_from_ints : List ℤ → List Bool
bools_from_ints xs = map boolean_of xs
