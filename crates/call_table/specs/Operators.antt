-- The operators of each family, each once, and which of them a number names.
-- Source: CVL's operators, in this library's profile; the numbers are those of this library's header for C.
use Rattle.std.specs.Prelude.{ℕ, ◌==◌, Bool, List, [], ◌∷◌, ◌++◌, map, find, Option}
use Rattle.call_table.specs.declared.families.IntBinary.{IntBinary}
use Rattle.call_table.specs.declared.families.IntBinary.TheVariants.{Monoid, Sub, Div, Mod, Lsh, Rsh}
use Rattle.call_table.specs.declared.families.IntMonoid.{IntMonoid}
use Rattle.call_table.specs.declared.families.IntMonoid.TheVariants.{Add, Mul, Min, Max, And, Ior, Xor}
use Rattle.call_table.specs.declared.families.Comparison.{Comparison}
use Rattle.call_table.specs.declared.families.Comparison.TheVariants.{Greater, Less, AtLeast, AtMost, Equal, Unequal}
use Rattle.call_table.specs.declared.families.BoolBinary.{BoolBinary}
use Rattle.call_table.specs.declared.families.BoolBinary.TheVariants as truth
use Rattle.call_table.specs.declared.families.Unary.{Unary}
use Rattle.call_table.specs.declared.families.Unary.TheVariants.{Not, Copy}
use Rattle.call_table.specs.Letters.{OperatorLabel, int_monoid_label, int_binary_label, comparison_label, bool_binary_label, unary_label}

-- the operators on integers that scan
unfoldable pub int_monoids : List IntMonoid
int_monoids = Add ∷ Mul ∷ Min ∷ Max ∷ And ∷ Ior ∷ Xor ∷ []

-- the operators on two integers, those that scan first
unfoldable pub int_binaries : List IntBinary
int_binaries = map Monoid int_monoids ++ Sub ∷ Div ∷ Mod ∷ Lsh ∷ Rsh ∷ []

-- the comparisons
unfoldable pub comparisons : List Comparison
comparisons = Greater ∷ Less ∷ AtLeast ∷ AtMost ∷ Equal ∷ Unequal ∷ []

-- the operators on two booleans
unfoldable pub bool_binaries : List BoolBinary
bool_binaries = truth.And ∷ truth.Ior ∷ truth.Xor ∷ []

-- the operators on one element
unfoldable pub unaries : List Unary
unaries = Not ∷ Copy ∷ []

-- does the operator have the number?
abbrev pub has_number : {Operator : Type 0} → (Operator → OperatorLabel) → ℕ → Operator → Bool
has_number label number operator = (label operator).number == number

-- the operator of each family that a number names
abbrev pub int_monoid_of : ℕ → Option IntMonoid
int_monoid_of number = find (has_number int_monoid_label number) int_monoids

-- the operator on two integers with this number
abbrev pub int_binary_of : ℕ → Option IntBinary
int_binary_of number = find (has_number int_binary_label number) int_binaries

-- the comparison with this number
abbrev pub comparison_of : ℕ → Option Comparison
comparison_of number = find (has_number comparison_label number) comparisons

-- the operator on two booleans with this number
abbrev pub bool_binary_of : ℕ → Option BoolBinary
bool_binary_of number = find (has_number bool_binary_label number) bool_binaries

-- the operator on one element with this number
abbrev pub unary_of : ℕ → Option Unary
unary_of number = find (has_number unary_label number) unaries

-- the numbers of the families that share none
abbrev pub numbers : List ℕ
numbers = map (λ o. (int_binary_label o).number) int_binaries ++ map (λ o. (comparison_label o).number) comparisons
    ++ map (λ o. (unary_label o).number) unaries
