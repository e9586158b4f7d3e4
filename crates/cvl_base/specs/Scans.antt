-- Scans and reduces of integers and booleans: each operator of the table with its identity.
-- Source: CVL's scans and reduces.
use Rattle.std.specs.Prelude.{Bool, true, false, ℤ, pos, negsuc, List}
use Rattle.call_table.specs.declared.families.IntMonoid.{IntMonoid}
use Rattle.call_table.specs.declared.families.IntMonoid.TheVariants.{Add, Mul, Min, Max, And, Ior, Xor}
use Rattle.call_table.specs.declared.families.BoolBinary.{BoolBinary}
use Rattle.call_table.specs.declared.families.BoolBinary.TheVariants as truth
use Rattle.operators.specs.Booleans.{both, either, differ}
use Rattle.operators.specs.Integers.{sum_of, product_of, lesser_of, greater_of, and_of, ior_of, xor_of}
use Rattle.operators.specs.Folds.{fold_of, scan_of}

-- the operation of an operator on integers that scans
abbrev pub int_join_of : IntMonoid → ℤ → ℤ → ℤ
int_join_of Add = sum_of
int_join_of Mul = product_of
int_join_of Min = lesser_of
int_join_of Max = greater_of
int_join_of And = and_of
int_join_of Ior = ior_of
int_join_of Xor = xor_of

-- its unit, which a scan begins with
abbrev pub int_unit_of : IntMonoid → ℤ
int_unit_of Add = pos 0
int_unit_of Mul = pos 1
int_unit_of Min = pos 2147483647
int_unit_of Max = negsuc 2147483647
int_unit_of And = negsuc 0
int_unit_of Ior = pos 0
int_unit_of Xor = pos 0

-- a scan of integers: each element gives way to the join of those before it
abbrev pub int_scan_of : IntMonoid → List ℤ → List ℤ
int_scan_of operator xs = scan_of (int_join_of operator) (int_unit_of operator) xs

-- a reduce of integers: the join of all
abbrev pub int_reduce_of : IntMonoid → List ℤ → ℤ
int_reduce_of operator xs = fold_of (int_join_of operator) (int_unit_of operator) xs

-- the operation of an operator on booleans
abbrev pub bool_join_of : BoolBinary → Bool → Bool → Bool
bool_join_of truth.And = both
bool_join_of truth.Ior = either
bool_join_of truth.Xor = differ

-- its unit
abbrev pub bool_unit_of : BoolBinary → Bool
bool_unit_of truth.And = true
bool_unit_of truth.Ior = false
bool_unit_of truth.Xor = false

-- a scan of booleans
abbrev pub bool_scan_of : BoolBinary → List Bool → List Bool
bool_scan_of operator xs = scan_of (bool_join_of operator) (bool_unit_of operator) xs

-- a reduce of booleans
abbrev pub bool_reduce_of : BoolBinary → List Bool → Bool
bool_reduce_of operator xs = fold_of (bool_join_of operator) (bool_unit_of operator) xs
