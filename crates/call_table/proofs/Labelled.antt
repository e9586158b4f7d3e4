-- Each operator's number reads back as that operator, and the numbers differ.
use Rattle.std.proofs.Common.{◌≡◌, Some, refl, nat_eq, rules}
use Rattle.std.specs.List.{IsDistinct}
use Rattle.call_table.specs.declared.families.IntBinary.{IntBinary}
use Rattle.call_table.specs.declared.families.IntBinary.TheVariants as int
use Rattle.call_table.specs.declared.families.IntMonoid.{IntMonoid}
use Rattle.call_table.specs.declared.families.IntMonoid.TheVariants as monoid
use Rattle.call_table.specs.declared.families.Comparison.{Comparison}
use Rattle.call_table.specs.declared.families.Comparison.TheVariants.{Greater}
use Rattle.call_table.specs.declared.families.BoolBinary.{BoolBinary}
use Rattle.call_table.specs.declared.families.BoolBinary.TheVariants as truth
use Rattle.call_table.specs.declared.families.Unary.{Unary}
use Rattle.call_table.specs.declared.families.Unary.TheVariants.{Not}
use Rattle.call_table.specs.Letters.{int_monoid_label, int_binary_label, comparison_label, bool_binary_label, unary_label}
use Rattle.call_table.specs.Operators.{int_monoids, int_binaries, comparisons, bool_binaries, unaries, numbers}
use Rattle.call_table.specs.Operators.{int_monoid_of, int_binary_of, comparison_of, bool_binary_of, unary_of}

pub int_monoid_read : (operator : IntMonoid) → int_monoid_of (int_monoid_label operator).number ≡ Some operator
unfolding int_monoids
int_monoid_read monoid.Add = refl
int_monoid_read _ = refl

pub int_binary_read : (operator : IntBinary) → int_binary_of (int_binary_label operator).number ≡ Some operator
unfolding int_binaries int_monoids
int_binary_read (int.Monoid monoid.Add) = refl
int_binary_read _ = refl

pub comparison_read : (operator : Comparison) → comparison_of (comparison_label operator).number ≡ Some operator
unfolding comparisons
comparison_read Greater = refl
comparison_read _ = refl

pub bool_binary_read : (operator : BoolBinary) → bool_binary_of (bool_binary_label operator).number ≡ Some operator
unfolding bool_binaries
bool_binary_read truth.And = refl
bool_binary_read _ = refl

pub unary_read : (operator : Unary) → unary_of (unary_label operator).number ≡ Some operator
unfolding unaries
unary_read Not = refl
unary_read _ = refl

pub numbers_differ : IsDistinct nat_eq numbers
unfolding int_binaries int_monoids comparisons unaries IsDistinct
numbers_differ = search rules
