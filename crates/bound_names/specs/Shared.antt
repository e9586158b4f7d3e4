-- Vectors of integers with several owners.
-- Source: this library.
use Rattle.std.specs.Prelude.{◌≡◌, Some}
use Rattle.cvl_base.specs.declared.value.Value.{Value}
use Rattle.cvl_base.specs.declared.value.Value.TheVariants as value
use Rattle.bound_names.specs.Arguments.{integers_in}

-- a value that is a vector of integers
abbrev pub AreIntegers : {A : Type 0} → Value A → Type 0
AreIntegers v = v ≡ value.Integers (integers_in (Some v))
