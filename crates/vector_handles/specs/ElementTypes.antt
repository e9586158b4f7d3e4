-- The types of elements among the kinds of values: integers and booleans, each alone and in vectors. A family whose calls take either is
-- defined once, for any element type.
-- Source: CVL's scalars and vectors; this library has these two.
use Rattle.std.specs.Prelude.{List, Option, Bool, ℤ}
use Rattle.cvl_base.specs.declared.value.Value.{Value}
use Rattle.cvl_base.specs.declared.value.Value.TheVariants as value
use Rattle.bound_names.specs.Arguments.{integer_in, integers_in, boolean_in, booleans_in}

-- the values with one element and with a vector of them, and what a value holds of either
pub record ElementType (A X : Type 0) : Type 0 where
  pub single : X → Value A
  pub vector : List X → Value A
  pub single_in : Option (Value A) → X
  pub vector_in : Option (Value A) → List X

module _ {A : Type 0} where
  -- integers as elements
  abbrev pub integer : ElementType A ℤ
  integer = record { single = value.Integer; vector = value.Integers; single_in = integer_in; vector_in = integers_in }

  -- booleans as elements
  abbrev pub boolean : ElementType A Bool
  boolean = record { single = value.Boolean; vector = value.Booleans; single_in = boolean_in; vector_in = booleans_in }
