-- A bound value, which a name has for itself or shares with an input.
-- Source: this library.
use Rattle.cvl_base.specs.declared.value.Value.{Value}
use Rattle.cvl_base.specs.declared.value.Value.TheVariants as value
use Rattle.bound_names.specs.declared.held.Held.{Held}
use Rattle.bound_names.specs.declared.held.Held.TheVariants as held

-- the value that a name has
abbrev pub value_held : {A : Type 0} → Held A → Value A
value_held (held.Own v) = v
value_held (held.Shared xs) = value.Integers xs
