-- The five kinds of values: an integer list, a boolean list, a descriptor (its list of lengths), an integer, a boolean.
-- Source: CVL's vectors, segment descriptors and scalars; that these five are all is this library's profile.
use Rattle.call_table.specs.declared.kind.Kind.{Kind}
use Rattle.call_table.specs.declared.kind.Kind.TheVariants as kind
use Rattle.cvl_base.specs.declared.value.Value.{Value}
use Rattle.cvl_base.specs.declared.value.Value.TheVariants as value

-- the kind of a value
abbrev pub kind_of : {A : Type 0} → Value A → Kind
kind_of (value.Integers xs) = kind.Integers
kind_of (value.Booleans xs) = kind.Booleans
kind_of (value.Descriptor lengths) = kind.Descriptor
kind_of (value.Integer n) = kind.Integer
kind_of (value.Boolean b) = kind.Boolean
