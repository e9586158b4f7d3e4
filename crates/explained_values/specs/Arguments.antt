-- The arguments of a line, as an explanation sees them: the word of each, and its value.
-- Source: this library's script format.
use Rattle.std.specs.Prelude.{ℕ, ℤ, Bool, ◌++◌, List, [], codes, length, sum, slice_get, if◌then◌else◌}
use Rattle.std.specs.Prelude.{Option, Some, None, option_map, unwrap_or}
use Rattle.std.specs.Fmt.{decimal, signed_decimal}
use Rattle.cvl_base.specs.declared.kind.Kind.{Kind}
use Rattle.cvl_base.specs.declared.value.Value.{Value}
use Rattle.cvl_base.specs.declared.value.Value.TheVariants as value
use Rattle.cvl_base.specs.Values.{kind_of}
use Rattle.explained_calls.specs.Sentences.{counted, indented}
use Rattle.explained_values.specs.declared.arguments.Holding.{Holding}
use Rattle.explained_values.specs.declared.arguments.Holding.TheVariants as holding

-- the word that the line has for an argument, and the value that it stands for
pub record Spelled (A : Type 0) : Type 0 where
  pub word : List ℕ
  pub value : Option (Value A)

module _ {A : Type 0} where
  -- the value of an argument that holds one
  abbrev pub value_held : Holding A → Option (Value A)
  value_held holding.Nothing = None
  value_held (holding.Value v) = Some v.now
  value_held (holding.Integer n) = Some (value.Integer n)
  value_held (holding.Boolean b) = Some (value.Boolean b)

  -- the argument at a place, counted from 0; after the last one there is none
  abbrev pub spelled_at : List (Spelled A) → ℕ → Spelled A
  spelled_at args place = unwrap_or (slice_get args place) (record { word = []; value = None })

  -- the kind of an argument's value, if it has a value
  abbrev pub kind_in : Option (Value A) → Option Kind
  kind_in v = option_map kind_of v

  -- how many elements a vector has
  abbrev pub elements_in : Option (Value A) → ℕ
  elements_in (Some (value.Integers xs)) = length xs
  elements_in (Some (value.Booleans bs)) = length bs
  elements_in _ = 0

  -- the integer at a place of a vector, or a single one
  abbrev pub integer_at : Option (Value A) → ℕ → Option ℤ
  integer_at (Some (value.Integers xs)) place = slice_get xs place
  integer_at (Some (value.Integer n)) place = Some n
  integer_at _ place = None

-- `v[3]`
abbrev pub element_name : List ℕ → ℕ → List ℕ
element_name vector place = vector ++ codes "[" ++ decimal place ++ codes "]"

-- the words for an integer
abbrev pub integer_words : ℤ → List ℕ
integer_words n = codes "the integer " ++ signed_decimal n

-- the words for a boolean
abbrev pub boolean_words : Bool → List ℕ
boolean_words b = if b then codes "the boolean T" else codes "the boolean F"

-- `a descriptor, 3 segments, 8 elements`
abbrev pub descriptor_words : List ℕ → List ℕ
descriptor_words lengths =
    codes "a descriptor, " ++ counted (length lengths) (codes "segment") ++ codes ", " ++ counted (sum lengths) (codes "element")

module _ {A : Type 0} where
  -- `integers, 8 elements`
  abbrev pub value_words : Option (Value A) → List ℕ
  value_words None = codes "not bound"
  value_words (Some (value.Integers xs)) = codes "integers, " ++ counted (length xs) (codes "element")
  value_words (Some (value.Booleans bs)) = codes "booleans, " ++ counted (length bs) (codes "element")
  value_words (Some (value.Descriptor lengths)) = descriptor_words lengths
  value_words (Some (value.Integer n)) = integer_words n
  value_words (Some (value.Boolean b)) = boolean_words b

  -- `v: integers, 8 elements`
  abbrev pub argument_words : Spelled A → List ℕ
  argument_words a = a.word ++ codes ": " ++ value_words a.value

-- a sentence on a line of its own; no sentence is no line
abbrev pub line_of : Option (List ℕ) → List ℕ
line_of None = []
line_of (Some words) = indented words
