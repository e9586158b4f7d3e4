-- The text of a value: integers in decimal, booleans `T` and `F`, vectors `[0 3 4]`, the empty vector `[]`, a
-- descriptor as its lengths, a vector with a descriptor as the vectors of its segments, `[[] [5 1]]`.
-- Source: this library's text format.
use Rattle.std.specs.Prelude.{◌≡◌, ℕ, ℤ, Bool, true, false, List, ◌∷◌, ◌++◌, length, map, take, codes, unsigned_abs}
use Rattle.std.specs.Prelude.{Option, Some, None, Result, Ok, Err, OnOk}
use Rattle.std.specs.List.{flat_map, join_with_byte}
use Rattle.std.specs.Fmt.{decimal, signed_decimal}
use Rattle.cvl_base.specs.declared.fault.Fault.{Fault}
use Rattle.cvl_base.specs.declared.fault.FaultNo.TheVariants.{LengthMismatch}
use Rattle.cvl_base.specs.declared.value.Value.{Value}
use Rattle.cvl_base.specs.declared.value.Value.TheVariants as value
use Rattle.cvl_base.specs.Faults.{fault}
use Rattle.cvl_base.specs.Gives.{◌>>=◌}
use Rattle.cvl_base.specs.Nests.{cut_of, nest}
use Rattle.value_texts.specs.declared.flat_vectors.FlatVector.{FlatVector}
use Rattle.value_texts.specs.declared.flat_vectors.FlatVector.TheVariants as flat

-- the text of a boolean
abbrev pub boolean_text : Bool → List ℕ
boolean_text true = codes "T"
boolean_text false = codes "F"

-- the texts with a space between each two, in brackets
abbrev pub bracketed : List (List ℕ) → List ℕ
bracketed texts = codes "[" ++ join_with_byte 32 texts ++ codes "]"

-- the texts of the elements with a space (32) before each
abbrev pub spaced : {X : Type 0} → (X → List ℕ) → List X → List ℕ
spaced text_of xs = flat_map (λ x. 32 ∷ text_of x) xs

-- the text of a vector: those of its elements in brackets
abbrev pub vector_text : {X : Type 0} → (X → List ℕ) → List X → List ℕ
vector_text text_of xs = bracketed (map text_of xs)

-- the text of the list of lists
abbrev pub nest_text : {X : Type 0} → (X → List ℕ) → List (List X) → List ℕ
nest_text text_of xss = bracketed (map (vector_text text_of) xss)

module _ {X : Type 0} (text_of : X → List ℕ) (lengths : List ℤ) (xs : List X) where
  -- the texts of the vectors into which the lengths cut the elements, with a space before each
  abbrev pub spaced_segments : List ℕ
  spaced_segments = spaced (vector_text text_of) (cut_of (map unsigned_abs lengths) xs)

  -- the text of the list of these vectors
  abbrev pub segments_text : List ℕ
  segments_text = nest_text text_of (cut_of (map unsigned_abs lengths) xs)

-- a call appends bytes to a text; if it is refused, the text begins as before
abbrev pub Appends : {X E : Type 0} → Result X E → List ℕ → List ℕ → List ℕ → Type 0
Appends result before after bytes = OnOk result (after ≡ before ++ bytes) × (take (length before) after ≡ before)

-- the text of a value
abbrev pub text_of : {A : Type 0} → Value A → List ℕ
text_of (value.Integers xs) = vector_text signed_decimal xs
text_of (value.Booleans bs) = vector_text boolean_text bs
text_of (value.Descriptor lengths) = vector_text decimal lengths
text_of (value.Integer n) = signed_decimal n
text_of (value.Boolean b) = boolean_text b

-- bytes, and after them a text if there is one
abbrev pub after_bytes : List ℕ → Result (List ℕ) Fault → Result (List ℕ) Fault
after_bytes bytes text = text >>= λ added. Ok (bytes ++ added)

module _ {A : Type 0} where
  -- the text of a vector's nest, if the lengths add up to the vector; no other value has a nest
  abbrev pub cut_text : List ℕ → Value A → Result (List ℕ) Fault
  cut_text lengths (value.Integers xs) = nest lengths xs >>= λ lists. Ok (nest_text signed_decimal lists)
  cut_text lengths (value.Booleans bs) = nest lengths bs >>= λ lists. Ok (nest_text boolean_text lists)
  cut_text lengths other = Err (fault LengthMismatch)

  -- the text of a value, or that of a vector cut by a descriptor of these lengths
  abbrev pub value_text : Option (List ℕ) → Value A → Result (List ℕ) Fault
  value_text None v = Ok (text_of v)
  value_text (Some lengths) v = cut_text lengths v

-- the text of a vector, or of a descriptor as its lengths
abbrev pub flat_text : FlatVector → List ℕ
flat_text (flat.Integers xs) = vector_text signed_decimal xs.now
flat_text (flat.Booleans bs) = vector_text boolean_text bs.now
