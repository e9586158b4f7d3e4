-- The calls by their names: which call a word means.
-- Source: the naming of CVL's calls, in this library's profile.
use Rattle.std.specs.Prelude.{◌≡◌, ℕ, Bool, List, [], ◌∷◌, ◌++◌, drop, map, find, Option, bytes_eq}
use Rattle.call_table.specs.declared.families.Form.{Form}
use Rattle.call_table.specs.declared.families.Form.TheVariants.{Simple, Back, Select, Default}
use Rattle.call_table.specs.declared.families.Cut.{Cut}
use Rattle.call_table.specs.declared.families.Cut.TheVariants.{Flat, Segmented}
use Rattle.call_table.specs.declared.families.Element.{Element}
use Rattle.call_table.specs.declared.families.Element.TheVariants.{Integer, Boolean}
use Rattle.call_table.specs.declared.operation.Op.{Op}
use Rattle.call_table.specs.declared.operation.Op.TheVariants.{Input, Nested, Ints2, Ints1, Compare, Bools2, Bools1, Choose, IntFromBool}
use Rattle.call_table.specs.declared.operation.Op.TheVariants.{BoolFromInt, Scan, Reduce, BoolScan, BoolReduce, Permute, Length, Count}
use Rattle.call_table.specs.declared.operation.Op.TheVariants.{Pack, PackedLengths, Distribute, Index, Extract, Replace}
use Rattle.call_table.specs.declared.operation.Op.TheVariants.{MakeDescriptor, DescriptorLengths, CheckedScan, CheckedReduce}
use Rattle.call_table.specs.declared.spelling.Spelling.{Spelling}
use Rattle.call_table.specs.Calls.{spelling_of}
unfoldable pub use Rattle.call_table.specs.Operators.{bool_binaries, comparisons, int_binaries, int_monoids, unaries}

-- the bytes that a spelling shows: its parts, one after the other
abbrev pub bytes_of : Spelling → List ℕ
bytes_of spelling = spelling.operator.now ++ (spelling.class.now ++ spelling.cut_and_element.now)

-- all forms and elements, each once
unfoldable pub forms : List Form
forms = Simple ∷ Back ∷ Select ∷ Default ∷ []

-- the two types of elements
unfoldable pub elements : List Element
elements = Integer ∷ Boolean ∷ []

-- the calls, those of one class together: first those that work place by place, on integers and on booleans
abbrev pub elementwise_calls : List Op
elementwise_calls =
    (map Ints2 int_binaries ++ map Ints1 unaries ++ map Compare comparisons ++ Choose Integer ∷ BoolFromInt ∷ [])
    ++ map Bools2 bool_binaries ++ map Bools1 unaries ++ Choose Boolean ∷ IntFromBool ∷ []

-- those that copy, pick or change single elements
abbrev pub element_calls : Cut → Element → List Op
element_calls cut element = Distribute cut element ∷ Extract cut element ∷ Replace cut element ∷ []

-- the others on integers that take their vectors whole, or that take them by segments
abbrev pub int_calls : Cut → List Op
int_calls cut =
    (map (λ o. Scan o cut) int_monoids ++ CheckedScan cut ∷ []) ++ (map (λ o. Reduce o cut) int_monoids ++ CheckedReduce cut ∷ [])
    ++ map (λ form. Permute form cut Integer) forms ++ element_calls cut Integer ++ Pack cut Integer ∷ Index cut ∷ []

-- and on booleans
abbrev pub bool_calls : Cut → List Op
bool_calls cut =
    map (λ o. BoolScan o cut) bool_binaries ++ map (λ o. BoolReduce o cut) bool_binaries
    ++ map (λ form. Permute form cut Boolean) forms ++ element_calls cut Boolean ++ Pack cut Boolean ∷ Count cut ∷ []

-- all that take their vectors whole, or all that take them by segments
abbrev pub cut_calls : Cut → List Op
cut_calls cut = int_calls cut ++ bool_calls cut

-- those that read an input or a length, or that make and read descriptors
abbrev pub other_calls : List Op
other_calls = map Length elements ++ Input ∷ Nested ∷ PackedLengths ∷ MakeDescriptor ∷ DescriptorLengths ∷ []

-- every call, once
abbrev pub calls : List Op
calls = elementwise_calls ++ cut_calls Flat ++ cut_calls Segmented ++ other_calls

-- after the three letters of its operator the name goes on with these
abbrev pub GoesOn : List ℕ → Op → Type 0
GoesOn letters op = drop 3 (spelling_of op) ≡ letters

-- is it spelled so?
abbrev pub is_spelled : List ℕ → Op → Bool
is_spelled word op = bytes_eq word (spelling_of op)

-- the call that is spelled so
unfoldable pub op_of : List ℕ → Option Op
op_of word = find (is_spelled word) calls
