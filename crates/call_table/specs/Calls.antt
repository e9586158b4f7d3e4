-- The table of calls: the name of each, the kinds of its arguments, in order, and of the values that it gives.
-- Source: the calls of CVL, the C Vector Library (Blelloch and others, 1993); names, orders and exceptions are this library's profile.
use Rattle.std.specs.Prelude.{ℕ, Bool, true, false, if◌then◌else◌, ◌&&◌, ◌||◌, ◌==◌}
use Rattle.std.specs.Prelude.{List, [], ◌∷◌, ◌++◌, length, slice_get, codes, Option, Some, None}
use Rattle.call_table.specs.declared.kind.Kind.{Kind}
use Rattle.call_table.specs.declared.kind.Kind.TheVariants.{Integers, Booleans, Descriptor, Integer, Boolean}
use Rattle.call_table.specs.declared.families.Form.{Form}
use Rattle.call_table.specs.declared.families.Form.TheVariants.{Simple, Back, Select, Default}
use Rattle.call_table.specs.declared.families.Cut.{Cut}
use Rattle.call_table.specs.declared.families.Cut.TheVariants.{Flat, Segmented}
use Rattle.call_table.specs.declared.families.Element.{Element}
use Rattle.call_table.specs.declared.families.Element.TheVariants as of
use Rattle.call_table.specs.declared.operation.Op.{Op}
use Rattle.call_table.specs.declared.operation.Op.TheVariants.{Input, Nested, Ints2, Ints1, Compare, Bools2, Bools1, Choose, IntFromBool}
use Rattle.call_table.specs.declared.operation.Op.TheVariants.{BoolFromInt, Scan, Reduce, BoolScan, BoolReduce, Permute, Length, Count}
use Rattle.call_table.specs.declared.operation.Op.TheVariants.{Pack, PackedLengths, Distribute, Index, Extract, Replace}
use Rattle.call_table.specs.declared.operation.Op.TheVariants.{MakeDescriptor, DescriptorLengths, CheckedScan, CheckedReduce, Write}
use Rattle.call_table.specs.Letters.{OperatorLabel, int_binary_label, unary_label, comparison_label, bool_binary_label, int_monoid_label}
use Rattle.call_table.specs.Letters.{form_letters, call_name_of}

-- a single value, and a vector of such values
abbrev pub single_of : Element → Kind
single_of of.Integer = Integer
single_of of.Boolean = Boolean

-- the kind of a vector of such elements
abbrev pub vector_of : Element → Kind
vector_of of.Integer = Integers
vector_of of.Boolean = Booleans

-- one value for the whole vector, or one for each segment
abbrev pub each_of : Cut → Element → Kind
each_of Flat element = single_of element
each_of Segmented element = vector_of element

-- how long a vector will be: a count, or the lengths of its segments
abbrev pub extent_of : Cut → Kind
extent_of Flat = Integer
extent_of Segmented = Descriptor

-- what cuts the vectors of a segmented call: one descriptor, or one for each of two lengths
abbrev pub cut_by : Cut → List Kind
cut_by Flat = []
cut_by Segmented = Descriptor ∷ []

-- the descriptors of a call on two vectors that are cut differently, if it goes by segments
abbrev pub cut_by_both : Cut → List Kind
cut_by_both cut = cut_by cut ++ cut_by cut

-- the arguments of a permute: a source and an index vector; flags, or a vector of defaults; and what cuts them
abbrev permuted_by : Form → Cut → Element → List Kind
permuted_by Simple cut element = vector_of element ∷ Integers ∷ cut_by cut
permuted_by Back cut element = vector_of element ∷ Integers ∷ cut_by_both cut
permuted_by Select cut element = vector_of element ∷ Integers ∷ Booleans ∷ cut_by cut
permuted_by Default cut element = vector_of element ∷ Integers ∷ vector_of element ∷ cut_by_both cut

-- those of a choice: flags, and the two vectors that are chosen from
abbrev chosen_by : Element → List Kind
chosen_by element = Booleans ∷ vector_of element ∷ vector_of element ∷ []

-- those of an extract: a vector, and an index into it or into each segment
abbrev extracted_by : Cut → Element → List Kind
extracted_by cut element = vector_of element ∷ each_of cut of.Integer ∷ cut_by cut

-- those of a replace: those of an extract, with a value for each index
abbrev replaced_by : Cut → Element → List Kind
replaced_by cut element = vector_of element ∷ each_of cut of.Integer ∷ each_of cut element ∷ cut_by cut

-- those of an index: an init and a stride, and how long the vector will be
abbrev indexed_by : Cut → List Kind
indexed_by cut = each_of cut of.Integer ∷ each_of cut of.Integer ∷ extent_of cut ∷ []

-- a row of the table: a call's name, its arguments in the order of the script, and what it gives, one value for each name
-- that it binds
pub record Row : Type 0 where
  pub name : List ℕ
  pub operands : List Kind
  pub results : List Kind

-- the row with this name, these arguments and these results
abbrev row : List ℕ → List Kind → List Kind → Row
row name operands results = record { name = name; operands = operands; results = results }

-- the row of a call whose name is made of letters
abbrev call : List ℕ → List ℕ → Cut → Element → List Kind → Kind → Row
call operator class cut element operands result = row (call_name_of operator class cut element) operands (result ∷ [])

-- the row of a call whose name begins with the letters of an operator
abbrev by : OperatorLabel → List ℕ → Cut → Element → List Kind → Kind → Row
by label class cut element operands result = call label.letters class cut element operands result

-- the table; `write` is no call, gives no value, and takes what `accepts_of` says
abbrev pub row_of : Op → Row
row_of Input = row (codes "input") (Integer ∷ []) (Integers ∷ [])
row_of Nested = row (codes "nested") (Integer ∷ []) (Integers ∷ Descriptor ∷ [])
row_of (Ints2 op) = by (int_binary_label op) (codes "_w") Flat of.Integer (Integers ∷ Integers ∷ []) Integers
row_of (Ints1 op) = by (unary_label op) (codes "_w") Flat of.Integer (Integers ∷ []) Integers
row_of (Compare op) = by (comparison_label op) (codes "_w") Flat of.Integer (Integers ∷ Integers ∷ []) Booleans
row_of (Bools2 op) = by (bool_binary_label op) (codes "_w") Flat of.Boolean (Booleans ∷ Booleans ∷ []) Booleans
row_of (Bools1 op) = by (unary_label op) (codes "_w") Flat of.Boolean (Booleans ∷ []) Booleans
row_of (Choose element) = call (codes "sel") (codes "_w") Flat element (chosen_by element) (vector_of element)
row_of IntFromBool = call (codes "int") (codes "_w") Flat of.Boolean (Booleans ∷ []) Integers
row_of BoolFromInt = call (codes "boo") (codes "_w") Flat of.Integer (Integers ∷ []) Booleans
row_of (Scan op cut) = by (int_monoid_label op) (codes "_s") cut of.Integer (Integers ∷ cut_by cut) Integers
row_of (Reduce op cut) = by (int_monoid_label op) (codes "_r") cut of.Integer (Integers ∷ cut_by cut) (each_of cut of.Integer)
row_of (CheckedScan cut) = call (codes "tot") (codes "_s") cut of.Integer (Integers ∷ cut_by cut) Integers
row_of (CheckedReduce cut) = call (codes "tot") (codes "_r") cut of.Integer (Integers ∷ cut_by cut) (each_of cut of.Integer)
row_of (BoolScan op cut) = by (bool_binary_label op) (codes "_s") cut of.Boolean (Booleans ∷ cut_by cut) Booleans
row_of (BoolReduce op cut) = by (bool_binary_label op) (codes "_r") cut of.Boolean (Booleans ∷ cut_by cut) (each_of cut of.Boolean)
row_of (Permute form cut element) = call (form_letters form) (codes "_p") cut element (permuted_by form cut element) (vector_of element)
row_of (Length element) = call (codes "len") (codes "_l") Flat element (vector_of element ∷ []) Integer
row_of (Count cut) = call (codes "cnt") (codes "_l") cut of.Boolean (Booleans ∷ cut_by cut) (each_of cut of.Integer)
row_of (Pack cut element) = call (codes "pck") (codes "_l") cut element (vector_of element ∷ Booleans ∷ cut_by cut) (vector_of element)
row_of PackedLengths = row (codes "pck_fov") (Booleans ∷ Descriptor ∷ []) (Descriptor ∷ [])
row_of (Distribute cut element) = call (codes "dis") (codes "_v") cut element (each_of cut element ∷ extent_of cut ∷ []) (vector_of element)
row_of (Index cut) = call (codes "ind") (codes "_l") cut of.Integer (indexed_by cut) Integers
row_of (Extract cut element) = call (codes "ext") (codes "_v") cut element (extracted_by cut element) (each_of cut element)
row_of (Replace cut element) = call (codes "rep") (codes "_v") cut element (replaced_by cut element) (vector_of element)
row_of MakeDescriptor = row (codes "mke_fov") (Integers ∷ []) (Descriptor ∷ [])
row_of DescriptorLengths = row (codes "len_fos") (Descriptor ∷ []) (Integers ∷ [])
row_of Write = row (codes "write") [] []

-- the name of a call
abbrev pub spelling_of : Op → List ℕ
spelling_of op = (row_of op).name

-- the kinds of a call's arguments, in order
abbrev pub operands_of : Op → List Kind
operands_of op = (row_of op).operands

-- the kinds of the values that a call gives
abbrev pub results_of : Op → List Kind
results_of op = (row_of op).results

-- whether it is `write`, which is no call
abbrev pub is_write : Op → Bool
is_write Write = true
is_write _ = false

-- how many names it binds: one for each value that it gives
abbrev pub binds_of : Op → ℕ
binds_of op = length (results_of op)

-- how many arguments it takes: `write` a value, and with it maybe a descriptor; a call one for each operand
abbrev pub takes_of : Op → ℕ → Bool
takes_of op count = if is_write op then (count == 1) || (count == 2) else (count == length (operands_of op))

-- whether two kinds are the same
abbrev pub same_kind : Kind → Kind → Bool
same_kind Integers Integers = true
same_kind Booleans Booleans = true
same_kind Descriptor Descriptor = true
same_kind Integer Integer = true
same_kind Boolean Boolean = true
same_kind _ _ = false

-- whether a kind is that of vectors
abbrev pub is_vector : Kind → Bool
is_vector kind = same_kind kind Integers || same_kind kind Booleans

-- `write` of one argument takes any value; of two, a vector and then its descriptor
abbrev pub write_accepts : ℕ → ℕ → Kind → Bool
write_accepts count place kind =
    ((count == 1) && (place == 0))
    || ((count == 2) && (place == 0) && is_vector kind)
    || ((count == 2) && (place == 1) && same_kind kind Descriptor)

-- whether the operand at a place is there and has this kind
abbrev pub is_operand : Option Kind → Kind → Bool
is_operand None kind = false
is_operand (Some wanted) kind = same_kind wanted kind

-- among so many arguments, may the one at this place have this kind?
abbrev pub accepts_of : Op → ℕ → ℕ → Kind → Bool
accepts_of op count place kind =
    if is_write op then write_accepts count place kind else is_operand (slice_get (operands_of op) place) kind
