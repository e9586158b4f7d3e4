-- The letters of the calls' names: an operator, a class, and how the vectors are cut and what they hold: `add_wuz`, for example; and
-- the numbers by which callers of other languages name operators.
-- Source: the naming of CVL's calls, in this library's profile; the numbers are those of this library's header for C.
use Rattle.std.specs.Prelude.{ℕ, List, ◌++◌, codes}
use Rattle.call_table.specs.declared.families.IntBinary.{IntBinary}
use Rattle.call_table.specs.declared.families.IntBinary.TheVariants.{Monoid, Sub, Div, Mod, Lsh, Rsh}
use Rattle.call_table.specs.declared.families.IntMonoid.{IntMonoid}
use Rattle.call_table.specs.declared.families.IntMonoid.TheVariants.{Add, Mul, Min, Max, And, Ior, Xor}
use Rattle.call_table.specs.declared.families.Comparison.{Comparison}
use Rattle.call_table.specs.declared.families.Comparison.TheVariants.{Greater, Less, AtLeast, AtMost, Equal, Unequal}
use Rattle.call_table.specs.declared.families.BoolBinary.{BoolBinary}
use Rattle.call_table.specs.declared.families.BoolBinary.TheVariants as truth
use Rattle.call_table.specs.declared.families.Unary.{Unary}
use Rattle.call_table.specs.declared.families.Unary.TheVariants.{Not, Copy}
use Rattle.call_table.specs.declared.families.Form.{Form}
use Rattle.call_table.specs.declared.families.Form.TheVariants.{Simple, Back, Select, Default}
use Rattle.call_table.specs.declared.families.Cut.{Cut}
use Rattle.call_table.specs.declared.families.Cut.TheVariants.{Flat, Segmented}
use Rattle.call_table.specs.declared.families.Element.{Element}
use Rattle.call_table.specs.declared.families.Element.TheVariants.{Integer, Boolean}

-- how an operator is named: by three letters in scripts, and by a number, which never changes
pub record OperatorLabel : Type 0 where
  pub letters : List ℕ
  pub number : ℕ

-- the label with these letters and this number
abbrev label : List ℕ → ℕ → OperatorLabel
label letters number = record { letters = letters; number = number }

-- the letters and the number of an operator on integers that scans
abbrev pub int_monoid_label : IntMonoid → OperatorLabel
int_monoid_label Add = label (codes "add") 0
int_monoid_label Mul = label (codes "mul") 1
int_monoid_label Min = label (codes "min") 2
int_monoid_label Max = label (codes "max") 3
int_monoid_label And = label (codes "and") 4
int_monoid_label Ior = label (codes "ior") 5
int_monoid_label Xor = label (codes "xor") 6

-- the letters and the number of an operator on two integers
abbrev pub int_binary_label : IntBinary → OperatorLabel
int_binary_label (Monoid operator) = int_monoid_label operator
int_binary_label Sub = label (codes "sub") 7
int_binary_label Div = label (codes "div") 8
int_binary_label Mod = label (codes "mod") 9
int_binary_label Lsh = label (codes "lsh") 10
int_binary_label Rsh = label (codes "rsh") 11

-- the letters and the number of a comparison
abbrev pub comparison_label : Comparison → OperatorLabel
comparison_label Greater = label (codes "grt") 12
comparison_label Less = label (codes "les") 13
comparison_label AtLeast = label (codes "geq") 14
comparison_label AtMost = label (codes "leq") 15
comparison_label Equal = label (codes "eql") 16
comparison_label Unequal = label (codes "neq") 17

-- an operator on booleans is named as that on integers which does the same to each bit
abbrev pub bool_binary_label : BoolBinary → OperatorLabel
bool_binary_label truth.And = int_monoid_label And
bool_binary_label truth.Ior = int_monoid_label Ior
bool_binary_label truth.Xor = int_monoid_label Xor

-- the letters and the number of an operator on one element
abbrev pub unary_label : Unary → OperatorLabel
unary_label Not = label (codes "not") 18
unary_label Copy = label (codes "cpy") 19

-- the letters of a permute's form
abbrev pub form_letters : Form → List ℕ
form_letters Simple = codes "smp"
form_letters Back = codes "bck"
form_letters Select = codes "sel"
form_letters Default = codes "def"

-- unsegmented or segmented, of integers or of booleans
abbrev pub cut_and_element_letters : Cut → Element → List ℕ
cut_and_element_letters Flat Integer = codes "uz"
cut_and_element_letters Flat Boolean = codes "ub"
cut_and_element_letters Segmented Integer = codes "ez"
cut_and_element_letters Segmented Boolean = codes "eb"

-- an operator's letters, the class's, and then the cut's and the elements'
abbrev pub call_name_of : List ℕ → List ℕ → Cut → Element → List ℕ
call_name_of operator class cut element = operator ++ (class ++ cut_and_element_letters cut element)
