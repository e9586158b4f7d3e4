-- The grammar of a nested text: `[`, any number of inner lists, `]`, and no more; an inner list is `[`, any number of signed decimals
-- inside 32 bits, `]`.
-- Source: this library's input format, in which it also writes a vector beside a descriptor.
use Rattle.std.specs.Prelude.{◌≡◌, ◌≤◌, ℕ, ◌+◌, Bool, true, false, ◌||◌, ◌==◌, nat_eq, nat_lt, List, [], ◌∷◌, ◌++◌, length, map, sum}
use Rattle.std.specs.Prelude.{count_by, flat_map, codes, Option, Some, None, Result, Ok, Err, ℤ, FitsSigned, if◌then◌else◌}
use Rattle.std.specs.List.{All}
use Rattle.std.specs.Int.{w32}
use Rattle.std.specs.Fmt.{signed_decimal}
use Rattle.std.specs.Cmp.Lexicographic.{pointwise}
use Rattle.cvl_base.specs.Lists.{joined}
use Rattle.cvl_base.specs.declared.fault.Fault.{Fault}
use Rattle.cvl_base.specs.declared.fault.FaultNo.TheVariants.{TooLong, BadInput}
use Rattle.cvl_base.specs.Faults.{fault, fault_at}
use Rattle.cvl_base.specs.Gives.{◌>>=◌, fault_if}
use Rattle.cvl_base.specs.Limits.{most_elements}
use Rattle.cvl_base.specs.Nests.{cut_of, nest}
use Rattle.value_texts.specs.Texts.{nest_text}
use Rattle.line_reader.specs.declared.token.ByteClass.{ByteClass}
use Rattle.line_reader.specs.declared.token.ByteClass.TheVariants.{Blank, Alone, InToken}
use Rattle.line_reader.specs.Tokens.{tokens_by}
use Rattle.line_reader.specs.Numbers.{written_number}
use Rattle.call_reader.specs.Inputs.{is_white_space}

-- white space stands between tokens, and `[` (91) and `]` (93) are tokens of their own
abbrev pub nested_class : ℕ → ByteClass
nested_class b = if is_white_space b then Blank else (if (b == 91) || (b == 93) then Alone else InToken)

-- what a token means to the grammar: `[`, `]`, an integer of 32 bits, or none of these
pub data Mark : Type 0 where
  opening : Mark
  closing : Mark
  number : ℤ → Mark
  stray : Mark

-- the number if there is one, else another mark
abbrev pub number_or : Option ℤ → Mark → Mark
number_or (Some n) other = number n
number_or None other = other

-- what a token is: a number of 32 bits, a bracket, or neither
abbrev pub mark_of : List ℕ → Mark
mark_of token =
    number_or (written_number token)
    (if pointwise nat_eq token (codes "[") then opening else (if pointwise nat_eq token (codes "]") then closing else stray))

-- the tokens of a nested text
abbrev pub marks_of : List ℕ → List Mark
marks_of bytes = map mark_of (tokens_by nested_class bytes)

-- whether a token is `[`
abbrev pub is_opening : Mark → Bool
is_opening opening = true
is_opening closing = false
is_opening (number n) = false
is_opening stray = false

-- whether a token is no bracket
abbrev pub is_no_bracket : Mark → Bool
is_no_bracket opening = false
is_no_bracket closing = false
is_no_bracket (number n) = true
is_no_bracket stray = true

-- more tokens other than brackets than a vector may have elements, or more `[` than those of the outer list and of as many
-- inner lists as a descriptor may have segments
abbrev pub are_too_many : List Mark → Bool
are_too_many marks =
    nat_lt most_elements (count_by is_no_bracket marks) || nat_lt (most_elements + 1) (count_by is_opening marks)

-- where a token stands: before the outer list, between inner lists, in an inner list, after the outer list
pub data Where : Type 0 where
  before : Where
  between : Where
  inside : Where
  behind : Where

-- the lists with this number at the front of the first of them
abbrev pub with_number : ℤ → List (List ℤ) → List (List ℤ)
with_number n [] = (n ∷ []) ∷ []
with_number n (list ∷ lists) = (n ∷ list) ∷ lists

-- the inner lists that the marks write from there on; the first mark stands at the place given, and in an inner list the first is the rest
-- of it; or the fault at the first mark that can't stand there, or at the end if they end too early
abbrev pub lists_from : Where → ℕ → List Mark → Result (List (List ℤ)) Fault
lists_from before place (opening ∷ marks) = lists_from between (place + 1) marks
lists_from between place (opening ∷ marks) = lists_from inside (place + 1) marks
lists_from inside place (number n ∷ marks) = lists_from inside (place + 1) marks >>= λ lists. Ok (with_number n lists)
lists_from inside place (closing ∷ marks) = lists_from between (place + 1) marks >>= λ lists. Ok ([] ∷ lists)
lists_from between place (closing ∷ marks) = lists_from behind (place + 1) marks
lists_from behind place [] = Ok []
lists_from _ place _ = Err (fault_at BadInput place)

-- the numbers of all inner lists, in order, and the lists' lengths
abbrev pub flat_nest : List (List ℤ) → List ℤ × List ℕ
flat_nest lists = (joined lists, map length lists)

-- the vector and the lengths that a nested text writes, or its fault; too many tokens are one whatever they are
abbrev pub nested_of : List ℕ → Result (List ℤ × List ℕ) Fault
nested_of bytes =
    fault_if (are_too_many (marks_of bytes)) (fault TooLong)
    (lists_from before 0 (marks_of bytes) >>= λ lists. Ok (flat_nest lists))

-- `[`, the numbers, `]`
abbrev pub list_marks : List ℤ → List Mark
list_marks list = opening ∷ map number list ++ (closing ∷ [])

-- `[`, the inner lists, `]`
abbrev pub nest_marks : List (List ℤ) → List Mark
nest_marks lists = opening ∷ flat_map list_marks lists ++ (closing ∷ [])

-- what it means to be a nested text of a vector and a descriptor: the tokens are those of the vector's nest, within the
-- limits
pub record IsNestedText (bytes : List ℕ) (numbers : List ℤ) (lengths : List ℕ) : Type 0 where
  pub total : sum lengths ≡ length numbers
  pub tokens : marks_of bytes ≡ nest_marks (cut_of lengths numbers)
  pub few_numbers : length numbers ≤ most_elements
  pub few_lists : length lengths ≤ most_elements

-- each number fits 32 bits, in two's complement
abbrev pub IsWithin32 : List ℤ → Type 0
IsWithin32 numbers = All (FitsSigned w32) numbers

-- the text of the nest of these lengths and numbers, read as a nested text
abbrev pub read_again : List ℕ → List ℤ → Result (List ℤ × List ℕ) Fault
read_again lengths numbers = nest lengths numbers >>= λ lists. nested_of (nest_text signed_decimal lists)
