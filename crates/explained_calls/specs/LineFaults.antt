-- What is wrong with a line, in words.
-- Source: this library's script format.
use Rattle.std.specs.Prelude.{ℕ, ◌+◌, ◌==◌, ◌&&◌, Bool, not, List, [], ◌∷◌, ◌++◌, codes}
use Rattle.std.specs.Prelude.{find, length, nat_eq, Option, Some, None, is_some, unwrap_or, if◌then◌else◌}
use Rattle.std.specs.Cmp.Lexicographic.{pointwise}
use Rattle.std.specs.Fmt.{decimal}
use Rattle.std.specs.List.{after_first, position_or_len}
use Rattle.cvl_base.specs.Calls.{binds_of, is_write, operands_of, spelling_of, takes_of}
use Rattle.cvl_base.specs.Spellings.{op_of}
use Rattle.cvl_base.specs.declared.fault.FaultNo.{FaultNo}
use Rattle.cvl_base.specs.declared.fault.FaultNo.TheVariants.{BadLine, UnknownCall, WrongArgumentCount, BadNumber}
use Rattle.cvl_base.specs.declared.operation.Op.{Op}
use Rattle.cvl_base.specs.declared.operation.Op.TheVariants.{Write}
use Rattle.cvl_base.specs.Words.{is_name}
use Rattle.line_reader.specs.Lines.{arg_of}
use Rattle.explained_calls.specs.declared.wanted.Hint.{Hint}
use Rattle.explained_calls.specs.declared.wanted.Reason.{Reason}
use Rattle.explained_calls.specs.declared.wanted.Reason.TheVariants as reason
use Rattle.explained_calls.specs.declared.wanted.Wanted.{Wanted}
use Rattle.explained_calls.specs.declared.wanted.Wanted.TheVariants as wanted
use Rattle.explained_calls.specs.CallWords.{call_words}
use Rattle.explained_calls.specs.Misplaced.{hint_of, is_equals, is_write_line}
use Rattle.explained_calls.specs.Nearest.{call_names, near}
use Rattle.explained_calls.specs.PlacedTokens.{Placed, placed_tokens}
use Rattle.explained_calls.specs.Sentences.{counted, indented, shortened}

-- ---- a line without the form of a line

-- the words for what a line should have at a place
abbrev pub wanted_words : Wanted → List ℕ
wanted_words wanted.Name = codes "a name"
wanted_words wanted.EqualsOrName = codes "= or a name"
wanted_words wanted.OtherName = codes "another name than the first"
wanted_words wanted.Equals = codes "="
wanted_words wanted.Call = codes "a call"
wanted_words wanted.Argument = codes "a name, a number, T or F"

-- the words to add if the line ends too early
abbrev pub end_words : Bool → List ℕ
end_words ends = if ends then codes ", but the line ends" else []

-- the words to add for the reason why a token may not stand where it stands
abbrev pub reason_words : Reason → List ℕ
reason_words reason.Other = []
reason_words reason.Reserved = codes "; write, T and F cannot be names"
reason_words (reason.TooLong bytes) = codes "; a name has at most 32 bytes, and this one has " ++ decimal bytes
reason_words reason.NoName = codes "; a name is a letter, and then letters, digits and underscores"
reason_words reason.Parenthesis = codes "; a line makes one call, without parentheses or commas"
reason_words reason.ByteOrderMark = codes "; the line begins with a byte order mark, which has to go"

-- columns are bytes, counted from 1
abbrev pub hint_words : Hint → List ℕ
hint_words hint =
    codes "column " ++ decimal (hint.place + 1) ++ codes ": expected " ++ wanted_words hint.wanted ++ end_words hint.ends
    ++ reason_words hint.reason

-- a line of the explanation for a hint; nothing without one
abbrev pub hint_line : Option Hint → List ℕ
hint_line None = []
hint_line (Some hint) = indented (hint_words hint)

-- the two names that a line has, if it has nothing else
abbrev pub name_pair : List Placed → Option (List ℕ × List ℕ)
name_pair (first ∷ second ∷ []) = if is_name first.bytes && is_name second.bytes then Some (first.bytes, second.bytes) else None
name_pair _ = None

-- the words for a call with an argument alone
abbrev pub alone_words : List ℕ → List ℕ → List ℕ
alone_words call argument =
    codes "`" ++ call ++ codes " " ++ argument ++ codes "` binds no name: a call stands behind a name and ="

-- the words for another word before a name, as `print`
abbrev pub shows_words : List ℕ → List ℕ → List ℕ
shows_words word name =
    codes "`" ++ word ++ codes " " ++ name ++ codes "` is no binding; `write " ++ name ++ codes "` shows a value"

-- what a line of two names lacks: a binding, if the first is a call, and else the word `write`
abbrev pub pair_words : List ℕ → List ℕ → List ℕ
pair_words first second = if is_some (op_of first) then alone_words first second else shows_words first second

-- the line of the explanation for two names alone, or else for a hint
abbrev pub bad_line_words : Option (List ℕ × List ℕ) → Option Hint → List ℕ
bad_line_words None hint = hint_line hint
bad_line_words (Some pair) hint = indented (pair_words pair.0 pair.1)

-- ---- a line with the form of a line: the names before `=`, the call after it, and its arguments

-- a line cut into the number of names before `=`, the word of its call, and its arguments
pub record Parts : Type 0 where
  pub names : ℕ
  pub call : List ℕ
  pub arguments : List Placed

-- the tokens from the call on as the parts of a line, with so many names before `=`
abbrev pub call_parts : ℕ → List Placed → Parts
call_parts names [] = record { names = names; call = []; arguments = [] }
call_parts names (call ∷ arguments) = record { names = names; call = call.bytes; arguments = arguments }

-- the parts of a line that binds names: those before `=`, the call behind it, and its arguments
abbrev pub binding_parts : List Placed → Parts
binding_parts tokens =
    call_parts (position_or_len (λ token. is_equals token.bytes) tokens) (after_first (λ token. is_equals token.bytes) tokens)

-- the parts of a line; a write has no names
abbrev pub parts_of : List Placed → Parts
parts_of [] = call_parts 0 []
parts_of (first ∷ others) = if is_write_line first.bytes others then call_parts 0 (first ∷ others) else binding_parts (first ∷ others)

-- ---- a call that is unknown

-- the words that propose a call that is near, or else say where all stand
abbrev pub near_words : Option (List ℕ) → List ℕ
near_words None = codes "; docs/user/calls.md lists all calls"
near_words (Some name) = codes "; the nearest call is " ++ name

-- the words for a word that is no call
abbrev pub no_call_words : List ℕ → List ℕ
no_call_words word = word ++ codes " is no call" ++ near_words (near word call_names)

-- the words for a name without arguments in the place of a call: what copies what it holds
abbrev pub copy_words : List ℕ → List ℕ
copy_words name =
    name ++ codes " is no call; if it is a vector, `cpy_wuz " ++ name ++ codes "` copies its integers, and `cpy_wub " ++ name
    ++ codes "` its booleans"

-- the words for another word than `write` in the place of a call: a name without arguments may be one that should be copied
abbrev pub other_word_words : List ℕ → ℕ → List ℕ
other_word_words word arguments = if is_name word && arguments == 0 then copy_words word else no_call_words word

-- the words for a word in the place of a call with so many arguments
abbrev pub unknown_call_words : List ℕ → ℕ → List ℕ
unknown_call_words word arguments =
    if pointwise nat_eq word (codes "write") then codes "write is no call: it begins a line of its own, and binds no name"
    else other_word_words word arguments

-- ---- a call with too many or too few arguments or names

-- ` takes 2 arguments, and the line has 3`
abbrev pub counts_words : List ℕ → ℕ → List ℕ → ℕ → List ℕ
counts_words verb wanted thing present = verb ++ counted wanted thing ++ codes ", and the line has " ++ decimal present

-- how many arguments the call wants, or how many names, and how many the line has
abbrev pub amounts_words : Op → ℕ → ℕ → List ℕ
amounts_words op names arguments =
    if takes_of op arguments then counts_words (codes " binds ") (binds_of op) (codes "name") names
    else (if is_write op then (codes " takes 1 or 2 names, and the line has " ++ decimal arguments)
    else counts_words (codes " takes ") (length (operands_of op)) (codes "argument") arguments)

-- `add_ruz takes 1 argument, and the line has 2`
abbrev pub count_words : Op → ℕ → ℕ → List ℕ
count_words op names arguments = spelling_of op ++ amounts_words op names arguments

-- what the call takes, and what the line has
abbrev pub count_lines : Op → ℕ → ℕ → List ℕ
count_lines op names arguments = indented (call_words op) ++ indented (count_words op names arguments)

-- the call of this name, or `write`
abbrev pub op_or_write : List ℕ → Op
op_or_write word = unwrap_or (op_of word) Write

-- ---- a number that is none

-- whether a token is no argument: neither a name nor a number nor a boolean
abbrev pub is_bad_number : List ℕ → Bool
is_bad_number token = not (is_some (arg_of token))

-- the words for a token that is no number
abbrev pub no_number_words : List ℕ → List ℕ
no_number_words token = shortened token ++ codes " is no integer from -2147483648 to 2147483647"

-- a line of the explanation for a token that is no number
abbrev pub number_line : Option Placed → List ℕ
number_line None = []
number_line (Some token) = indented (no_number_words token.bytes)

-- ---- all of them

-- the lines of the explanation for a fault of a line that has its parts
abbrev pub parts_fault_words : Parts → FaultNo → List ℕ
parts_fault_words parts UnknownCall = indented (unknown_call_words parts.call (length parts.arguments))
parts_fault_words parts WrongArgumentCount = count_lines (op_or_write parts.call) parts.names (length parts.arguments)
parts_fault_words parts BadNumber = number_line (find (λ token. is_bad_number token.bytes) parts.arguments)
parts_fault_words parts _ = []

-- the line of the explanation for a fault that the line alone shows; nothing for other faults
abbrev pub line_fault_words : List ℕ → FaultNo → List ℕ
line_fault_words line BadLine = bad_line_words (name_pair (placed_tokens line)) (hint_of (placed_tokens line))
line_fault_words line number = parts_fault_words (parts_of (placed_tokens line)) number
