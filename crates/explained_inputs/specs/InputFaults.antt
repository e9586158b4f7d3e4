-- What is wrong with an input, in words: where the bad token stands, and what was expected there.
-- Source: this library's input formats.
use Rattle.std.specs.Prelude.{ℕ, ◌-◌, ◌==◌, ◌++◌, Bool, true, false, List, [], ◌∷◌, codes, count_by, length, slice_get, take}
use Rattle.std.specs.Prelude.{Option, Some, None, if◌then◌else◌}
use Rattle.std.specs.Fmt.{decimal}
use Rattle.call_reader.specs.Inputs.{input_class}
use Rattle.call_reader.specs.NestedTexts.{nested_class}
use Rattle.explained_calls.specs.PlacedTokens.{Placed, placed_by}
use Rattle.explained_calls.specs.Sentences.{indented, shortened}
use Rattle.explained_calls.specs.Shown.{shown}
use Rattle.explained_inputs.specs.TokenPlaces.{column_at, line_at}

-- `numbers:3:7: `, with the line and the column of a place
abbrev pub position_words : List ℕ → List ℕ → ℕ → List ℕ
position_words file bytes place =
    shown file ++ codes ":" ++ decimal (line_at bytes place) ++ codes ":" ++ decimal (column_at bytes place) ++ codes ": "

-- a token in quotation marks
abbrev pub quoted : List ℕ → List ℕ
quoted token = codes "\"" ++ shortened token ++ codes "\""

-- what reads a token that begins with `[` (91), as the first of a list of lists does
abbrev pub nested_words : List ℕ → List ℕ
nested_words [] = []
nested_words (b ∷ bs) = if b == 91 then codes "; nested reads lists of lists" else []

-- `"12x" is no integer from -2147483648 to 2147483647`
abbrev pub no_integer_words : List ℕ → List ℕ
no_integer_words token = quoted token ++ codes " is no integer from -2147483648 to 2147483647" ++ nested_words token

-- `numbers:3:7: "12x" is no integer from -2147483648 to 2147483647`
abbrev pub flat_words : List ℕ → List ℕ → Placed → List ℕ
flat_words file bytes token = position_words file bytes token.start ++ no_integer_words token.bytes

-- the line about a token of a flat input, if it has it
abbrev pub flat_words_of : List ℕ → List ℕ → Option Placed → List ℕ
flat_words_of file bytes None = []
flat_words_of file bytes (Some token) = indented (flat_words file bytes token)

-- how many lists are open before a place: more `[` (91) than `]` (93) stand there
abbrev pub open_lists : List ℕ → ℕ → ℕ
open_lists bytes place = count_by (λ b. b == 91) (take place bytes) - count_by (λ b. b == 93) (take place bytes)

-- what may stand where so many lists are open, after tokens or at the beginning
abbrev pub expected_at : Bool → ℕ → List ℕ
expected_at is_first lists =
    if is_first then codes "\"[\""
    else (if lists == 0 then codes "the end"
    else (if lists == 1 then codes "\"[\" or \"]\""
    else codes "an integer from -2147483648 to 2147483647 or \"]\""))

-- the words for what a nested input should have at a place, by the lists that are open there
abbrev pub expected_words : List ℕ → ℕ → ℕ → List ℕ
expected_words bytes number place = expected_at (number == 0) (open_lists bytes place)

-- `lists:2:5: the text ends where "[" or "]" is expected`
abbrev pub end_words : List ℕ → List ℕ → ℕ → List ℕ
end_words file bytes number =
    position_words file bytes (length bytes)
    ++ codes "the text ends where " ++ expected_words bytes number (length bytes) ++ codes " is expected"

-- `lists:2:5: "x" stands where "[" or "]" is expected`
abbrev pub stray_words : List ℕ → List ℕ → ℕ → Placed → List ℕ
stray_words file bytes number token =
    position_words file bytes token.start ++ quoted token.bytes ++ codes " stands where "
    ++ expected_words bytes number token.start ++ codes " is expected"

-- the line about a token of a nested input, or about an input that ends too early
abbrev pub nested_words_of : List ℕ → List ℕ → ℕ → Option Placed → List ℕ
nested_words_of file bytes number None = indented (end_words file bytes number)
nested_words_of file bytes number (Some token) = indented (stray_words file bytes number token)

-- the line about the token with this number, counted from 0, of a nested text or of an input of only numbers
abbrev pub bytes_words : Bool → List ℕ → List ℕ → ℕ → List ℕ
bytes_words true file bytes number = nested_words_of file bytes number (slice_get (placed_by nested_class 0 bytes) number)
bytes_words false file bytes number = flat_words_of file bytes (slice_get (placed_by input_class 0 bytes) number)

-- what a nested text or an input of only numbers has too many of
abbrev pub many_words : Bool → List ℕ
many_words true = codes " has more than 4194304 numbers or inner lists"
many_words false = codes " has more than 4194304 numbers"

-- the words about an input that is too long
abbrev pub too_long_words : Bool → List ℕ → List ℕ
too_long_words is_nested file = indented (shown file ++ many_words is_nested)

-- the words about an input that is a vector
abbrev pub vector_words : Bool → List ℕ → List ℕ
vector_words true file = indented (shown file ++ codes " is a vector, and nested reads a text")
vector_words false file = []

-- the line about an input, which has bytes or is a vector: a fault with a place is at the token there, and one without means that it is too
-- long
abbrev pub input_fault_words : Bool → List ℕ → Option (List ℕ) → Option ℕ → List ℕ
input_fault_words is_nested file None place = vector_words is_nested file
input_fault_words is_nested file (Some bytes) None = too_long_words is_nested file
input_fault_words is_nested file (Some bytes) (Some token) = bytes_words is_nested file bytes token
