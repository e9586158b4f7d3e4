-- Where a line breaks the form of a line: at the first token that may not stand where it stands, or after the last token if the line ends
-- too early; and what was expected there. The grammar is that of lines.
-- Source: this library's script format.
use Rattle.std.specs.Prelude.{ℕ, Bool, true, false, not, ◌&&◌, ◌||◌, nat_eq, List, [], ◌∷◌, codes, Option, Some, None, if◌then◌else◌}
use Rattle.std.specs.Cmp.Lexicographic.{pointwise}
use Rattle.cvl_base.specs.Words.{is_name, is_word}
use Rattle.line_reader.specs.Lines.{is_arg}
use Rattle.explained_calls.specs.PlacedTokens.{Placed, behind}
use Rattle.explained_calls.specs.Reasons.{reason_of}
use Rattle.explained_calls.specs.declared.wanted.Hint.{Hint}
use Rattle.explained_calls.specs.declared.wanted.Reason.TheVariants.{Other}
use Rattle.explained_calls.specs.declared.wanted.Wanted.{Wanted}
use Rattle.explained_calls.specs.declared.wanted.Wanted.TheVariants.{Name, EqualsOrName, OtherName, Equals, Call, Argument}

-- whether a token is `=`
abbrev pub is_equals : List ℕ → Bool
is_equals token = pointwise nat_eq token (codes "=")

-- may the token stand where this is wanted?
abbrev pub is_wanted : Wanted → List ℕ → Bool
is_wanted Name token = is_name token
is_wanted EqualsOrName token = is_equals token || is_name token
is_wanted OtherName token = is_name token
is_wanted Equals token = is_equals token
is_wanted Call token = is_word token
is_wanted Argument token = is_arg token

-- a token that is not what is wanted there
abbrev pub hint_at : Placed → Wanted → Hint
hint_at token wanted = record { place = token.start; ends = false; wanted = wanted; reason = reason_of wanted token }

-- a hint behind the last token, where the line should go on with this
abbrev pub hint_at_end : ℕ → Wanted → Hint
hint_at_end place wanted = record { place = place; ends = true; wanted = wanted; reason = Other }

-- the next token, after this place, must be what is wanted; then the rest is checked
abbrev pub wanting : Wanted → ℕ → List Placed → (Placed → List Placed → Option Hint) → Option Hint
wanting wanted place [] rest = Some (hint_at_end place wanted)
wanting wanted place (token ∷ tokens) rest =
    if is_wanted wanted token.bytes then rest token tokens else Some (hint_at token wanted)

-- each token must be what is wanted
abbrev pub wanting_each : Wanted → List Placed → Option Hint
wanting_each wanted [] = None
wanting_each wanted (token ∷ tokens) =
    if is_wanted wanted token.bytes then wanting_each wanted tokens else Some (hint_at token wanted)

-- `CALL ARG ..`
abbrev pub hint_after_equals : ℕ → List Placed → Option Hint
hint_after_equals place tokens = wanting Call place tokens (λ call arguments. wanting_each Argument arguments)

-- `= CALL ARG ..`
abbrev pub hint_after_names : ℕ → List Placed → Option Hint
hint_after_names place tokens = wanting Equals place tokens (λ equals others. hint_after_equals (behind equals) others)

-- what follows the second token: `CALL ARG ..` after `=`, and `= CALL ARG ..` after a name, which differs from the first
abbrev pub hint_after_second : List ℕ → Placed → List Placed → Option Hint
hint_after_second first second tokens =
    if is_equals second.bytes then hint_after_equals (behind second) tokens
    else (if pointwise nat_eq first second.bytes then Some (hint_at second OtherName)
    else hint_after_names (behind second) tokens)

-- `= CALL ARG ..` or `NAME = CALL ARG ..`
abbrev pub hint_after_first : List ℕ → ℕ → List Placed → Option Hint
hint_after_first first place tokens = wanting EqualsOrName place tokens (hint_after_second first)

-- whether the first token is `=`
abbrev pub begins_with_equals : List Placed → Bool
begins_with_equals [] = false
begins_with_equals (token ∷ tokens) = is_equals token.bytes

-- does the line begin as `write NAME ..` does?
abbrev pub is_write_line : List ℕ → List Placed → Bool
is_write_line first others = pointwise nat_eq first (codes "write") && not (begins_with_equals others)

-- the first token that may not stand where it stands, or the end of a line that ends too early; nothing for a line in form
abbrev pub hint_of : List Placed → Option Hint
hint_of [] = None
hint_of (first ∷ others) =
    if is_write_line first.bytes others then wanting_each Name others
    else (if is_name first.bytes then hint_after_first first.bytes (behind first) others else Some (hint_at first Name))
