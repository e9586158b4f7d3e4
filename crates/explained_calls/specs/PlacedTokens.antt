-- How bytes are cut into tokens, each with its place.
-- Source: this library's script and input formats.
use Rattle.std.specs.Prelude.{ℕ, ◌+◌, Bool, true, false, List, [], ◌∷◌, length}
use Rattle.line_reader.specs.declared.token.ByteClass.{ByteClass}
use Rattle.line_reader.specs.declared.token.ByteClass.TheVariants.{Blank, Alone, InToken}
use Rattle.line_reader.specs.Lines.{before_comment, line_class}
use Rattle.line_reader.specs.Tokens.{begins_in_token}

-- the place of the token's first byte, counted from 0, and its bytes
pub record Placed : Type 0 where
  pub start : ℕ
  pub bytes : List ℕ

-- a token with the place of its first byte in the line
abbrev pub placed : ℕ → List ℕ → Placed
placed start bytes = record { start = start; bytes = bytes }

-- the place right after a token
abbrev pub behind : Placed → ℕ
behind token = token.start + length token.bytes

-- the first token with the byte before it, which stands at this place
abbrev pub onto_first_placed : ℕ → ℕ → List Placed → List Placed
onto_first_placed place b [] = placed place (b ∷ []) ∷ []
onto_first_placed place b (token ∷ tokens) = placed place (b ∷ token.bytes) ∷ tokens

-- the tokens with a byte of this class before them, which stands at this place
abbrev pub with_byte_at : ByteClass → Bool → ℕ → ℕ → List Placed → List Placed
with_byte_at Blank runs_on place b tokens = tokens
with_byte_at Alone runs_on place b tokens = placed place (b ∷ []) ∷ tokens
with_byte_at InToken true place b tokens = onto_first_placed place b tokens
with_byte_at InToken false place b tokens = placed place (b ∷ []) ∷ tokens

-- the tokens of bytes that begin at this place
abbrev pub placed_by : (ℕ → ByteClass) → ℕ → List ℕ → List Placed
placed_by class_of place [] = []
placed_by class_of place (b ∷ bs) =
    with_byte_at (class_of b) (begins_in_token class_of bs) place b (placed_by class_of (place + 1) bs)

-- the tokens of a line, up to its comment
abbrev pub placed_tokens : List ℕ → List Placed
placed_tokens line = placed_by line_class 0 (before_comment line)
