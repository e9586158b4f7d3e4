-- How bytes are cut into tokens, by the class of each byte: a blank byte stands between tokens, a lone byte is a token
-- of its own, and a longest run of the other bytes is a token.
-- Source: this library's script and input formats.
use Rattle.std.specs.Prelude.{◌≡◌, ◌<◌, ℕ, Bool, true, false, List, [], ◌∷◌, ◌++◌, length, IsTrue}
use Rattle.std.specs.List.{list_all}
use Rattle.line_reader.specs.declared.token.ByteClass.{ByteClass}
use Rattle.line_reader.specs.declared.token.ByteClass.TheVariants.{Blank, Alone, InToken}

-- the first token with the byte before it
abbrev pub onto_first : ℕ → List (List ℕ) → List (List ℕ)
onto_first b [] = (b ∷ []) ∷ []
onto_first b (token ∷ tokens) = (b ∷ token) ∷ tokens

-- the tokens with a byte of this class before them; the run of the first token begins right after it or not
abbrev pub with_byte : ByteClass → Bool → ℕ → List (List ℕ) → List (List ℕ)
with_byte Blank runs_on b tokens = tokens
with_byte Alone runs_on b tokens = (b ∷ []) ∷ tokens
with_byte InToken true b tokens = onto_first b tokens
with_byte InToken false b tokens = (b ∷ []) ∷ tokens

-- whether a byte of this class belongs to a longer token
abbrev pub is_in_token : ByteClass → Bool
is_in_token Blank = false
is_in_token Alone = false
is_in_token InToken = true

-- whether a byte of this class stands between tokens
abbrev pub is_blank : ByteClass → Bool
is_blank Blank = true
is_blank Alone = false
is_blank InToken = false

-- whether the bytes begin with one that is part of a run
abbrev pub begins_in_token : (ℕ → ByteClass) → List ℕ → Bool
begins_in_token class_of [] = false
begins_in_token class_of (b ∷ bs) = is_in_token (class_of b)

-- whether the bytes begin with a blank
abbrev pub begins_with_blank : (ℕ → ByteClass) → List ℕ → Bool
begins_with_blank class_of [] = false
begins_with_blank class_of (b ∷ bs) = is_blank (class_of b)

-- the tokens of bytes, by the class of each byte
abbrev pub tokens_by : (ℕ → ByteClass) → List ℕ → List (List ℕ)
tokens_by class_of [] = []
tokens_by class_of (b ∷ bs) = with_byte (class_of b) (begins_in_token class_of bs) b (tokens_by class_of bs)

-- the bytes' first token, and the bytes after it
abbrev pub IsFirstToken : (ℕ → ByteClass) → List ℕ → List ℕ → List ℕ → Type 0
IsFirstToken class_of bytes token others = tokens_by class_of bytes ≡ token ∷ tokens_by class_of others

-- what it means to cut bytes into tokens: a run is one token, and at a blank or a lone byte the bytes are cut in two,
-- with the lone byte as a token between them
pub record AreTokens (class_of : ℕ → ByteClass) (tokens_of : List ℕ → List (List ℕ)) : Type 0 where
  pub nothing : tokens_of [] ≡ []
  pub run : (bs : List ℕ) → 0 < length bs → IsTrue (list_all (λ b. is_in_token (class_of b)) bs)
      → tokens_of bs ≡ bs ∷ []
  pub blank : (before after : List ℕ) (b : ℕ) → class_of b ≡ Blank
      → tokens_of (before ++ b ∷ after) ≡ tokens_of before ++ tokens_of after
  pub alone : (before after : List ℕ) (b : ℕ) → class_of b ≡ Alone
      → tokens_of (before ++ b ∷ after) ≡ tokens_of before ++ (b ∷ []) ∷ tokens_of after
