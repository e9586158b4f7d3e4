-- Why a token may not stand where something else is wanted.
-- Source: this library's script format.
use Rattle.std.specs.Prelude.{ℕ, Bool, false, ◌&&◌, ◌||◌, ◌==◌, nat_eq, List, [], ◌∷◌, codes, length, take, if◌then◌else◌}
use Rattle.std.specs.Char.{is_ascii_alphabetic}
use Rattle.std.specs.Cmp.Lexicographic.{pointwise}
use Rattle.std.specs.List.{list_all, list_any}
use Rattle.cvl_base.specs.Words.{is_word_byte}
use Rattle.explained_calls.specs.PlacedTokens.{Placed}
use Rattle.explained_calls.specs.declared.wanted.Reason.{Reason}
use Rattle.explained_calls.specs.declared.wanted.Reason.TheVariants.{Other, Reserved, TooLong, NoName, Parenthesis, ByteOrderMark}
use Rattle.explained_calls.specs.declared.wanted.Wanted.{Wanted}
use Rattle.explained_calls.specs.declared.wanted.Wanted.TheVariants.{Name, EqualsOrName, OtherName, Equals, Call, Argument}

-- whether a token is a word with another meaning
abbrev pub is_reserved : List ℕ → Bool
is_reserved token = pointwise nat_eq token (codes "write") || pointwise nat_eq token (codes "T") || pointwise nat_eq token (codes "F")

-- whether a token is a letter, followed by letters, digits and underscores, however many
abbrev pub is_spelled_as_name : List ℕ → Bool
is_spelled_as_name [] = false
is_spelled_as_name (first ∷ others) = is_ascii_alphabetic first && list_all is_word_byte others

-- `(` (40), `)` (41) or `,` (44)
abbrev pub is_punctuation : ℕ → Bool
is_punctuation b = b == 40 || b == 41 || b == 44

-- whether a token begins the line, and with the bytes of a byte order mark
abbrev pub is_marked : Placed → Bool
is_marked token = token.start == 0 && pointwise nat_eq (take 3 token.bytes) (239 ∷ 187 ∷ 191 ∷ [])

-- why a token is no call and no argument
abbrev pub call_reason : List ℕ → Reason
call_reason token = if list_any is_punctuation token then Parenthesis else Other

-- why a token is no name, as far as words tell; else this reason
abbrev pub word_reason : Reason → List ℕ → Reason
word_reason otherwise token =
    if is_reserved token then Reserved
    else (if is_spelled_as_name token then TooLong (length token) else otherwise)

-- why a token that is no word is no name
abbrev pub name_reason : Placed → Reason
name_reason token =
    if is_marked token then ByteOrderMark
    else (if list_any is_punctuation token.bytes then Parenthesis else NoName)

-- why a token is not what is wanted
abbrev pub reason_of : Wanted → Placed → Reason
reason_of Name token = word_reason (name_reason token) token.bytes
reason_of EqualsOrName token = word_reason Other token.bytes
reason_of OtherName token = Other
reason_of Equals token = Other
reason_of Call token = call_reason token.bytes
reason_of Argument token = word_reason (call_reason token.bytes) token.bytes
