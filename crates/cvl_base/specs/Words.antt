-- Words and names of a script.
-- Source: this library's profile.
use Rattle.std.specs.Prelude.{ℕ, Bool, false, not, ◌&&◌, ◌||◌, ◌==◌, nat_le, nat_eq, List, [], ◌∷◌, length, codes}
use Rattle.std.specs.Char.{is_ascii_alphabetic, is_ascii_alphanumeric}
use Rattle.std.specs.List.{list_all}
use Rattle.std.specs.Cmp.Lexicographic.{pointwise}
use Rattle.cvl_base.specs.Limits.{most_word_bytes}

-- a letter, a digit or an underscore of ASCII
abbrev pub is_word_byte : ℕ → Bool
is_word_byte b = is_ascii_alphanumeric b || b == 95

-- a letter of ASCII followed by letters, digits and underscores, 1 to 32 bytes in all
abbrev pub is_word : List ℕ → Bool
is_word [] = false
is_word (first ∷ others) =
    is_ascii_alphabetic first && list_all is_word_byte others && nat_le (length (first ∷ others)) most_word_bytes

-- a word with no other meaning in a line
abbrev pub is_name : List ℕ → Bool
is_name bytes =
    is_word bytes
    && not (pointwise nat_eq bytes (codes "write") || pointwise nat_eq bytes (codes "T") || pointwise nat_eq bytes (codes "F"))
