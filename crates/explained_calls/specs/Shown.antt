-- How an explanation shows bytes that a user wrote: lines of a script, tokens, and names of files. Characters of UTF-8 stand as they are;
-- a byte below 32, the byte 127, and one that belongs to no character stand as `\xNN`, with two digits of base 16.
-- Source: The Unicode Standard, UTF-8; the escapes of literals in C.
use Rattle.std.specs.Prelude.{ℕ, zero, suc, ◌-◌, ◌/◌, ◌%◌, ◌||◌, ◌==◌, Bool, false, nat_le}
use Rattle.std.specs.Prelude.{List, [], ◌∷◌, ◌++◌, codes, length, map, take, if◌then◌else◌}
use Rattle.std.specs.Char.{is_ascii_graphic}
use Rattle.std.specs.Fmt.{digit_glyph}
use Rattle.std.specs.List.{concat}
use Rattle.std.specs.Str.{is_utf8}

-- how many bytes the character has with which bytes begin: the shortest beginning, of at most 4 bytes, that is UTF-8; 1 if there is none
abbrev pub character_length : List ℕ → ℕ
character_length bytes =
    if is_utf8 (take 1 bytes) then 1
    else (if is_utf8 (take 2 bytes) then 2
    else (if is_utf8 (take 3 bytes) then 3
    else (if is_utf8 (take 4 bytes) then 4 else 1)))

-- the characters of bytes from a place on, and each byte that belongs to none
abbrev pub characters_from : ℕ → List ℕ → List (List ℕ)
characters_from place [] = []
characters_from (suc place) (b ∷ bs) = characters_from place bs
characters_from zero (b ∷ bs) =
    let n = character_length (b ∷ bs) in take n (b ∷ bs) ∷ characters_from (n - 1) bs

-- the characters of bytes, and each byte that belongs to none
abbrev pub characters : List ℕ → List (List ℕ)
characters bytes = characters_from 0 bytes

-- whether a byte alone is a character that is seen, or a space
abbrev pub is_printed : ℕ → Bool
is_printed b = is_ascii_graphic b || b == 32

-- `\x1b`
abbrev pub escaped : ℕ → List ℕ
escaped b = codes "\\x" ++ digit_glyph false (b / 16) ∷ digit_glyph false (b % 16) ∷ []

-- a byte alone: a control byte, and one that belongs to no character, by its number
abbrev pub shown_byte : ℕ → List ℕ
shown_byte b = if is_printed b then b ∷ [] else escaped b

-- a character as it stands, unless it is a single byte that is not printed
abbrev pub shown_character : List ℕ → List ℕ
shown_character [] = []
shown_character (b ∷ []) = shown_byte b
shown_character (b ∷ c ∷ bs) = b ∷ c ∷ bs

-- bytes as an explanation shows them
abbrev pub shown : List ℕ → List ℕ
shown bytes = concat (map shown_character (characters bytes))

-- the first of some characters, as many as have at most so many bytes
abbrev pub fitting : ℕ → List (List ℕ) → List (List ℕ)
fitting most [] = []
fitting most (character ∷ others) =
    if nat_le (length character) most then character ∷ fitting (most - length character) others else []

-- bytes as an explanation shows them; of more than so many bytes the first whole characters that have no more, and `..`
abbrev pub shown_front : ℕ → List ℕ → List ℕ
shown_front most bytes =
    if nat_le (length bytes) most then shown bytes
    else (concat (map shown_character (fitting most (characters bytes))) ++ codes "..")
