-- The numbers that tokens write.
-- Source: this library's script and input formats.
use Rattle.std.specs.Prelude.{◌≡◌, ℕ, ◌≤◌, ◌<◌, ◌^◌, length, take, IsTrue, Bool, true, false, ◌&&◌, not, ◌==◌}
use Rattle.std.specs.Prelude.{nat_le, nat_lt, List, [], ◌∷◌, Option, Some, None, ℤ, pos, neg_ℤ, if◌then◌else◌}
use Rattle.std.specs.Option.{option_and_then}
use Rattle.std.specs.List.{list_all, take_while, prefix_len}
use Rattle.std.specs.Char.{is_ascii_digit}
use Rattle.std.specs.Str.Parse.{digits_value}

-- whether there are no bytes
abbrev pub is_empty : List ℕ → Bool
is_empty [] = true
is_empty (b ∷ bs) = false

-- the number that the digits write, in decimal; none if there is no digit or another byte
abbrev pub magnitude_of : List ℕ → Option ℕ
magnitude_of digits =
    if not (is_empty digits) && list_all is_ascii_digit digits then Some (digits_value 10 digits) else None

-- the integer of 32 bits with this magnitude, if it fits
abbrev pub positive_of : ℕ → Option ℤ
positive_of n = if nat_lt n (2 ^ 31) then Some (pos n) else None

-- minus a magnitude, if 32 bits hold it
abbrev pub negative_of : ℕ → Option ℤ
negative_of n = if nat_le n (2 ^ 31) then Some (neg_ℤ (pos n)) else None

-- the number of a token with or without a minus sign
abbrev pub with_sign : Bool → List ℕ → List ℕ → Option ℤ
with_sign true token digits = option_and_then negative_of (magnitude_of digits)
with_sign false token digits = option_and_then positive_of (magnitude_of token)

-- an optional `-` (45) and at least one digit, inside 32 bits
abbrev pub written_number : List ℕ → Option ℤ
written_number [] = None
written_number (b ∷ bs) = with_sign (b == 45) (b ∷ bs) bs

-- the `-` (45), if there is one, and all the digits after it, with which the bytes begin
abbrev pub signed_digits : List ℕ → List ℕ
signed_digits [] = []
signed_digits (b ∷ bs) = if b == 45 then b ∷ take_while is_ascii_digit bs else take_while is_ascii_digit (b ∷ bs)

-- so many digits with which the bytes begin, and their number, below 2^63; all of them, if that number is at most 2^31
pub record AreLeading (bytes : List ℕ) (count number : ℕ) : Type 0 where
  pub within : count ≤ length bytes
  pub digits : IsTrue (list_all is_ascii_digit (take count bytes))
  pub value : number ≡ digits_value 10 (take count bytes)
  pub whole : number ≤ 2 ^ 31 → count ≡ prefix_len is_ascii_digit bytes
  pub small : number < 2 ^ 63
