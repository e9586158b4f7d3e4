-- The operators on 32-bit integers in two's complement, as functions on whole numbers.
-- Source: two's complement arithmetic; the names and the faults are those of CVL's elementwise calls in this library's profile.
use Rattle.std.specs.Prelude.{◌≡◌, ℕ, ◌<◌, ◌⊎◌, unsigned_abs, ◌^◌, ◌/◌, Bool, not, Option, Some, None, ℤ, pos, negsuc, ◌+ℤ◌, ◌-ℤ◌, ◌*ℤ◌}
use Rattle.std.specs.Prelude.{if◌then◌else◌, nat_lt, int_lt, FitsSigned, int_div, int_rem}
use Rattle.std.specs.Int.{w32, is_negative, int_wrap, int_min, int_max, int_bit_and, int_bit_or, int_bit_xor, int_bit_not}
use Rattle.std.specs.Ordering.{int_eq}

-- the number from -2147483648 to 2147483647 that is congruent to x modulo 2^32
abbrev pub wrap : ℤ → ℤ
wrap x = int_wrap w32 x

-- what `wrap` means: the result fits 32 bits, and differs from x by a multiple of 2^32
pub record IsWrapped (x wrapped : ℤ) : Type 0 where
  pub fits : FitsSigned w32 wrapped
  pub congruent : (turns : ℤ) × (x ≡ wrapped +ℤ turns *ℤ pos (2 ^ 32))

-- the sum, wrapped
abbrev pub sum_of : ℤ → ℤ → ℤ
sum_of a b = wrap (a +ℤ b)

-- the difference, wrapped
abbrev pub difference_of : ℤ → ℤ → ℤ
difference_of a b = wrap (a -ℤ b)

-- the product, wrapped
abbrev pub product_of : ℤ → ℤ → ℤ
product_of a b = wrap (a *ℤ b)

-- the quotient, truncated toward zero; none if the divisor is 0
abbrev pub quotient_of : ℤ → ℤ → Option ℤ
quotient_of a b = if int_eq b (pos 0) then None else Some (wrap (int_div a b))

-- the remainder of that quotient, with the sign of the dividend
abbrev pub remainder_of : ℤ → ℤ → Option ℤ
remainder_of a b = if int_eq b (pos 0) then None else Some (int_rem a b)

-- a divided by b, truncated toward zero: q is the quotient, before any wrapping, and r is what it leaves
pub record IsDivided (a b q r : ℤ) : Type 0 where
  pub again : a ≡ q *ℤ b +ℤ r
  pub smaller : unsigned_abs r < unsigned_abs b
  pub sign : (r ≡ pos 0) ⊎ (is_negative r ≡ is_negative a)

-- the lesser of two, as signed numbers
abbrev pub lesser_of : ℤ → ℤ → ℤ
lesser_of a b = int_min a b

-- the greater of two, as signed numbers
abbrev pub greater_of : ℤ → ℤ → ℤ
greater_of a b = int_max a b

-- a * 2^s without its high bits; none if s is not in 0..31
abbrev pub left_shift_of : ℤ → ℤ → Option ℤ
left_shift_of a (pos s) = if nat_lt s 32 then Some (wrap (a *ℤ pos (2 ^ s))) else None
left_shift_of a (negsuc s) = None

-- the greatest number that is at most a / n
abbrev pub floor_of : ℤ → ℕ → ℤ
floor_of (pos a) n = pos (a / n)
floor_of (negsuc a) n = negsuc (a / n)

-- q is the floor of a / n: q times n is at most a, and less than n away from it
pub record IsFloor (a : ℤ) (n : ℕ) (q : ℤ) : Type 0 where
  pub left : ℕ
  pub again : a ≡ q *ℤ pos n +ℤ pos left
  pub smaller : left < n

-- the floor of a / 2^s; none if s is not in 0..31
abbrev pub right_shift_of : ℤ → ℤ → Option ℤ
right_shift_of a (pos s) = if nat_lt s 32 then Some (floor_of a (2 ^ s)) else None
right_shift_of a (negsuc s) = None

-- bit by bit on the 32 bits
abbrev pub and_of : ℤ → ℤ → ℤ
and_of a b = int_bit_and w32 a b

-- or, bit by bit
abbrev pub ior_of : ℤ → ℤ → ℤ
ior_of a b = int_bit_or w32 a b

-- exclusive or, bit by bit
abbrev pub xor_of : ℤ → ℤ → ℤ
xor_of a b = int_bit_xor w32 a b

-- each bit inverted
abbrev pub not_of : ℤ → ℤ
not_of a = int_bit_not w32 a

-- the comparisons, on signed numbers
abbrev pub is_greater : ℤ → ℤ → Bool
is_greater a b = int_lt b a

-- whether a is less than b, as signed numbers
abbrev pub is_less : ℤ → ℤ → Bool
is_less a b = int_lt a b

-- whether a is at least b
abbrev pub is_at_least : ℤ → ℤ → Bool
is_at_least a b = not (int_lt a b)

-- whether a is at most b
abbrev pub is_at_most : ℤ → ℤ → Bool
is_at_most a b = not (int_lt b a)

-- whether a and b are equal
abbrev pub is_equal : ℤ → ℤ → Bool
is_equal a b = int_eq a b

-- whether a and b differ
abbrev pub is_unequal : ℤ → ℤ → Bool
is_unequal a b = not (int_eq a b)
