-- Sums in 64 bits, which are exact as long as a sum that is added to has 63 bits, and no more elements are added than a vector has.
-- Source: two's complement arithmetic, at the width of a sum.
use Rattle.std.specs.Prelude.{◌^◌, Bool, ℤ, pos, negsuc, ◌+ℤ◌, nat_lt}
use Rattle.std.specs.Int.{w64, int_wrap}

-- the numbers from -2^63 to 2^63 - 1, which 64 bits hold
abbrev pub is_long : ℤ → Bool
is_long (pos n) = nat_lt n (2 ^ 63)
is_long (negsuc n) = nat_lt n (2 ^ 63)

-- the numbers from -2^62 to 2^62 - 1: no 2147483647 integers of 32 bits that are added to one of them leave 64 bits
abbrev pub may_grow : ℤ → Bool
may_grow (pos n) = nat_lt n (2 ^ 62)
may_grow (negsuc n) = nat_lt n (2 ^ 62)

-- the sum, wrapped to 64 bits
abbrev pub long_sum_of : ℤ → ℤ → ℤ
long_sum_of a b = int_wrap w64 (a +ℤ b)
