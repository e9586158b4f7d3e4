-- What `wrapping_div` and `checked_shl` give is the exact result, wrapped.
use Rattle.std.proofs.Common.{◌≡◌, ℕ, zero, suc, ◌/◌, ◌%◌, ◌^◌, ◌<◌, ◌≤◌, ◌∙◌, sym, ap, refl, arith, ℤ, pos, negsuc, ◌*ℤ◌, w32, w64, to_z, of_z, FitsSigned}
use Rattle.std.specs.Prelude.{unsigned_abs, int_div, neg_ℤ}
use Rattle.std.specs.Int.{int_wrap, int_shl, int_wrapping_div}
use Rattle.std.proofs.Math.Nat.{mod-eq_of_lt, div-le_self}
use Rattle.std.proofs.Math.Pow.{pow-lt}
use Rattle.std.proofs.lemmas.Int.{ints, wrapping_mul-bits, int_wrap-mul_right, to_z-of_z}
use Rattle.operators.specs.Integers.{wrap}

-- ---- bits that are read as a number

-- bits, read as a signed number, are their number wrapped
wrap-pos : (n : ℕ) → n < 2 ^ 32 → to_z w32 n ≡ wrap (pos n)
unfolding int_wrap
wrap-pos n h = ap (to_z w32) (sym (mod-eq_of_lt h))

-- a number that need not fit, cut to its bits and read again, is wrapped
wrap-bits : (z : ℤ) → unsigned_abs z < 2 ^ 32 → to_z w32 (of_z w32 z) ≡ wrap z
unfolding int_wrap
wrap-bits (pos n) h = wrap-pos n h
wrap-bits (negsuc n) h = let e : n % 2 ^ 32 ≡ n = mod-eq_of_lt (omega arith) in ap (to_z w32) (omega arith)

-- the low 32 of the bits of a number of 64 bits, read again, are the number wrapped
pub wrap_64 : (z : ℤ) → FitsSigned w64 z → to_z w32 (of_z w64 z % 2 ^ 32) ≡ wrap z
unfolding int_wrap
wrap_64 (pos n) f = refl
wrap_64 (negsuc n) f = ap (to_z w32) (omega (arith, f))

-- ---- the quotient and the shift

abs-neg : (n : ℕ) → unsigned_abs (neg_ℤ (pos n)) ≡ n
abs-neg zero = refl
abs-neg (suc n) = refl

-- a quotient is no further from 0 than the dividend
pub abs-quotient : (a b : ℤ) → unsigned_abs (int_div a b) ≤ unsigned_abs a
abs-quotient (pos a) (pos b) = div-le_self a b
abs-quotient (pos a) (negsuc b) = omega (arith, abs-neg (a / suc b), div-le_self a (suc b))
abs-quotient (negsuc a) (pos b) = omega (arith, abs-neg (suc a / b), div-le_self (suc a) b)
abs-quotient (negsuc a) (negsuc b) = div-le_self (suc a) (suc b)

-- only -2147483648 by -1 wraps
pub wrapping_div_is : (a b : ℤ) → FitsSigned w32 a → FitsSigned w32 b → int_wrapping_div w32 (to_z w32 (of_z w32 a)) (to_z w32 (of_z w32 b)) ≡ wrap (int_div a b)
wrapping_div_is a b f g =
    (λ i. int_wrapping_div w32 (to_z-of_z w32 a f i) (to_z-of_z w32 b g i))
    ∙ wrap-bits (int_div a b) (omega (arith, ints, abs-quotient a b))

-- 2^31 does not fit, so the factor is wrapped on the way
pub shl_is : (a : ℤ) (k : ℕ) → FitsSigned w32 a → k < 32 → int_shl w32 a k ≡ wrap (a *ℤ pos (2 ^ k))
shl_is a k f h =
    let small : 2 ^ k < 2 ^ 32 = pow-lt h in
    wrapping_mul-bits w32 (of_z w32 a) (2 ^ k) (omega (arith, ints)) small
    ∙ (λ i. wrap (to_z-of_z w32 a f i *ℤ wrap-pos (2 ^ k) small i))
    ∙ int_wrap-mul_right w32 a (pos (2 ^ k))
