-- An integer's text, read again.
use Rattle.call_reader.proofs.Cited.{rules, ◌≡◌, ℕ, suc, ◌^◌, ◌<◌, Bool, true, false, List, [], ◌∷◌, length, Some, ℤ, pos, negsuc, refl, ◌∙◌, arith, FitsSigned, w32, ◌==◌, is_ascii_digit}
use Rattle.call_reader.proofs.Cited.{digit_value, decimal, signed_decimal, list_all, nat_tests, with_sign, written_number, fit, sign_read}
use Rattle.std.specs.Str.Parse.{AllDigits}
use Rattle.std.proofs.lemmas.Fmt.{decimal_is_IsNumeral}

digit_is : (d : ℕ) → digit_value d < 10 → is_ascii_digit d ≡ true
digit_is d h = grind (arith, nat_tests)

digits_are : (ds : List ℕ) → AllDigits 10 ds → list_all is_ascii_digit ds ≡ true
digits_are [] all = refl
digits_are (d ∷ ds) (first, others) = rw (digit_is d first, digits_are ds others) refl

no_sign : (d : ℕ) → digit_value d < 10 → (d == 45) ≡ false
no_sign d h = grind (arith, nat_tests)

unsigned : (ds : List ℕ) → 0 < length ds → AllDigits 10 ds → written_number ds ≡ with_sign false ds ds
unsigned [] some all = absurd (omega arith)
unsigned (d ∷ ds) some (first, others) = rw (no_sign d first) refl

-- the decimal of a magnitude, after a sign or without one
magnitude_read : (sign : Bool) (n : ℕ) → n < 2 ^ 64 → with_sign sign (decimal n) (decimal n) ≡ fit sign n
magnitude_read sign n small = search (rules, decimal_is_IsNumeral, sign_read, digits_are)

pub read_back : (z : ℤ) → FitsSigned w32 z → written_number (signed_decimal z) ≡ Some z
read_back (pos n) fits =
    let small : n < 2 ^ 31 = omega (arith, fits) in
    let is = decimal_is_IsNumeral n (omega arith) in
    unsigned (decimal n) is.0.0 is.0.1 ∙ magnitude_read false n (omega arith) ∙ grind (arith, nat_tests)
read_back (negsuc n) fits = magnitude_read true (suc n) (omega (arith, fits)) ∙ grind (arith, nat_tests)
