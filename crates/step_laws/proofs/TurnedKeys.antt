-- Keys with their bits inverted have a digit in common if the keys have.
use lib.Signed.{mag}
use Rattle.std.proofs.Common.{◌≡◌, ℕ, zero, suc, ◌-◌, ◌<◌, ℤ, pos, negsuc, FitsSigned, arith, w32}
use Rattle.orders.specs.SortsByKey.{inverted}
use Rattle.stable_sorts.specs.Steps.{digit_of_pass}

-- the digit of the inverted key, of which the last one has 10 bits
abbrev pub turned_digit : ℕ → ℕ → ℕ
turned_digit zero d = 2047 - d
turned_digit (suc zero) d = 2047 - d
turned_digit (suc (suc n)) d = 1023 - d

pub turned-below : (pass d : ℕ) → turned_digit pass d < 2048
turned-below zero d = omega arith
turned-below (suc zero) d = omega arith
turned-below (suc (suc n)) d = omega arith

pub fits_inverted : (key : ℤ) → FitsSigned w32 key → FitsSigned w32 (inverted key)
fits_inverted (pos n) fit = record { sfits = fit.sfits }
fits_inverted (negsuc n) fit = record { sfits = fit.sfits }

in_pass : (pass : ℕ) → pass < 3 → (key : ℤ) → mag key < 2147483648 → digit_of_pass pass (inverted key) ≡ turned_digit pass (digit_of_pass pass key)
in_pass zero below (pos n) small = omega (arith, small)
in_pass zero below (negsuc n) small = omega (arith, small)
in_pass (suc zero) below (pos n) small = omega (arith, small)
in_pass (suc zero) below (negsuc n) small = omega (arith, small)
in_pass (suc (suc zero)) below (pos n) small = omega (arith, small)
in_pass (suc (suc zero)) below (negsuc n) small = omega (arith, small)
in_pass (suc (suc (suc m))) below key small = absurd (omega (arith, below))

pub turned_is : (pass : ℕ) → pass < 3 → (key : ℤ) → FitsSigned w32 key → digit_of_pass pass (inverted key) ≡ turned_digit pass (digit_of_pass pass key)
turned_is pass below key fit = in_pass pass below key fit.sfits
