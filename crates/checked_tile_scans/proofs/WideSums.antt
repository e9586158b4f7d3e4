-- Sums of two numbers of 54 bits, as a program makes them in 64 bits.
-- Source: arithmetic.
use Rattle.checked_tile_scans.proofs.Cited.{◌≡◌, ◌+ℤ◌, ℤ, to_z, of_z, w64, FitsSigned, arith, ints, to_z-of_z, InWords}

-- numbers of 54 bits, and their sum, fit 64 bits
pub fits_wide : (z : ℤ) → InWords z → FitsSigned w64 z
fits_wide z r = omega (arith, ints, r.low, r.high)

pub sum_fits : (a b : ℤ) → InWords a → InWords b → FitsSigned w64 (a +ℤ b)
sum_fits a b p q = omega (arith, ints, p.low, p.high, q.low, q.high)

-- as a program adds them in 64 bits
module _ (a b : ℤ) (p : InWords a) (q : InWords b) where
  pub wide_fits : FitsSigned w64 (to_z w64 (of_z w64 a) +ℤ to_z w64 (of_z w64 b))
  wide_fits = rw (to_z-of_z w64 a (fits_wide a p), to_z-of_z w64 b (fits_wide b q)) (sum_fits a b p q)

  pub wide_sum : to_z w64 (of_z w64 (to_z w64 (of_z w64 a) +ℤ to_z w64 (of_z w64 b))) ≡ a +ℤ b
  wide_sum = rw (to_z-of_z w64 a (fits_wide a p), to_z-of_z w64 b (fits_wide b q)) (to_z-of_z w64 (a +ℤ b) (sum_fits a b p q))
