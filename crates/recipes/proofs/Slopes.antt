-- The slopes that the script of line of sight computes: none of its numbers wraps, and each slope is a floor.
use Rattle.std.proofs.Common.{◌≡◌, ◌≢◌, sym, ap, ◌∙◌, ℕ, suc, ◌+◌, ◌-◌, ◌*◌, ◌<◌, ◌≤◌, Bool, true, false, ℤ, pos, negsuc, ◌+ℤ◌, ◌-ℤ◌, ◌*ℤ◌, Some, None, FitsSigned, w32, arith, subst}
use Rattle.std.specs.Prelude.{int_div, int_rem, unsigned_abs, ◌<ℤ◌, if◌then◌else◌}
use Rattle.std.specs.Ordering.{int_eq}
use Rattle.std.proofs.lemmas.Bool.{false_from_ne_true, le-ltb}
use Rattle.std.proofs.lemmas.Bool.Decides.{Decides-int_eq}
use Rattle.std.proofs.lemmas.Int.{ints, clamps, int_wrap_fits, fits_signed_from_abs, quot-rem, rem_below}
use borrow.Author.Differences.{up, down}
use Rattle.operators.proofs.Wrapping.{abs-quotient}
use Rattle.cvl_base.specs.Conversions.{integer_of}
use Rattle.cvl_base.specs.Integers.{IsFloor, difference_of, product_of, quotient_of, remainder_of, greater_of, is_less, wrap}

-- ---- the numbers of the script, at place k, from the altitude there and that of the observer

-- the place, or 1 where it is 0
abbrev pub place : ℕ → ℤ
place k = greater_of (wrap (pos 0 +ℤ pos k *ℤ pos 1)) (pos 1)

-- 65536 times the rise
abbrev pub scaled_rise : ℤ → ℤ → ℤ
scaled_rise h base = product_of (difference_of h base) (pos 65536)

abbrev pub quotient : ℤ → ℤ → ℕ → ℤ
quotient h base k = wrap (int_div (scaled_rise h base) (place k))

abbrev pub remainder : ℤ → ℤ → ℕ → ℤ
remainder h base k = int_rem (scaled_rise h base) (place k)

abbrev pub slope : ℤ → ℤ → ℕ → ℤ
slope h base k = difference_of (quotient h base k) (integer_of (is_less (remainder h base k) (pos 0)))

-- ---- no divisor is 0

place_some : (k : ℕ) → place k ≢ pos 0
place_some k same = absurd (omega (arith, ints, clamps, same))

divisor_some : (k : ℕ) → int_eq (place k) (pos 0) ≡ false
divisor_some k = false_from_ne_true (int_eq (place k) (pos 0)) (λ same. place_some k ((Decides-int_eq (place k) (pos 0)).0 same))

pub quotient_is : (p : ℤ) (k : ℕ) → quotient_of p (place k) ≡ Some (wrap (int_div p (place k)))
quotient_is p k = ap (λ b. if b then None else Some (wrap (int_div p (place k)))) (divisor_some k)

pub remainder_is : (p : ℤ) (k : ℕ) → remainder_of p (place k) ≡ Some (int_rem p (place k))
remainder_is p k = ap (λ b. if b then None else Some (int_rem p (place k))) (divisor_some k)

-- ---- nothing wraps

place_is : (k : ℕ) → 1 ≤ k → k < 256 → place k ≡ pos k
place_is k some few =
    let whole : pos 0 +ℤ pos k *ℤ pos 1 ≡ pos k = omega (arith, ints) in
    let fits : FitsSigned w32 (pos k) = fits_signed_from_abs w32 (pos k) (omega arith) in
    ap (λ z. greater_of (wrap z) (pos 1)) whole ∙ ap (λ z. greater_of z (pos 1)) (int_wrap_fits w32 (pos k) fits) ∙ omega (arith, ints, clamps)

one_less_times : (q : ℤ) (n : ℕ) → (q -ℤ pos 1) *ℤ pos n +ℤ pos n ≡ q *ℤ pos n
one_less_times q n =
    let parts : up (q -ℤ pos 1) + down q + 1 ≡ down (q -ℤ pos 1) + up q = omega (arith, ints) in
    let times = ap (λ x. x * n) parts in
    omega (arith, ints)

-- a truncated quotient, less 1 where the remainder is negative, is the floor
floor_by_remainder : (p q r : ℤ) (n : ℕ) → q *ℤ pos n +ℤ r ≡ p → unsigned_abs r < n → IsFloor p n (q -ℤ integer_of (is_less r (pos 0)))
floor_by_remainder p q (pos m) n again small =
    rw (le-ltb m 0 (omega arith)) (record { left = m; again = let same : q -ℤ pos 0 ≡ q = omega (arith, ints) in rw same (sym again); smaller = small })
floor_by_remainder p q (negsuc m) n again small =
    record { left = n - suc m; again = omega (arith, ints, one_less_times q n); smaller = omega arith }

one_less_fits : (q : ℤ) (negative : Bool) → unsigned_abs q ≤ 2147418112 → unsigned_abs (q -ℤ integer_of negative) ≤ 2147418113
one_less_fits q true low = omega (arith, ints)
one_less_fits q false low = omega (arith, ints)

-- the slope of a rise of at most 32767, 1 to 255 places away, and that it is above the least number of 32 bits
pub slope_is_floor : (h base : ℤ) (k : ℕ) → unsigned_abs (h -ℤ base) ≤ 32767 → 1 ≤ k → k < 256 → IsFloor ((h -ℤ base) *ℤ pos 65536) k (slope h base k) × (negsuc 2147483647 <ℤ slope h base k)
slope_is_floor h base k low some few =
    let rise = h -ℤ base in
    let scaled = rise *ℤ pos 65536 in
    let rise_fits : FitsSigned w32 rise = fits_signed_from_abs w32 rise (omega arith) in
    let scaled_low : unsigned_abs scaled ≤ 2147418112 = omega (arith, ints) in
    let scaled_fits : FitsSigned w32 scaled = fits_signed_from_abs w32 scaled (omega arith) in
    let scaled_is : scaled_rise h base ≡ scaled = ap (λ z. wrap (z *ℤ pos 65536)) (int_wrap_fits w32 rise rise_fits) ∙ int_wrap_fits w32 scaled scaled_fits in
    let q = int_div scaled (pos k) in
    let r = int_rem scaled (pos k) in
    let c = integer_of (is_less r (pos 0)) in
    let q_low : unsigned_abs q ≤ 2147418112 = omega (arith, abs-quotient scaled (pos k)) in
    let q_fits : FitsSigned w32 q = fits_signed_from_abs w32 q (omega arith) in
    let floor = floor_by_remainder scaled q r k (quot-rem scaled (pos k)) (rem_below scaled (pos k) (omega arith)) in
    let low_enough : unsigned_abs (q -ℤ c) ≤ 2147418113 = one_less_fits q (is_less r (pos 0)) q_low in
    let slope_fits : FitsSigned w32 (q -ℤ c) = fits_signed_from_abs w32 (q -ℤ c) (omega arith) in
    let above : negsuc 2147483647 <ℤ (q -ℤ c) = omega (arith, ints) in
    let place_here = place_is k some few in
    let is : slope h base k ≡ q -ℤ c =
    (λ i. difference_of (wrap (int_div (scaled_is i) (place_here i))) (integer_of (is_less (int_rem (scaled_is i) (place_here i)) (pos 0))))
    ∙ ap (λ z. difference_of z c) (int_wrap_fits w32 q q_fits)
    ∙ int_wrap_fits w32 (q -ℤ c) slope_fits in
    (subst (λ z. IsFloor scaled k z) (sym is) floor, subst (λ z. negsuc 2147483647 <ℤ z) (sym is) above)
