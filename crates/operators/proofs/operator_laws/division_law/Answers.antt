use Rattle.std.proofs.Common.{◌≡◌, ℕ, zero, suc, ◌<◌, ◌%◌, true, false, ℤ, pos, negsuc, refl, sym, ap, ◌∙◌, arith, Some, None, if◌then◌else◌, inl, inr}
use Rattle.std.specs.Prelude.{◌≢◌, ◌⊎◌, unsigned_abs, int_div, int_rem, neg_ℤ}
use Rattle.std.specs.Int.{is_negative}
use Rattle.std.specs.Ordering.{int_eq}
use Rattle.std.proofs.lemmas.Bool.{false_from_ne_true, le-ltb}
use Rattle.std.proofs.lemmas.Bool.Decides.{Decides-int_eq}
use Rattle.std.proofs.lemmas.Int.{quot-rem, rem_below}
use Rattle.operators.specs.Integers.{wrap}
use Rattle.operators.proofs.operator_laws.division_law.Goals as goal

not-zero : (b : ℤ) → b ≢ pos 0 → int_eq b (pos 0) ≡ false
not-zero b h = false_from_ne_true (int_eq b (pos 0)) (λ same. h ((Decides-int_eq b (pos 0)).0 same))

some-size : (b : ℤ) → b ≢ pos 0 → 0 < unsigned_abs b
some-size (pos zero) h = absurd (h refl)
some-size (pos (suc n)) h = omega arith
some-size (negsuc n) h = omega arith

opposite-sign : (n : ℕ) → (neg_ℤ (pos n) ≡ pos 0) ⊎ (is_negative (neg_ℤ (pos n)) ≡ true)
opposite-sign zero = inl refl
opposite-sign (suc n) = inr refl

same-sign : (m n : ℕ) → is_negative (pos m) ≡ is_negative (pos n)
same-sign m n = le-ltb m 0 (omega arith) ∙ sym (le-ltb n 0 (omega arith))

remainder-sign : (a b : ℤ) → (int_rem a b ≡ pos 0) ⊎ (is_negative (int_rem a b) ≡ is_negative a)
remainder-sign (pos a) (pos b) = inr (same-sign (a % b) a)
remainder-sign (pos a) (negsuc b) = inr (same-sign (a % suc b) a)
remainder-sign (negsuc a) (pos b) = opposite-sign (suc a % b)
remainder-sign (negsuc a) (negsuc b) = opposite-sign (suc a % suc b)

pub returns-clause-divided : goal.returns-clause-divided
returns-clause-divided c = λ a b h. (
  int_div a b,
  int_rem a b,
  ap (λ zero. if zero then None else Some (wrap (int_div a b))) (not-zero b h),
  ap (λ zero. if zero then None else Some (int_rem a b)) (not-zero b h),
  record { again = sym (quot-rem a b); smaller = rem_below a b (some-size b h); sign = remainder-sign a b },
)
