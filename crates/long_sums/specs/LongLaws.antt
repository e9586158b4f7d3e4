-- The laws of sums in 64 bits.
-- Source: what the definitions of LongSums and Monoid imply.
use Rattle.std.proofs.Common.{refl, sym, ap, ◌∙◌, ◌^◌, IsTrue, ℤ, pos, negsuc, ◌+ℤ◌, FitsSigned, arith}
use Rattle.std.specs.Int.{w64, int_wrap}
use Rattle.std.proofs.lemmas.Bool.{ltb-true, lt-ltb}
use Rattle.std.proofs.lemmas.Int.{ints, int_wrap_fits, int_wrap-add_left, int_wrap-add_right, SFits-int_wrap}
use Rattle.std.proofs.Math.IntN.{+ℤ_assoc}
use Rattle.cvl_base.specs.Monoid.{MonoidLaws}
use Rattle.long_sums.specs.LongSums.{is_long, long_sum_of}

pub is_long-fits : (z : ℤ) → FitsSigned w64 z → IsTrue (is_long z)
is_long-fits (pos n) f = lt-ltb n (2 ^ 63) f.sfits
is_long-fits (negsuc n) f = lt-ltb n (2 ^ 63) (omega arith)

pub fits-is_long : (z : ℤ) → IsTrue (is_long z) → FitsSigned w64 z
fits-is_long (pos n) h = let below = ltb-true n (2 ^ 63) h in record { sfits = below }
fits-is_long (negsuc n) h = let below = ltb-true n (2 ^ 63) h in record { sfits = below }

pub long_laws : MonoidLaws is_long (pos 0) long_sum_of
long_laws = record {
  unit_is_item = refl;
  join_is_item = λ a b _ _. is_long-fits _ (SFits-int_wrap w64 (a +ℤ b));
  assoc = λ a b c _ _ _. int_wrap-add_left w64 (a +ℤ b) c ∙ ap (int_wrap w64) (+ℤ_assoc a b c) ∙ sym (int_wrap-add_right w64 a (b +ℤ c));
  left_unit = λ a h. ap (int_wrap w64) (omega (arith, ints)) ∙ int_wrap_fits w64 a (fits-is_long a h);
  right_unit = λ a h. ap (int_wrap w64) (omega (arith, ints)) ∙ int_wrap_fits w64 a (fits-is_long a h);
}
