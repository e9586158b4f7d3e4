-- The laws of the seven operators on numbers that fit 32 bits.
-- Source: what the definitions of Integers and Monoid imply.
use Rattle.std.proofs.Common.{◌≡◌, refl, sym, ap, ◌∙◌, ℕ, ◌-◌, ◌^◌, ◌<◌, max, IsTrue, ℤ, pos, negsuc, ◌+ℤ◌, ◌*ℤ◌, FitsSigned, arith}
use Rattle.std.specs.Int.{w32, bit_at, int_wrap, int_min, int_max, cast_signed, cast_unsigned}
use Rattle.std.specs.Int.Bits.{bit_and, bit_or, bit_xor, xor_assoc, xor_zero_l, xor_zero_r, or_zero_l, or_zero_r, and_lt, or_lt, xor_lt}
use Rattle.std.specs.Int.Bits.{and_mask, and_comm}
use Rattle.std.proofs.lemmas.Int.{ints, clamps, to_z-of_z, of_z-to_z, int_wrap_fits, int_wrap-add_left, int_wrap-add_right}
use Rattle.std.proofs.lemmas.Int.{int_wrap-mul_left, int_wrap-mul_right, SFits-int_wrap}
use Rattle.std.proofs.Math.IntN.{+ℤ_assoc}
use Rattle.std.proofs.lemmas.Nat.{and_assoc}
use Rattle.std.proofs.lemmas.Bool.{ltb-true, lt-ltb}
use borrow.Author.Differences.{product_is, read_fits}
use mir.ValLaws.{of_z_fits}
use Rattle.std.proofs.lemmas.Nat.Bits.{bit_at_or, same_from_bits}
use Rattle.operators.specs.Integers.{sum_of, product_of, lesser_of, greater_of, and_of, ior_of, xor_of, wrap}
use Rattle.operators.specs.Monoid.{MonoidLaws}
use Rattle.operators.specs.ItemWords.{is_number, is_word, same_word, WordLaws}

pub is_number-fits : (z : ℤ) → FitsSigned w32 z → IsTrue (is_number z)
is_number-fits (pos n) f = lt-ltb n (2 ^ 31) f.sfits
is_number-fits (negsuc n) f = lt-ltb n (2 ^ 31) (omega arith)

pub fits-is_number : (z : ℤ) → IsTrue (is_number z) → FitsSigned w32 z
fits-is_number (pos n) h = let below = ltb-true n (2 ^ 31) h in record { sfits = below }
fits-is_number (negsuc n) h = let below = ltb-true n (2 ^ 31) h in record { sfits = below }

-- the order of two products is free
*ℤ_assoc : (a b c : ℤ) → (a *ℤ b) *ℤ c ≡ a *ℤ (b *ℤ c)
*ℤ_assoc a b c =
    let ab = product_is a b in
    let bc = product_is b c in
    let left = product_is (a *ℤ b) c in
    let right = product_is a (b *ℤ c) in
    let left_up = rw (ab.0, ab.1) at left.0 in
    let left_down = rw (ab.0, ab.1) at left.1 in
    let right_up = rw (bc.0, bc.1) at right.0 in
    let right_down = rw (bc.0, bc.1) at right.1 in
    omega (arith, ints, left_up, left_down, right_up, right_down)

pub sum_laws : MonoidLaws is_number (pos 0) sum_of
sum_laws = record {
  unit_is_item = refl;
  join_is_item = λ a b _ _. is_number-fits _ (SFits-int_wrap w32 (a +ℤ b));
  assoc = λ a b c _ _ _. int_wrap-add_left w32 (a +ℤ b) c ∙ ap (int_wrap w32) (+ℤ_assoc a b c) ∙ sym (int_wrap-add_right w32 a (b +ℤ c));
  left_unit = λ a h. ap (int_wrap w32) (omega (arith, ints)) ∙ int_wrap_fits w32 a (fits-is_number a h);
  right_unit = λ a h. ap (int_wrap w32) (omega (arith, ints)) ∙ int_wrap_fits w32 a (fits-is_number a h);
}

pub product_laws : MonoidLaws is_number (pos 1) product_of
product_laws = record {
  unit_is_item = refl;
  join_is_item = λ a b _ _. is_number-fits _ (SFits-int_wrap w32 (a *ℤ b));
  assoc = λ a b c _ _ _. int_wrap-mul_left w32 (a *ℤ b) c ∙ ap (int_wrap w32) (*ℤ_assoc a b c) ∙ sym (int_wrap-mul_right w32 a (b *ℤ c));
  left_unit = λ a h. ap (int_wrap w32) (omega (arith, ints)) ∙ int_wrap_fits w32 a (fits-is_number a h);
  right_unit = λ a h. ap (int_wrap w32) (omega (arith, ints)) ∙ int_wrap_fits w32 a (fits-is_number a h);
}

pub lesser_laws : MonoidLaws is_number (pos 2147483647) lesser_of
lesser_laws = record {
  unit_is_item = refl;
  join_is_item = λ a b p q.
      let f = fits-is_number a p in let g = fits-is_number b q in is_number-fits (int_min a b) (omega (arith, ints, clamps));
  assoc = λ a b c _ _ _. omega (arith, ints, clamps);
  left_unit = λ a h. let f = fits-is_number a h in omega (arith, ints, clamps);
  right_unit = λ a h. let f = fits-is_number a h in omega (arith, ints, clamps);
}

pub greater_laws : MonoidLaws is_number (negsuc 2147483647) greater_of
greater_laws = record {
  unit_is_item = refl;
  join_is_item = λ a b p q.
      let f = fits-is_number a p in let g = fits-is_number b q in is_number-fits (int_max a b) (omega (arith, ints, clamps));
  assoc = λ a b c _ _ _. omega (arith, ints, clamps);
  left_unit = λ a h. let f = fits-is_number a h in omega (arith, ints, clamps);
  right_unit = λ a h. let f = fits-is_number a h in omega (arith, ints, clamps);
}

-- An operator on the 32 bits of two numbers obeys the laws if it obeys them as an operator on naturals below 2^32.
record BitLaws (unit : ℕ) (op : ℕ → ℕ → ℕ) : Type 0 where
  below : (a b : ℕ) → a < 2 ^ 32 → b < 2 ^ 32 → op a b < 2 ^ 32
  assoc : (a b c : ℕ) → op (op a b) c ≡ op a (op b c)
  left_unit : (a : ℕ) → a < 2 ^ 32 → op unit a ≡ a
  right_unit : (a : ℕ) → a < 2 ^ 32 → op a unit ≡ a

bits_below : (z : ℤ) → IsTrue (is_number z) → cast_unsigned w32 z < 2 ^ 32
bits_below z h = (of_z_fits w32 z (fits-is_number z h)).fits

read_is_number : (n : ℕ) → IsTrue (is_number (cast_signed w32 n))
read_is_number n = is_number-fits (cast_signed w32 n) (omega (arith, ints, read_fits w32 n))

bitwise_laws : (unit : ℕ) (op : ℕ → ℕ → ℕ) → unit < 2 ^ 32 → BitLaws unit op
    → MonoidLaws is_number (cast_signed w32 unit) (λ a b. cast_signed w32 (op (cast_unsigned w32 a) (cast_unsigned w32 b)))
bitwise_laws unit op small laws = record {
  unit_is_item = read_is_number unit;
  join_is_item = λ a b _ _. read_is_number (op (cast_unsigned w32 a) (cast_unsigned w32 b));
  assoc = λ a b c p q r.
      let join_left = of_z-to_z w32 _ (laws.below _ _ (bits_below a p) (bits_below b q)) in
      let join_right = of_z-to_z w32 _ (laws.below _ _ (bits_below b q) (bits_below c r)) in
      ap (λ n. cast_signed w32 (op n (cast_unsigned w32 c))) join_left
      ∙ ap (cast_signed w32) (laws.assoc _ _ _)
      ∙ sym (ap (λ n. cast_signed w32 (op (cast_unsigned w32 a) n)) join_right);
  left_unit = λ a p.
      ap (λ n. cast_signed w32 (op n (cast_unsigned w32 a))) (of_z-to_z w32 unit small)
      ∙ ap (cast_signed w32) (laws.left_unit _ (bits_below a p))
      ∙ to_z-of_z w32 a (fits-is_number a p);
  right_unit = λ a p.
      ap (λ n. cast_signed w32 (op (cast_unsigned w32 a) n)) (of_z-to_z w32 unit small)
      ∙ ap (cast_signed w32) (laws.right_unit _ (bits_below a p))
      ∙ to_z-of_z w32 a (fits-is_number a p);
}

or_assoc : (a b c : ℕ) → bit_or (bit_or a b) c ≡ bit_or a (bit_or b c)
or_assoc a b c =
    same_from_bits _ _ (λ i.
    bit_at_or (bit_or a b) c i ∙ ap (λ n. max n (bit_at c i)) (bit_at_or a b i)
    ∙ omega arith
    ∙ sym (bit_at_or a (bit_or b c) i ∙ ap (max (bit_at a i)) (bit_at_or b c i)))

all_ones : (a : ℕ) → a < 2 ^ 32 → bit_and a (2 ^ 32 - 1) ≡ a
all_ones a h = and_mask a 32 ∙ omega arith

pub and_laws : MonoidLaws is_number (negsuc 0) and_of
and_laws = bitwise_laws (2 ^ 32 - 1) bit_and (omega arith) (record {
  below = and_lt 32;
  assoc = λ a b c. and_assoc c a b;
  left_unit = λ a h. and_comm (2 ^ 32 - 1) a ∙ all_ones a h;
  right_unit = all_ones;
})

pub ior_laws : MonoidLaws is_number (pos 0) ior_of
ior_laws = bitwise_laws 0 bit_or (omega arith) (record {
  below = or_lt 32;
  assoc = or_assoc;
  left_unit = λ a _. or_zero_l a;
  right_unit = λ a _. or_zero_r a;
})

pub xor_laws : MonoidLaws is_number (pos 0) xor_of
xor_laws = bitwise_laws 0 bit_xor (omega arith) (record {
  below = xor_lt 32;
  assoc = xor_assoc;
  left_unit = λ a _. xor_zero_l a;
  right_unit = λ a _. xor_zero_r a;
})

pub number-is_word : (z : ℤ) → IsTrue (is_number z) → IsTrue (is_word z)
number-is_word (pos n) h = let below = ltb-true n (2 ^ 31) h in lt-ltb n (2 ^ 53) (omega arith)
number-is_word (negsuc n) h = let below = ltb-true n (2 ^ 31) h in lt-ltb n (2 ^ 53) (omega arith)

-- a number is its own word
pub number_words : WordLaws is_number same_word wrap
number_words = record {
  fits = number-is_word;
  inverse = λ z h. int_wrap_fits w32 z (fits-is_number z h);
}
