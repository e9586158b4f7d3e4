-- The laws of sums in 54 bits.
-- Source: what the definitions of Exact and Monoid imply.
use Rattle.std.proofs.Common.{◌≡◌, refl, sym, ap, ◌∙◌, ◌-◌, ◌/◌, ◌^◌, IsTrue, ℤ, pos, negsuc, ◌+ℤ◌, ◌*ℤ◌, ◌≤ℤ◌, arith}
use Rattle.std.specs.Int.{int_rem_euclid}
use Rattle.std.proofs.lemmas.Int.{ints}
use Rattle.std.proofs.lemmas.Bool.{ltb-true, lt-ltb}
use Rattle.operators.specs.Exact.{exact_sum_of, wrap_word, IsWordWrapped}
use Rattle.operators.specs.Monoid.{MonoidLaws}
use Rattle.operators.specs.ItemWords.{is_word, same_word, WordLaws}

-- the range of words, as an order on whole numbers
pub record InWords (z : ℤ) : Type 0 where
  pub low : negsuc (2 ^ 53 - 1) ≤ℤ z
  pub high : z ≤ℤ pos (2 ^ 53 - 1)

pub word-in : (z : ℤ) → IsTrue (is_word z) → InWords z
word-in (pos n) h = let below = ltb-true n (2 ^ 53) h in record { low = omega (arith, ints); high = omega (arith, ints) }
word-in (negsuc n) h = let below = ltb-true n (2 ^ 53) h in record { low = omega (arith, ints); high = omega (arith, ints) }

pub in-word : (z : ℤ) → InWords z → IsTrue (is_word z)
in-word (pos n) r = let high = r.high in lt-ltb n (2 ^ 53) (omega (arith, ints))
in-word (negsuc n) r = let low = r.low in lt-ltb n (2 ^ 53) (omega (arith, ints))

-- the least number that is congruent to z modulo 2^54 and not negative
record IsRest (z rest : ℤ) : Type 0 where
  low : pos 0 ≤ℤ rest
  high : rest ≤ℤ pos (2 ^ 54 - 1)
  congruent : (turns : ℤ) × (z ≡ rest +ℤ turns *ℤ pos (2 ^ 54))

rest_is : (z : ℤ) → IsRest z (int_rem_euclid z (pos (2 ^ 54)))
rest_is (pos a) = record {
  low = omega (arith, ints);
  high = omega (arith, ints);
  congruent = (pos (a / 2 ^ 54), omega (arith, ints));
}
rest_is (negsuc a) = record {
  low = omega (arith, ints);
  high = omega (arith, ints);
  congruent = (negsuc (a / 2 ^ 54), omega (arith, ints));
}

pub is_word_wrapped : (x : ℤ) → IsWordWrapped x (wrap_word x)
is_word_wrapped x =
    let r = rest_is (x +ℤ pos (2 ^ 53)) in
    let low = r.low in
    let high = r.high in
    let same = r.congruent.1 in
    record {
      fits = in-word (wrap_word x) (record { low = omega (arith, ints); high = omega (arith, ints) });
      congruent = (r.congruent.0, omega (arith, ints));
    }

-- two numbers of the range that differ by whole turns are equal
same_word_wrapped : (x a b : ℤ) → IsWordWrapped x a → IsWordWrapped x b → a ≡ b
same_word_wrapped x a b p q =
    let in_a = word-in a p.fits in
    let in_b = word-in b q.fits in
    let low_a = in_a.low in
    let high_a = in_a.high in
    let low_b = in_b.low in
    let high_b = in_b.high in
    let by_a = p.congruent.1 in
    let by_b = q.congruent.1 in
    omega (arith, ints)

pub only_word_wrapped : (x wrapped : ℤ) → IsWordWrapped x wrapped → wrapped ≡ wrap_word x
only_word_wrapped x wrapped h = same_word_wrapped x wrapped (wrap_word x) h (is_word_wrapped x)

-- a number of the range is wrapped to itself
pub word_wraps : (z : ℤ) → IsTrue (is_word z) → wrap_word z ≡ z
word_wraps z h = sym (only_word_wrapped z z (record { fits = h; congruent = (pos 0, omega (arith, ints)) }))

-- to wrap on the way changes nothing
wrap_word-add_left : (a b : ℤ) → wrap_word (wrap_word a +ℤ b) ≡ wrap_word (a +ℤ b)
wrap_word-add_left a b =
    let p = is_word_wrapped a in
    let q = is_word_wrapped (wrap_word a +ℤ b) in
    let by_p = p.congruent.1 in
    let by_q = q.congruent.1 in
    only_word_wrapped (a +ℤ b) (wrap_word (wrap_word a +ℤ b)) (record {
      fits = q.fits;
      congruent = (p.congruent.0 +ℤ q.congruent.0, omega (arith, ints));
    })

exact_assoc : (a b c : ℤ) → exact_sum_of (exact_sum_of a b) c ≡ exact_sum_of a (exact_sum_of b c)
exact_assoc a b c =
    let around : (a +ℤ b) +ℤ c ≡ (b +ℤ c) +ℤ a = omega (arith, ints) in
    let turned : wrap_word (b +ℤ c) +ℤ a ≡ a +ℤ wrap_word (b +ℤ c) = omega (arith, ints) in
    wrap_word-add_left (a +ℤ b) c ∙ ap wrap_word around ∙ sym (wrap_word-add_left (b +ℤ c) a) ∙ ap wrap_word turned

pub exact_laws : MonoidLaws is_word (pos 0) exact_sum_of
exact_laws = record {
  unit_is_item = refl;
  join_is_item = λ a b _ _. (is_word_wrapped (a +ℤ b)).fits;
  assoc = λ a b c _ _ _. exact_assoc a b c;
  left_unit = λ a h. (let same : pos 0 +ℤ a ≡ a = omega (arith, ints) in ap wrap_word same) ∙ word_wraps a h;
  right_unit = λ a h. (let same : a +ℤ pos 0 ≡ a = omega (arith, ints) in ap wrap_word same) ∙ word_wraps a h;
}

-- a number of the range is its own word
pub exact_words : WordLaws is_word same_word same_word
exact_words = record {
  fits = λ z h. h;
  inverse = λ z _. refl;
}
