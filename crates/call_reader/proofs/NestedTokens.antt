-- What the tokens of a nested text are to its grammar.
use Rattle.call_reader.proofs.Cited.{◌≡◌, ℕ, ◌+◌, ◌≤◌, Bool, true, false, List, [], ◌∷◌, length, map, min, take, drop, refl, ap, sym, arith, Option, Some, None, ℤ, codes, nat_eq, if◌then◌else◌}
use Rattle.call_reader.proofs.Cited.{count_by, not, ◌||◌, is_ascii_digit, nat_tests, length-map, count_by-le-length, most_elements, ByteClass, InToken, tokens_by, with_byte, is_in_token}
use Rattle.call_reader.proofs.Cited.{begins_in_token, IsFirstToken, written_number, nested_class, Mark, opening, closing, number, stray, number_or, mark_of, marks_of, is_opening, is_no_bracket}
use Rattle.call_reader.proofs.Cited.{is_closing, HasRoom, cases_Bool}
use Rattle.std.specs.Cmp.Lexicographic.{pointwise}
use Rattle.std.proofs.lemmas.Slice.Eq.{bytes_eq-Decides}
use Rattle.call_reader.proofs.InputWalk.{number_leads}
use Rattle.call_reader.proofs.NestedMarks.{count-cons, few}

pub opening_mark : (token : List ℕ) → pointwise nat_eq token (codes "[") ≡ true → mark_of token ≡ opening
opening_mark token e = ap mark_of ((bytes_eq-Decides token (codes "[")).0 e)

pub closing_mark : (token : List ℕ) → pointwise nat_eq token (codes "]") ≡ true → mark_of token ≡ closing
closing_mark token e = ap mark_of ((bytes_eq-Decides token (codes "]")).0 e)

not_opening : (o : Option ℤ) (b c : Bool) → b ≡ false → is_opening (number_or o (if b then opening else (if c then closing else stray))) ≡ false
not_opening None true c e = absurd (cc)
not_opening None false true e = refl
not_opening o b c e = refl

not_closing : (o : Option ℤ) (b c : Bool) → c ≡ false → is_closing (number_or o (if b then opening else (if c then closing else stray))) ≡ false
not_closing None false true e = absurd (cc)
not_closing None true c e = refl
not_closing o b c e = refl

neither_one : (o : Option ℤ) (b c : Bool) → b ≡ false → c ≡ false → is_no_bracket (number_or o (if b then opening else (if c then closing else stray))) ≡ true
neither_one None true c e f = absurd (cc)
neither_one None false true e f = absurd (cc)
neither_one o b c e f = refl

pub opens : (token : List ℕ) → pointwise nat_eq token (codes "[") ≡ is_opening (mark_of token)
opens token = grind (arith, nat_tests, cases_Bool, opening_mark, not_opening)

pub closes : (token : List ℕ) → pointwise nat_eq token (codes "]") ≡ is_closing (mark_of token)
closes token = grind (arith, nat_tests, cases_Bool, closing_mark, not_closing)

pub no_bracket : (token : List ℕ) (one other : Bool) → one ≡ pointwise nat_eq token (codes "[") → other ≡ pointwise nat_eq token (codes "]")
    → not (one || other) ≡ is_no_bracket (mark_of token)
no_bracket token true other e f = sym (ap is_no_bracket (opening_mark token (sym e)))
no_bracket token false true e f = sym (ap is_no_bracket (closing_mark token (sym f)))
no_bracket token false false e f = sym (neither_one (written_number token) (pointwise nat_eq token (codes "[")) (pointwise nat_eq token (codes "]")) (sym e) (sym f))

-- the mark of the first token, and the others
pub first_mark : (bytes token others : List ℕ) → IsFirstToken nested_class bytes token others → marks_of bytes ≡ mark_of token ∷ marks_of others
first_mark bytes token others is = ap (map mark_of) is

pub number_mark : (token : List ℕ) (n : ℤ) → written_number token ≡ Some n → mark_of token ≡ number n
number_mark token n e = cc e

digit_in_nested : (b : ℕ) → is_ascii_digit b ≡ true → is_in_token (nested_class b) ≡ true
digit_in_nested b e = grind (arith, nat_tests)

-- a number with no part of a run after it is the first token
pub number_first : (bytes : List ℕ) (k : ℕ) (n : ℤ) → written_number (take k bytes) ≡ Some n → begins_in_token nested_class (drop k bytes) ≡ false
    → marks_of bytes ≡ number n ∷ marks_of (drop k bytes)
number_first bytes k n e ends = cc (first_mark bytes (take k bytes) (drop k bytes) (number_leads nested_class digit_in_nested refl bytes k n e ends), number_mark (take k bytes) n e)

one_more : (c : ByteClass) (runs_on : Bool) (b : ℕ) (tokens : List (List ℕ)) → length (with_byte c runs_on b tokens) ≤ 1 + length tokens
one_more InToken true b [] = omega arith
one_more InToken true b (token ∷ tokens) = omega arith
one_more c runs_on b tokens = omega arith

tokens_short : (bytes : List ℕ) → length (tokens_by nested_class bytes) ≤ length bytes
tokens_short [] = omega arith
tokens_short (b ∷ bs) = omega (arith, one_more (nested_class b) (begins_in_token nested_class bs) b (tokens_by nested_class bs), tokens_short bs)

-- each token has a byte
pub marks_short : (p : Mark → Bool) (bytes : List ℕ) → count_by p (marks_of bytes) ≤ length bytes
marks_short p bytes = omega (arith, count_by-le-length p (marks_of bytes), length-map (tokens_by nested_class bytes) mark_of, tokens_short bytes)

-- vectors with room for as many elements as there are bytes, or as a vector may have, have room for all
pub has_room : (bytes : List ℕ) (room : ℕ) → room ≡ min (length bytes) most_elements → HasRoom room room (opening ∷ marks_of bytes)
has_room bytes room is fine =
    let both = few (opening ∷ marks_of bytes) fine in (
      omega (arith, both.0, count-cons is_no_bracket opening (marks_of bytes), marks_short is_no_bracket bytes),
      omega (arith, both.1, count-cons is_opening opening (marks_of bytes), marks_short is_opening bytes),
    )
