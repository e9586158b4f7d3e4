use Rattle.call_laws.proofs.Cited.{◌≡◌, ◌+◌, ◌<◌, ◌≤◌, ◌∷◌, ◌++◌, if◌then◌else◌, ℕ, IsTrue, List, [], length, map, refl, sym, ap, arith, append_assoc, length-append, map-append, most_places}
use Rattle.call_laws.proofs.Cited.{◌∙◌, codes, fault, fault_if, in_turn, in_two, join_with_byte, moved, nat_lt, nat_tests, BadInput, Fault, Result, ℤ}
use Rattle.line_reader.specs.declared.token.ByteClass.TheVariants.{Blank, InToken}
use Rattle.call_reader.specs.Inputs.{input_class, input_within, is_white_space}
use Rattle.cvl_base.specs.declared.fault.FaultNo.TheVariants.{TooLong}
use Rattle.line_reader.specs.Numbers.{written_number}
use Rattle.line_reader.specs.Tokens.{tokens_by}
use Rattle.line_reader.proofs.TokenWalk.{cut_at_blank}
use Rattle.part_calls.specs.Pieces.{piece_of}
use Rattle.value_texts.specs.Texts.{vector_text}
use Rattle.call_laws.proofs.TwoParts.{moved-stays, moved-two, values-two}
use Rattle.call_laws.proofs.text_laws.texts_in_parts.Goals as goal

tokens-two : (first others : List ℕ) (b : ℕ) → IsTrue (is_white_space b) → tokens_by input_class (first ++ b ∷ others) ≡ tokens_by input_class first ++ tokens_by input_class others
tokens-two first others b white = cut_at_blank input_class first others b (ap (λ w. if w then Blank else InToken) white)

-- as many tokens as a limit lets through
few_enough : {X : Type 0} (most n : ℕ) (rest : Result (List X) Fault) → n ≤ most → fault_if (nat_lt most n) (fault TooLong) rest ≡ rest
few_enough most n rest few = grind (arith, nat_tests)

module _ (first others : List ℕ) (b : ℕ) (white : IsTrue (is_white_space b)) where
  abbrev count : List ℕ → ℕ
  count bytes = length (tokens_by input_class bytes)

  as_many : count (first ++ b ∷ others) ≡ count first + count others
  as_many = ap length (tokens-two first others b white) ∙ length-append (tokens_by input_class first) (tokens_by input_class others)

  pub numbers-two : (most : ℕ) → count (first ++ b ∷ others) ≤ most
      → input_within most (first ++ b ∷ others) ≡ in_two (count first) (input_within most first) (input_within most others)
  numbers-two most few =
      let long : count first + count others ≤ most = omega (arith, few, as_many) in
      rw (
        few_enough most (count (first ++ b ∷ others)) _ few,
        few_enough most (count first) _ (omega (arith, long)),
        few_enough most (count others) _ (omega (arith, long)),
        tokens-two first others b white,
      )
      (values-two BadInput written_number (tokens_by input_class first) (tokens_by input_class others))

  pub pieces-two : (before : ℕ) → before + count (first ++ b ∷ others) ≤ most_places
      → piece_of before (first ++ b ∷ others) ≡ in_turn (piece_of before first) (piece_of (before + count first) others)
  pieces-two before few =
      let own : Result (List ℤ) Fault = input_within most_places first in
      let behind : Result (List ℤ) Fault = input_within most_places others in
      rw (
        few_enough most_places before (moved (λ p. before + p) (input_within most_places (first ++ b ∷ others))) (omega (arith, few)),
        few_enough most_places before (moved (λ p. before + p) own) (omega (arith, few)),
        few_enough most_places (before + count first) (moved (λ p. (before + count first) + p) behind) (omega (arith, few, as_many)),
      )
      (ap (moved (λ p. before + p)) (numbers-two most_places (omega (arith, few))) ∙ moved-two before (count first) own behind)

texts-two : (x : List ℕ) (xs : List (List ℕ)) (y : List ℕ) (ys : List (List ℕ)) → join_with_byte 32 ((x ∷ xs) ++ (y ∷ ys)) ≡ join_with_byte 32 (x ∷ xs) ++ 32 ∷ join_with_byte 32 (y ∷ ys)
texts-two x [] y ys = refl
texts-two x (z ∷ zs) y ys = rw (texts-two z zs y ys) (sym (append_assoc x (32 ∷ join_with_byte 32 (z ∷ zs)) (32 ∷ join_with_byte 32 (y ∷ ys))))

text-two : {X : Type 0} (text_of : X → List ℕ) (xs ys : List X) → 0 < length xs → 0 < length ys
    → vector_text text_of (xs ++ ys) ≡ codes "[" ++ ((join_with_byte 32 (map text_of xs) ++ 32 ∷ join_with_byte 32 (map text_of ys)) ++ codes "]")
text-two text_of [] ys some also_some = absurd (omega arith)
text-two text_of (x ∷ xs) [] some also_some = absurd (omega arith)
text-two text_of (x ∷ xs) (y ∷ ys) some also_some = cc (map-append text_of (x ∷ xs) (y ∷ ys), texts-two (text_of x) (map text_of xs) (text_of y) (map text_of ys))

pub returns : goal.returns
returns g c = record {
  tokens = tokens-two;
  numbers = λ most first others byte white. numbers-two first others byte white most;
  pieces = λ before first others byte white. pieces-two first others byte white before;
  first_piece = λ text. moved-stays (λ p. 0 + p) (λ p. omega arith) (input_within most_places text);
  texts = text-two;
}
