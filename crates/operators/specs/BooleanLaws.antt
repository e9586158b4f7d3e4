-- The laws of the three operators on booleans.
-- Source: what the definitions of Booleans and Monoid imply.
use Rattle.std.proofs.Common.{◌≡◌, refl, Bool, true, false, IsTrue}
use Rattle.operators.specs.Booleans.{both, either, differ}
use Rattle.operators.specs.Monoid.{MonoidLaws}
use Rattle.operators.specs.Conversions.{integer_of, boolean_of}
use Rattle.operators.specs.ItemWords.{is_boolean, is_word, WordLaws}

both_true : (a : Bool) → both a true ≡ a
both_true true = refl
both_true false = refl

both_assoc : (a b c : Bool) → both (both a b) c ≡ both a (both b c)
both_assoc true b c = refl
both_assoc false b c = refl

pub either_false : (a : Bool) → either a false ≡ a
either_false true = refl
either_false false = refl

pub either_assoc : (a b c : Bool) → either (either a b) c ≡ either a (either b c)
either_assoc true b c = refl
either_assoc false b c = refl

differ_false : (a : Bool) → differ a false ≡ a
differ_false true = refl
differ_false false = refl

differ_assoc : (a b c : Bool) → differ (differ a b) c ≡ differ a (differ b c)
differ_assoc true true true = refl
differ_assoc true true false = refl
differ_assoc true false c = refl
differ_assoc false b c = refl

-- an operator on booleans obeys the laws if it is associative and its unit changes neither boolean on either side
laws_of : (unit : Bool) (op : Bool → Bool → Bool) → ((a b c : Bool) → op (op a b) c ≡ op a (op b c)) → ((a : Bool) → op unit a ≡ a)
    → ((a : Bool) → op a unit ≡ a) → MonoidLaws is_boolean unit op
laws_of unit op assoc left right = record {
  unit_is_item = refl;
  join_is_item = λ a b _ _. refl;
  assoc = λ a b c _ _ _. assoc a b c;
  left_unit = λ a _. left a;
  right_unit = λ a _. right a;
}

pub both_laws : MonoidLaws is_boolean true both
both_laws = laws_of true both both_assoc (λ a. refl) both_true

pub either_laws : MonoidLaws is_boolean false either
either_laws = laws_of false either either_assoc (λ a. refl) either_false

pub differ_laws : MonoidLaws is_boolean false differ
differ_laws = laws_of false differ differ_assoc (λ a. refl) differ_false

-- a boolean's word is 0 or 1
pub boolean_words : WordLaws is_boolean integer_of boolean_of
boolean_words = record {
  fits = λ b _. word_fits b;
  inverse = λ b _. word_inverse b;
}
  where
    word_fits : (b : Bool) → IsTrue (is_word (integer_of b))
    word_fits true = refl
    word_fits false = refl

    word_inverse : (b : Bool) → boolean_of (integer_of b) ≡ b
    word_inverse true = refl
    word_inverse false = refl
