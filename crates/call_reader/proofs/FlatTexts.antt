-- A list of numbers is no nested text.
use Rattle.std.proofs.Common.{◌≡◌, ℕ, ◌+◌, ◌≤◌, Bool, true, false, List, [], ◌∷◌, ◌++◌, length, map, filter, refl, ap, sym, subst, ◌∙◌, arith, Option, Some, None, ℤ, Ok, Err, Result}
use Rattle.std.specs.Prelude.{◌==◌, ◌&&◌, ◌||◌, not, nat_lt, count_by, if◌then◌else◌}
use Rattle.std.specs.Char.{is_ascii_digit}
use Rattle.std.specs.List.{concat, list_all}
use Rattle.std.specs.Option.{option_and_then}
use Rattle.std.specs.Str.Parse.{digits_value}
use Rattle.std.proofs.lemmas.Bool.Decides.{nat_tests}
use Rattle.cvl_base.specs.declared.fault.FaultNo.TheVariants.{BadInput, TooLong}
use Rattle.std.proofs.lemmas.List.{length-map}
use Rattle.std.proofs.lemmas.Bool.{and_from, and_parts}
use Rattle.cvl_base.specs.declared.fault.Fault.{Fault}
use Rattle.cvl_base.specs.Elementwise.{values_from}
use Rattle.cvl_base.specs.Faults.{fault, fault_at}
use Rattle.cvl_base.specs.Gives.{◌>>=◌, fault_if}
use Rattle.cvl_base.specs.Limits.{most_elements}
use Rattle.line_reader.specs.declared.token.ByteClass.TheVariants.{Blank, Alone, InToken}
use Rattle.line_reader.specs.Tokens.{tokens_by, with_byte, is_in_token, is_blank, begins_in_token}
use Rattle.line_reader.specs.Numbers.{is_empty, magnitude_of, negative_of, positive_of, with_sign, written_number}
use Rattle.line_reader.proofs.TokenWalk.{concat_tokens}
use Rattle.call_reader.specs.Inputs.{input_class, input_of, is_white_space}
use Rattle.call_reader.specs.NestedTexts.{nested_class, number, mark_of, marks_of, is_opening, is_no_bracket, are_too_many, before, lists_from, nested_of}
use Rattle.call_reader.proofs.NestedMarks.{count-cons}
use Rattle.call_reader.proofs.NestedTokens.{number_mark}

abbrev is_bracket : ℕ → Bool
is_bracket b = (b == 91) || (b == 93)

no_digit : (b : ℕ) → is_ascii_digit b ≡ true → not (is_bracket b) ≡ true
no_digit b e = grind (arith, nat_tests)

no_digits : (ds : List ℕ) → list_all is_ascii_digit ds ≡ true → list_all (λ b. not (is_bracket b)) ds ≡ true
no_digits [] e = refl
no_digits (d ∷ ds) e =
    let parts = and_parts (is_ascii_digit d) (list_all is_ascii_digit ds) e in
    and_from (not (is_bracket d)) (list_all (λ b. not (is_bracket b)) ds) (no_digit d parts.0) (no_digits ds parts.1)

-- the digits of a magnitude
digits_of : (ds : List ℕ) (m : ℕ) → magnitude_of ds ≡ Some m → list_all is_ascii_digit ds ≡ true
digits_of ds m e = by_case (not (is_empty ds)) (list_all is_ascii_digit ds) e
  where
    by_case : (some digits : Bool) → (if some && digits then Some (digits_value 10 ds) else None) ≡ Some m → digits ≡ true
    by_case some true e = refl
    by_case true false e = absurd (cc)
    by_case false false e = absurd (cc)

from_some : (o : Option ℕ) (f : ℕ → Option ℤ) (n : ℤ) → option_and_then f o ≡ Some n → (m : ℕ) × (o ≡ Some m)
from_some None f n e = absurd (cc)
from_some (Some m) f n e = (m, refl)

-- no byte of a number is a bracket
no_brackets : (token : List ℕ) (n : ℤ) → written_number token ≡ Some n → list_all (λ b. not (is_bracket b)) token ≡ true
no_brackets [] n e = absurd (cc)
no_brackets (b ∷ bs) n e = by_case (b == 45) refl e
  where
    by_case : (sign : Bool) → (b == 45) ≡ sign → with_sign sign (b ∷ bs) bs ≡ Some n → list_all (λ b. not (is_bracket b)) (b ∷ bs) ≡ true
    by_case true is e =
        let some = from_some (magnitude_of bs) negative_of n e in
        and_from (not (is_bracket b)) (list_all (λ b. not (is_bracket b)) bs) (grind (arith, nat_tests)) (no_digits bs (digits_of bs some.0 some.1))
    by_case false is e =
        let some = from_some (magnitude_of (b ∷ bs)) positive_of n e in
        no_digits (b ∷ bs) (digits_of (b ∷ bs) some.0 some.1)

all_both : (p : ℕ → Bool) (xs ys : List ℕ) → list_all p xs ≡ true → list_all p ys ≡ true → list_all p (xs ++ ys) ≡ true
all_both p [] ys e f = f
all_both p (x ∷ xs) ys e f =
    let parts = and_parts (p x) (list_all p xs) e in and_from (p x) (list_all p (xs ++ ys)) parts.0 (all_both p xs ys parts.1 f)

from_value : {X Y : Type 0} (r : Result X Fault) (next : X → Result Y Fault) (y : Y) → (r >>= next) ≡ Ok y → (x : X) × (r ≡ Ok x) × (next x ≡ Ok y)
from_value (Ok x) next y p = (x, refl, p)
from_value (Err f) next y p = cc

-- tokens that are read as numbers are the marks of these, and have no bracket
abbrev are_written : List (List ℕ) → List ℤ → Type 0
are_written tokens ns = (map mark_of tokens ≡ map number ns) × (list_all (λ b. not (is_bracket b)) (concat tokens) ≡ true)

one_written : (place : ℕ) (token : List ℕ) (tokens : List (List ℕ)) (ns : List ℤ) (o : Option ℤ) → written_number token ≡ o
    → ((ms : List ℤ) → values_from BadInput (place + 1) (map written_number tokens) ≡ Ok ms → are_written tokens ms)
    → values_from BadInput place (o ∷ map written_number tokens) ≡ Ok ns → are_written (token ∷ tokens) ns
one_written place token tokens ns None is others e = cc
one_written place token tokens ns (Some n) is others e =
    let parts = from_value (values_from BadInput (place + 1) (map written_number tokens)) (λ ys. Ok (n ∷ ys)) ns e in
    let more = others parts.0 parts.1 in
    let whole : n ∷ parts.0 ≡ ns = let e = parts.2 in cc in (
      (λ i. number_mark token n is i ∷ more.0 i) ∙ ap (map number) whole,
      all_both (λ b. not (is_bracket b)) token (concat tokens) (no_brackets token n is) more.1,
    )

all_written : (place : ℕ) (tokens : List (List ℕ)) (ns : List ℤ) → values_from BadInput place (map written_number tokens) ≡ Ok ns → are_written tokens ns
all_written place [] ns e = let none : [] ≡ ns = cc in (ap (map number) none, refl)
all_written place (token ∷ tokens) ns e =
    one_written place token tokens ns (written_number token) refl (λ ms f. all_written (place + 1) tokens ms f) e

not_alone : (bracket : Bool) → not bracket ≡ true → (if bracket then Alone else InToken) ≡ InToken
not_alone true e = absurd (cc)
not_alone false e = refl

-- where no byte of a token is a bracket, both grammars see each byte alike
same_at : (b : ℕ) (bs : List ℕ) → list_all (λ b. not (is_bracket b)) (filter (λ b. not (is_blank (input_class b))) (b ∷ bs)) ≡ true
    → (nested_class b ≡ input_class b) × (list_all (λ b. not (is_bracket b)) (filter (λ b. not (is_blank (input_class b))) bs) ≡ true)
same_at b bs e = by_case (is_white_space b) refl e
  where
    others : List ℕ
    others = filter (λ b. not (is_blank (input_class b))) bs

    by_case : (white : Bool) → is_white_space b ≡ white
        → list_all (λ b. not (is_bracket b)) (if not (is_blank (if white then Blank else InToken)) then b ∷ others else others) ≡ true
        → (nested_class b ≡ input_class b) × (list_all (λ b. not (is_bracket b)) others ≡ true)
    by_case true is e = (rw is refl, e)
    by_case false is e =
        let parts = and_parts (not (is_bracket b)) (list_all (λ b. not (is_bracket b)) others) e in
        (rw is (not_alone (is_bracket b) parts.0), parts.1)

begins_alike : (bytes : List ℕ) → list_all (λ b. not (is_bracket b)) (filter (λ b. not (is_blank (input_class b))) bytes) ≡ true
    → begins_in_token nested_class bytes ≡ begins_in_token input_class bytes
begins_alike [] e = refl
begins_alike (b ∷ bs) e = ap is_in_token (same_at b bs e).0

cut_alike : (bytes : List ℕ) → list_all (λ b. not (is_bracket b)) (filter (λ b. not (is_blank (input_class b))) bytes) ≡ true
    → tokens_by nested_class bytes ≡ tokens_by input_class bytes
cut_alike [] e = refl
cut_alike (b ∷ bs) e =
    let at = same_at b bs e in λ i. with_byte (at.0 i) (begins_alike bs at.1 i) b (cut_alike bs at.1 i)

count_numbers : (ns : List ℤ) → (count_by is_no_bracket (map number ns) ≡ length ns) × (count_by is_opening (map number ns) ≡ 0)
count_numbers [] = (refl, refl)
count_numbers (n ∷ ns) =
    let others = count_numbers ns in
    (omega (arith, count-cons is_no_bracket (number n) (map number ns), others.0), omega (arith, count-cons is_opening (number n) (map number ns), others.1))

numbers_first : (ns : List ℤ) → lists_from before 0 (map number ns) ≡ Err (fault_at BadInput 0)
numbers_first [] = refl
numbers_first (n ∷ ns) = refl

few_numbers : (ns : List ℤ) → length ns ≤ most_elements → are_too_many (map number ns) ≡ false
few_numbers ns few = rw (count_numbers ns).0 (rw (count_numbers ns).1 (grind (arith, nat_tests)))

pub flat_no_nest : (bytes : List ℕ) (ns : List ℤ) → input_of bytes ≡ Ok ns → nested_of bytes ≡ Err (fault_at BadInput 0)
flat_no_nest bytes ns e = by_case (nat_lt most_elements (length tokens)) refl e
  where
    tokens : List (List ℕ)
    tokens = tokens_by input_class bytes

    by_case : (many : Bool) → nat_lt most_elements (length tokens) ≡ many → fault_if many (fault TooLong) (values_from BadInput 0 (map written_number tokens)) ≡ Ok ns
        → nested_of bytes ≡ Err (fault_at BadInput 0)
    by_case true is e = cc
    by_case false is e =
        let are = all_written 0 tokens ns e in
        let alike = cut_alike bytes (subst (λ bs. list_all (λ b. not (is_bracket b)) bs ≡ true) (concat_tokens input_class bytes) are.1) in
        let marks : marks_of bytes ≡ map number ns = ap (map mark_of) alike ∙ are.0 in
        let as_many : length tokens ≡ length ns = sym (length-map tokens mark_of) ∙ ap length are.0 ∙ length-map ns number in
        let few : length ns ≤ most_elements = grind (arith, nat_tests, is, as_many) in
        rw marks (rw (few_numbers ns few, numbers_first ns) refl)
