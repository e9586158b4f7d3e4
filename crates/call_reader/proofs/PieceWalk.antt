-- An input in two pieces: its tokens are those of the pieces, and the first wrong one of all is the first of the pieces' first ones.
use Rattle.call_reader.proofs.Cited.{rules, ◌≡◌, ℕ, ◌+◌, ◌<◌, ◌≤◌, false, List, [], ◌∷◌, ◌++◌, length, map, refl, ◌∙◌, arith, Option, Some, None, Ok, Err, ℤ, Result, nat_lt, nat_tests}
use Rattle.call_reader.proofs.Cited.{most_elements, option_or, length-map, map-append, Fault, BadInput, TooLong, values_from, fault, fault_at, fault_if, tokens_by, begins_in_token, written_number}
use Rattle.call_reader.proofs.Cited.{cut_before, first_without, input_class, input_of, numbers_of, or_zero}
use Rattle.fresh.proofs.FirstWithout.{first_of_both}

-- the numbers of two texts, where no token has a part in both, are those of the one and then those of the other
pub numbers_of_both : (front back : List ℕ) → begins_in_token input_class back ≡ false → numbers_of (front ++ back) ≡ numbers_of front ++ numbers_of back
numbers_of_both front back ends = cc (cut_before input_class front back ends, map-append written_number (tokens_by input_class front) (tokens_by input_class back))

counted : (bytes : List ℕ) → length (map or_zero (numbers_of bytes)) ≡ length (tokens_by input_class bytes)
counted bytes = length-map (numbers_of bytes) or_zero ∙ length-map (tokens_by input_class bytes) written_number

-- all numbers, where no token is wrong, and else the fault at the first that is
abbrev pub answer_of : Option ℕ → List ℤ → Result (List ℤ) Fault
answer_of None numbers = Ok numbers
answer_of (Some place) numbers = Err (fault_at BadInput place)

pub answered : (place : ℕ) (vs : List (Option ℤ)) → values_from BadInput place vs ≡ answer_of (first_without place vs) (map or_zero vs)
answered place [] = refl
answered place (None ∷ vs) = refl
answered place (Some n ∷ vs) = search (rules, answered (place + 1) vs)

pub wrong_within : (place w : ℕ) (vs : List (Option ℤ)) → first_without place vs ≡ Some w → w < place + length vs
wrong_within place w [] e = cc
wrong_within place w (None ∷ vs) e = grind arith
wrong_within place w (Some n ∷ vs) e = omega (arith, wrong_within (place + 1) w vs e)

pub too_many : (n : ℕ) (rest : Result (List ℤ) Fault) → most_elements < n → fault_if (nat_lt most_elements n) (fault TooLong) rest ≡ Err (fault TooLong)
too_many n rest more = grind (arith, nat_tests)

pub few_enough : (n : ℕ) (rest : Result (List ℤ) Fault) → n ≤ most_elements → fault_if (nat_lt most_elements n) (fault TooLong) rest ≡ rest
few_enough n rest few = grind (arith, nat_tests)

-- what is written for the numbers of two texts, where no token has a part in both, and the first that is wrong among them
pub items_cut : (front others bytes : List ℕ) → front ++ others ≡ bytes → begins_in_token input_class others ≡ false
    → map or_zero (numbers_of front) ++ map or_zero (numbers_of others) ≡ map or_zero (numbers_of bytes)
items_cut front others bytes whole ends = cc (map-append or_zero (numbers_of front) (numbers_of others), numbers_of_both front others ends, whole)

pub found_cut : (front others bytes : List ℕ) (first : ℕ) → front ++ others ≡ bytes → begins_in_token input_class others ≡ false
    → option_or (first_without first (numbers_of front)) (first_without (first + length (map or_zero (numbers_of front))) (numbers_of others)) ≡ first_without first (numbers_of bytes)
found_cut front others bytes first whole ends = cc (length-map (numbers_of front) or_zero, first_of_both first (numbers_of front) (numbers_of others), numbers_of_both front others ends, whole)

-- an input of which all numbers are written, and the first wrong one is found
pub input_is : (bytes : List ℕ) → length (map or_zero (numbers_of bytes)) ≤ most_elements
    → input_of bytes ≡ answer_of (first_without 0 (numbers_of bytes)) (map or_zero (numbers_of bytes))
input_is bytes few = few_enough (length (tokens_by input_class bytes)) (values_from BadInput 0 (numbers_of bytes)) (omega (arith, few, counted bytes)) ∙ answered 0 (numbers_of bytes)

pub input_too_long : (bytes : List ℕ) → most_elements < length (map or_zero (numbers_of bytes)) → input_of bytes ≡ Err (fault TooLong)
input_too_long bytes many = too_many (length (tokens_by input_class bytes)) (values_from BadInput 0 (numbers_of bytes)) (omega (arith, many, counted bytes))
