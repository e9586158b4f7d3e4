-- An input, read from the front: how many tokens there are, and the numbers so far.
use Rattle.call_reader.proofs.Cited.{rules, ◌≡◌, ℕ, ◌+◌, ◌*◌, ◌<◌, ◌≤◌, Bool, true, false, ◌&&◌, List, [], ◌∷◌, length, map, get_or, take, drop, refl, ap, sym, ◌∙◌, arith, Some, ℤ, from_bool}
use Rattle.call_reader.proofs.Cited.{Result, if◌then◌else◌, not, ◌==◌, list_all, is_ascii_digit, nat_tests, at_drop_more, take-append-drop, Fault, BadInput, values_from, ByteClass, Blank, InToken}
use Rattle.call_reader.proofs.Cited.{tokens_by, with_byte, is_in_token, begins_in_token, positive_of, negative_of, with_sign, written_number, run_first, some_tokens, magnitude_digits}
use Rattle.call_reader.proofs.Cited.{is_white_space, input_class, goes_on, and_parts}

pub at_most_one : (one : ℕ) (b : Bool) → one ≡ from_bool b → one ≤ 1
at_most_one one true e = omega arith
at_most_one one false e = omega arith

abbrev pub count_of : List ℕ → ℕ
count_of bytes = length (tokens_by input_class bytes)

-- a run counts at its first byte
count_at : (count total b : ℕ) (behind_white_space white runs_on : Bool) (tokens : List (List ℕ)) → (runs_on ≡ true → 1 ≤ length tokens)
    → count + length (with_byte (if white then Blank else InToken) runs_on b tokens)
    ≡ total + from_bool (not behind_white_space && is_in_token (if white then Blank else InToken))
    → (count + from_bool (behind_white_space && not white)) + length tokens ≡ total + from_bool (not white && runs_on)
count_at count total b true true runs_on tokens some so_far = omega arith
count_at count total b behind_white_space false true [] some so_far = absurd (omega (arith, some refl))
count_at count total b behind_white_space white runs_on tokens some so_far = omega arith

-- the count with one byte more
pub count_more : (bytes : List ℕ) (i count total one : ℕ) (behind_white_space white : Bool) → i < length bytes
    → count + count_of (drop i bytes) ≡ total + from_bool (goes_on behind_white_space (drop i bytes))
    → one ≡ from_bool (behind_white_space && not white) → white ≡ is_white_space (get_or bytes i 0)
    → (count + one) + count_of (drop (i + 1) bytes) ≡ total + from_bool (goes_on white (drop (i + 1) bytes))
count_more bytes i count total one behind_white_space white h so_far one_is white_is =
    let b = get_or bytes i 0 in
    let bs = drop (i + 1) bytes in
    rw (one_is, white_is) (count_at count total b behind_white_space (is_white_space b) (begins_in_token input_class bs) (tokens_by input_class bs) (some_tokens input_class bs)
    (sym (at_drop_more (λ bs. count + count_of bs) bytes i 0 h) ∙ so_far ∙ at_drop_more (λ bs. total + from_bool (goes_on behind_white_space bs)) bytes i 0 h))

room_at : (white runs_on : Bool) (b : ℕ) (tokens : List (List ℕ)) (len : ℕ) → (runs_on ≡ true → 1 ≤ length tokens) → 2 * length tokens ≤ len + from_bool runs_on
    → 2 * length (with_byte (if white then Blank else InToken) runs_on b tokens) ≤ (len + 1) + from_bool (is_in_token (if white then Blank else InToken))
room_at true true b tokens len some h = omega arith
room_at false true b [] len some h = absurd (omega (arith, some refl))
room_at white runs_on b tokens len some h = omega arith

room_for_run : (bytes : List ℕ) → 2 * count_of bytes ≤ length bytes + from_bool (begins_in_token input_class bytes)
room_for_run [] = omega arith
room_for_run (b ∷ bs) =
    let more = room_at (is_white_space b) (begins_in_token input_class bs) b (tokens_by input_class bs) (length bs) (some_tokens input_class bs) (room_for_run bs) in
    omega (arith, more)

-- there is white space between tokens
pub room_for_tokens : (bytes : List ℕ) → 2 * count_of bytes ≤ length bytes + 1
room_for_tokens bytes = search (rules, at_most_one, room_for_run)

-- the numbers of the tokens, of which the first stands at the place given
abbrev pub numbers_from : ℕ → List (List ℕ) → Result (List ℤ) Fault
numbers_from place tokens = values_from BadInput place (map written_number tokens)

-- a class at which the bytes of a number are part of a run
module _ (class_of : ℕ → ByteClass) (digit_is_part : (b : ℕ) → is_ascii_digit b ≡ true → is_in_token (class_of b) ≡ true) (sign_is_part : is_in_token (class_of 45) ≡ true) where
  digits_are_part : (digits : List ℕ) → list_all is_ascii_digit digits ≡ true → list_all (λ b. is_in_token (class_of b)) digits ≡ true
  digits_are_part [] all = refl
  digits_are_part (d ∷ ds) all =
      let parts = and_parts (is_ascii_digit d) (list_all is_ascii_digit ds) all in
      rw (digit_is_part d parts.0) (digits_are_part ds parts.1)

  signed_run : (sign : Bool) (b : ℕ) (bs : List ℕ) (n : ℤ) → (sign ≡ true → b ≡ 45) → with_sign sign (b ∷ bs) bs ≡ Some n
      → list_all (λ b. is_in_token (class_of b)) (b ∷ bs) ≡ true
  signed_run true b bs n minus e = rw (minus refl, sign_is_part) (digits_are_part bs (magnitude_digits bs negative_of n e))
  signed_run false b bs n minus e = digits_are_part (b ∷ bs) (magnitude_digits (b ∷ bs) positive_of n e)

  -- a number is a run, and it has a byte
  number_is_run : (token : List ℕ) (n : ℤ) → written_number token ≡ Some n → (list_all (λ b. is_in_token (class_of b)) token ≡ true) × (0 < length token)
  number_is_run [] n e = cc
  number_is_run (b ∷ bs) n e = (signed_run (b == 45) b bs n (λ h. grind (arith, nat_tests)) e, omega arith)

  -- a number with no part of a run after it is the first token
  pub number_leads : (bytes : List ℕ) (k : ℕ) (n : ℤ) → written_number (take k bytes) ≡ Some n → begins_in_token class_of (drop k bytes) ≡ false
      → tokens_by class_of bytes ≡ take k bytes ∷ tokens_by class_of (drop k bytes)
  number_leads bytes k n e ends =
      let run = number_is_run (take k bytes) n e in
      ap (tokens_by class_of) (sym (take-append-drop k bytes)) ∙ run_first class_of (take k bytes) (drop k bytes) run.0 run.1 ends

digit_in_input : (b : ℕ) → is_ascii_digit b ≡ true → is_in_token (input_class b) ≡ true
digit_in_input b e = grind (arith, nat_tests)

pub number_first : (bytes : List ℕ) (k : ℕ) (n : ℤ) → written_number (take k bytes) ≡ Some n → begins_in_token input_class (drop k bytes) ≡ false
    → tokens_by input_class bytes ≡ take k bytes ∷ tokens_by input_class (drop k bytes)
number_first = number_leads input_class digit_in_input refl
