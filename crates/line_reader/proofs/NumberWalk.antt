-- The number of a token's digits, read from the front. The walk ends where the number has grown too great.
use Rattle.line_reader.proofs.Cited.{◌≡◌, ℕ, zero, suc, ◌+◌, ◌-◌, ◌*◌, ◌^◌, ◌<◌, ◌≤◌, Bool, true, false, List, [], ◌∷◌, length, get_or, take, drop, refl, ap, sym, ◌∙◌, arith, Option, Some, None, ℤ}
use Rattle.line_reader.proofs.Cited.{◌≤ℤ◌, ◌<ℤ◌, pos, neg_ℤ, cond, nat_lt, FitsSigned, w32, option_and_then, if◌then◌else◌, ◌==◌, get_or-take, length-take-le, take_all, nat_tests, list_all}
use Rattle.line_reader.proofs.Cited.{take_while, prefix_len, is_ascii_digit, digit_value, digits_value, digits_value_after, AllPass-from_list_all, list_all-from_AllPass, prefix_len_is}
use Rattle.line_reader.proofs.Cited.{prefix_len_passes, take_while-cons, digits_value_more, and_parts}
use Rattle.std.specs.Int.{from_bool}
use Rattle.std.proofs.lemmas.List.Folds.{length-prefix_len, list_all_more}
use Rattle.line_reader.specs.Numbers.{magnitude_of, positive_of, negative_of, with_sign, written_number, signed_digits}

digit_value_is : (d : ℕ) → is_ascii_digit d ≡ true → digit_value d ≡ d - 48
digit_value_is d e = grind (arith, nat_tests)

grows : (n : ℕ) (digits : List ℕ) → n ≤ digits_value_after 10 n digits
grows n [] = omega arith
grows n (d ∷ digits) = omega (arith, grows (n * 10 + digit_value d) digits)

-- with one digit more
pub digits_more : (bytes : List ℕ) (i : ℕ) → i < length bytes → list_all is_ascii_digit (take i bytes) ≡ true → is_ascii_digit (get_or bytes i 0) ≡ true
    → list_all is_ascii_digit (take (i + 1) bytes) ≡ true
digits_more bytes i h so_far e = list_all_more is_ascii_digit bytes i 0 h ∙ rw (so_far, e) refl

pub value_more : (bytes : List ℕ) (i value : ℕ) → i < length bytes → value ≡ digits_value 10 (take i bytes) → is_ascii_digit (get_or bytes i 0) ≡ true
    → value * 10 + (get_or bytes i 0 - 48) ≡ digits_value 10 (take (i + 1) bytes)
value_more bytes i value h so_far e =
    rw (so_far, ← digit_value_is (get_or bytes i 0) e) (sym (digits_value_more 10 bytes i h))

-- the digits at the front are digits
pub all_digits : (bytes : List ℕ) → list_all is_ascii_digit (take_while is_ascii_digit bytes) ≡ true
all_digits bytes =
    list_all-from_AllPass is_ascii_digit (take_while is_ascii_digit bytes) (λ k d within.
    let below : k < prefix_len is_ascii_digit bytes = omega (arith, within, length-prefix_len is_ascii_digit bytes) in
    ap is_ascii_digit (get_or-take (prefix_len is_ascii_digit bytes) bytes k d below) ∙ prefix_len_passes is_ascii_digit bytes k d below)

-- some of them write no more than all
value_grows : (n : ℕ) (bytes : List ℕ) (count : ℕ) → list_all is_ascii_digit (take count bytes) ≡ true
    → digits_value_after 10 n (take count bytes) ≤ digits_value_after 10 n (take_while is_ascii_digit bytes)
value_grows n bytes zero all = grows n (take_while is_ascii_digit bytes)
value_grows n [] (suc count) all = omega arith
value_grows n (b ∷ bs) (suc count) all =
    let parts = and_parts (is_ascii_digit b) (list_all is_ascii_digit (take count bs)) all in
    let front_is = take_while-cons is_ascii_digit b bs ∙ ap (λ d. cond d (b ∷ take_while is_ascii_digit bs) []) parts.0 in
    rw front_is (value_grows (n * 10 + digit_value b) bs count parts.1)

-- the integer of 32 bits with this sign and magnitude
abbrev pub fit : Bool → ℕ → Option ℤ
fit true m = negative_of m
fit false m = positive_of m

too_great : (sign : Bool) (m : ℕ) → 2 ^ 31 < m → fit sign m ≡ None
too_great sign m h = grind (arith, nat_tests)

-- digits after a sign, or without one
pub sign_read : (sign : Bool) (digits : List ℕ) → 0 < length digits → list_all is_ascii_digit digits ≡ true → with_sign sign digits digits ≡ fit sign (digits_value 10 digits)
sign_read sign [] some all = absurd (omega arith)
sign_read true (d ∷ ds) some all = rw all refl
sign_read false (d ∷ ds) some all = rw all refl

some_digit : (digits : List ℕ) → 0 < digits_value 10 digits → 0 < length digits
some_digit [] h = absurd (omega arith)
some_digit (d ∷ ds) h = omega arith

-- all the digits at the front, where a walk over the first of them found this magnitude and went on while it was no greater than 2^31
pub digits_read : (sign : Bool) (digits : List ℕ) (count magnitude : ℕ) → 0 < count → count ≤ length digits → list_all is_ascii_digit (take count digits) ≡ true
    → magnitude ≡ digits_value 10 (take count digits) → (magnitude ≤ 2 ^ 31 → count ≡ prefix_len is_ascii_digit digits)
    → with_sign sign (take_while is_ascii_digit digits) (take_while is_ascii_digit digits) ≡ fit sign magnitude
digits_read sign digits count magnitude some within all value whole = by (nat_lt (2 ^ 31) magnitude) refl
  where
    front : List ℕ
    front = take_while is_ascii_digit digits

    by : (great : Bool) → nat_lt (2 ^ 31) magnitude ≡ great → with_sign sign front front ≡ fit sign magnitude
    by false e =
        let front_is : take count digits ≡ front = ap (λ (k : ℕ). take k digits) (whole (grind arith)) in
        ap (λ (ds : List ℕ). with_sign sign ds ds) (sym front_is) ∙ sign_read sign (take count digits) (rw length-take-le some) all ∙ ap (fit sign) (sym value)
    by true e =
        let great : 2 ^ 31 < magnitude = grind arith in
        let more : 2 ^ 31 < digits_value 10 front = omega (arith, value, value_grows 0 digits count all) in
        sign_read sign front (some_digit front (omega arith)) (all_digits digits) ∙ too_great sign _ more ∙ sym (too_great sign magnitude great)

unsigned_read : (digit : Bool) (b : ℕ) (digits : List ℕ) → (b == 45) ≡ false
    → written_number (cond digit (b ∷ digits) []) ≡ with_sign false (cond digit (b ∷ digits) []) (cond digit (b ∷ digits) [])
unsigned_read true b digits e = rw e refl
unsigned_read false b digits e = refl

-- the front with its sign, by the digits after the sign
signed_read_at : (first : ℕ) (others : List ℕ) (sign : Bool) → sign ≡ (first == 45)
    → written_number (signed_digits (first ∷ others))
    ≡ with_sign sign (take_while is_ascii_digit (drop (from_bool sign) (first ∷ others))) (take_while is_ascii_digit (drop (from_bool sign) (first ∷ others)))
signed_read_at first others true e = rw (← e, ← e) refl
signed_read_at first others false e =
    rw (← e, take_while-cons is_ascii_digit first others) (unsigned_read (is_ascii_digit first) first (take_while is_ascii_digit others) (sym e))

signed_front_at : (first : ℕ) (others : List ℕ) (sign : Bool) (count : ℕ) → sign ≡ (first == 45)
    → count ≡ prefix_len is_ascii_digit (drop (from_bool sign) (first ∷ others)) → take (from_bool sign + count) (first ∷ others) ≡ signed_digits (first ∷ others)
signed_front_at first others true count e whole =
    let one_more : 1 + count ≡ suc count = omega arith in
    rw (← e) (ap (λ (k : ℕ). take k (first ∷ others)) one_more ∙ ap (λ (k : ℕ). first ∷ take k others) whole)
signed_front_at first others false count e whole =
    let no_more : 0 + count ≡ count = omega arith in
    rw (← e) (ap (λ (k : ℕ). take k (first ∷ others)) (no_more ∙ whole))

-- an integer by its sign and magnitude
pub fits : (sign : Bool) (m : ℕ) (n : ℤ) → n ≡ (if sign then neg_ℤ (pos m) else pos m) → neg_ℤ (pos (2 ^ 31)) ≤ℤ n → n <ℤ pos (2 ^ 31) → fit sign m ≡ Some n
fits sign m n e low high = grind (arith, nat_tests)

pub unfit_outside : (sign : Bool) (m : ℕ) (n : ℤ) → n ≡ (if sign then neg_ℤ (pos m) else pos m) → ¬ (FitsSigned w32 n) → fit sign m ≡ None
unfit_outside sign m n e outside = grind (arith, nat_tests)

pub within_32 : (sign : Bool) (m : ℕ) (n : ℤ) → n ≡ (if sign then neg_ℤ (pos m) else pos m) → neg_ℤ (pos (2 ^ 31)) ≤ℤ n → n <ℤ pos (2 ^ 31) → m ≤ 2 ^ 31
within_32 sign m n e low high = grind arith

-- the bytes' first one is split off, and the digits stand after the sign
abbrev pub IsSplit : List ℕ → ℕ → List ℕ → Bool → ℕ → List ℕ → Type 0
IsSplit bytes first others sign sign_length digits =
    (bytes ≡ first ∷ others) × (sign ≡ (first == 45)) × (sign_length ≡ from_bool sign) × (digits ≡ drop sign_length bytes)

digits_are : (bytes : List ℕ) (first : ℕ) (others : List ℕ) (sign : Bool) (sign_length : ℕ) (digits : List ℕ) → IsSplit bytes first others sign sign_length digits
    → digits ≡ drop (from_bool sign) (first ∷ others)
digits_are bytes first others sign sign_length digits (same, minus, len, is) = is ∙ ap (λ (k : ℕ). drop k bytes) len ∙ ap (drop (from_bool sign)) same

pub signed_read : (bytes : List ℕ) (first : ℕ) (others : List ℕ) (sign : Bool) (sign_length : ℕ) (digits : List ℕ) → IsSplit bytes first others sign sign_length digits
    → written_number (signed_digits bytes) ≡ with_sign sign (take_while is_ascii_digit digits) (take_while is_ascii_digit digits)
signed_read bytes first others sign sign_length digits (same, minus, len, is) =
    ap (λ (bs : List ℕ). written_number (signed_digits bs)) same ∙ signed_read_at first others sign minus
    ∙ ap (λ (ds : List ℕ). with_sign sign (take_while is_ascii_digit ds) (take_while is_ascii_digit ds))
    (sym (digits_are bytes first others sign sign_length digits (same, minus, len, is)))

pub signed_front : (bytes : List ℕ) (first : ℕ) (others : List ℕ) (sign : Bool) (sign_length : ℕ) (digits : List ℕ) (count : ℕ)
    → IsSplit bytes first others sign sign_length digits → count ≡ prefix_len is_ascii_digit digits → take (sign_length + count) bytes ≡ signed_digits bytes
signed_front bytes first others sign sign_length digits count (same, minus, len, is) whole =
    let digits_is = digits_are bytes first others sign sign_length digits (same, minus, len, is) in
    ap (λ (k : ℕ). take (k + count) bytes) len ∙ ap (take (from_bool sign + count)) same
    ∙ signed_front_at first others sign count minus (whole ∙ ap (prefix_len is_ascii_digit) digits_is) ∙ ap signed_digits (sym same)

some_where : (b : Bool) (v : ℕ) (f : ℕ → Option ℤ) (n : ℤ) → option_and_then f (if b then Some v else None) ≡ Some n → b ≡ true
some_where true v f n e = refl
some_where false v f n e = cc

-- what has a magnitude is digits
pub magnitude_digits : (digits : List ℕ) (f : ℕ → Option ℤ) (n : ℤ) → option_and_then f (magnitude_of digits) ≡ Some n → list_all is_ascii_digit digits ≡ true
magnitude_digits [] f n e = refl
magnitude_digits (d ∷ ds) f n e = some_where (list_all is_ascii_digit (d ∷ ds)) (digits_value 10 (d ∷ ds)) f n e

front_of_digits : (digits : List ℕ) → list_all is_ascii_digit digits ≡ true → take_while is_ascii_digit digits ≡ digits
front_of_digits digits all =
    let whole = prefix_len_is is_ascii_digit digits (length digits) 0 (omega arith) (λ k within. AllPass-from_list_all is_ascii_digit digits all k 0 within) (λ past. absurd (omega arith)) in
    take_all (prefix_len is_ascii_digit digits) digits (omega (arith, whole))

signed_whole : (sign : Bool) (b : ℕ) (bs : List ℕ) (n : ℤ) → sign ≡ (b == 45) → with_sign sign (b ∷ bs) bs ≡ Some n → signed_digits (b ∷ bs) ≡ b ∷ bs
signed_whole true b bs n minus e = rw (← minus) (ap (λ (others : List ℕ). b ∷ others) (front_of_digits bs (magnitude_digits bs negative_of n e)))
signed_whole false b bs n minus e = rw (← minus) (front_of_digits (b ∷ bs) (magnitude_digits (b ∷ bs) positive_of n e))

-- a number is its sign and its leading digits, and nothing else
number_whole : (token : List ℕ) (n : ℤ) → written_number token ≡ Some n → signed_digits token ≡ token
number_whole [] n e = refl
number_whole (b ∷ bs) n e = signed_whole (b == 45) b bs n refl e

-- no number without one at the front
pub none_at_front : (token : List ℕ) → written_number (signed_digits token) ≡ None → written_number token ≡ None
none_at_front token none = by (written_number token) refl
  where
    by : (found : Option ℤ) → written_number token ≡ found → found ≡ None
    by None e = refl
    by (Some n) e =
        let never : None ≡ Some n = sym none ∙ ap written_number (number_whole token n e) ∙ e in
        cc

-- no number with bytes after the one at the front
pub none_with_more : (token : List ℕ) (k : ℕ) → k < length token → take k token ≡ signed_digits token → written_number token ≡ None
none_with_more token k more front = by (written_number token) refl
  where
    by : (found : Option ℤ) → written_number token ≡ found → found ≡ None
    by None e = refl
    by (Some n) e = absurd (omega (arith, ap length (front ∙ number_whole token n e), length-take-le k token (omega arith)))
