-- Sixteen bytes as lanes: how many digits they begin with, and the lanes moved towards the end.
use Rattle.line_reader.proofs.Cited.{◌≡◌, ℕ, zero, suc, ◌+◌, ◌-◌, ◌*◌, ◌^◌, ◌/◌, ◌%◌, ◌<◌, ◌≤◌, Bool, true, not, get_or, Fits, nat_lt, nat_le, List, [], ◌∷◌, ◌++◌, length, take, map, replicate}
use Rattle.line_reader.proofs.Cited.{refl, ap, sym, subst, ◌∙◌, arith, cond, w8, nat_tests, agree_below_at, and_parts, tops_compared, zip2_splat, zip2_splat_left, mask_l-mod, leading_from_mask_l}
use Rattle.line_reader.proofs.Cited.{trailing_mask_l, get_or-take, length-take-le, take-take, prefix_len_is, prefix_len_passes, prefix_len_stops, number_lt, digits_value_is, number_from_digits}
use Rattle.line_reader.proofs.Cited.{AllBelowBase, pow-add, prefix_len, list_all, is_ascii_digit, digit_value, digits_value, Each1, zip2, mask_l, top, number_l, digits_l}
use Rattle.std.proofs.lemmas.List.{get_or-map, length-map, take-map}
use Rattle.std.proofs.Math.Nat.{pow-succ', pow-le-pow_right}
use Rattle.line_reader.proofs.NumberWalk.{all_digits}
use lib.Count.{count_trailing_zeros}

-- the first bytes of a number, from the lowest
pub digits_front : (n : ℕ) (xs : List ℕ) → Each1 (λ x. x < 256) xs → n ≤ length xs → digits_l 256 n (number_l 256 xs) ≡ take n xs
digits_front zero xs below h = refl
digits_front (suc n) [] below h = absurd (omega arith)
digits_front (suc n) (x ∷ xs) below h =
    let low : (x + 256 * number_l 256 xs) % 256 ≡ x = omega (arith, below.0) in
    let high : (x + 256 * number_l 256 xs) / 256 ≡ number_l 256 xs = omega (arith, below.0) in
    rw (low, high) (ap (λ (r : List ℕ). x ∷ r) (digits_front n xs below.1 (omega arith)))

-- what is a multiple of 256 ^ n is in none of the n lowest bytes
digits_below : (n z k : ℕ) → digits_l 256 n (z + k * 256 ^ n) ≡ digits_l 256 n z
digits_below zero z k = refl
digits_below (suc n) z k =
    let shape : z + k * 256 ^ suc n ≡ z + 256 * (k * 256 ^ n) = ap (λ (p : ℕ). z + k * p) (pow-succ' 256 n) ∙ omega arith in
    let low : (z + 256 * (k * 256 ^ n)) % 256 ≡ z % 256 = omega arith in
    let high : (z + 256 * (k * 256 ^ n)) / 256 ≡ z / 256 + k * 256 ^ n = omega arith in
    rw (shape, low, high) (ap (λ (r : List ℕ). (z % 256) ∷ r) (digits_below n (z / 256) k))

-- a number times 256 ^ j has j zeros as its lowest bytes
zeros_first : (j n z : ℕ) → digits_l 256 (j + n) (z * 256 ^ j) ≡ replicate j 0 ++ digits_l 256 n z
zeros_first zero n z =
    let none : z * 256 ^ 0 ≡ z = omega arith in
    let all : 0 + n ≡ n = omega arith in
    rw (all, none) refl
zeros_first (suc j) n z =
    let shape : z * 256 ^ suc j ≡ 256 * (z * 256 ^ j) = ap (λ (p : ℕ). z * p) (pow-succ' 256 j) ∙ omega arith in
    let more : suc j + n ≡ suc (j + n) = omega arith in
    let low : 256 * (z * 256 ^ j) % 256 ≡ 0 = omega arith in
    let high : 256 * (z * 256 ^ j) / 256 ≡ z * 256 ^ j = omega arith in
    rw (more, shape, low, high) (ap (λ (r : List ℕ). 0 ∷ r) (zeros_first j n z))

bytes_lt : (xs : List ℕ) → Each1 (λ x. x < 256) xs → number_l 256 xs < 256 ^ length xs
bytes_lt [] below = omega arith
bytes_lt (x ∷ xs) below = omega (arith, below.0, bytes_lt xs below.1, pow-succ' 256 (length xs))

bytes_up : (j : ℕ) → 2 ^ (8 * j) ≡ 256 ^ j
bytes_up zero = refl
bytes_up (suc j) =
    let shape : 8 * suc j ≡ 8 + 8 * j = omega arith in
    rw shape (omega (arith, bytes_up j, pow-add 2 8 (8 * j), pow-succ' 256 j))

-- sixteen lanes as one number, multiplied by 256 ^ j, are that many places later
pub moved_by : (xs : List ℕ) (j number : ℕ) → length xs ≡ 16 → Each1 (λ x. x < 256) xs → j < 16 → number ≡ number_l 256 xs * 2 ^ (8 * j) % 2 ^ 128
    → digits_l 256 16 number ≡ replicate j 0 ++ take (16 - j) xs
moved_by xs j number long below h e =
    let product = number_l 256 xs * 256 ^ j in
    let number_is : number ≡ product % 2 ^ 128 = e ∙ ap (λ (p : ℕ). number_l 256 xs * p % 2 ^ 128) (bytes_up j) in
    let whole : number + product / 2 ^ 128 * 256 ^ 16 ≡ product = omega (arith, number_is) in
    let lanes : j + (16 - j) ≡ 16 = omega arith in
    sym (digits_below 16 number (product / 2 ^ 128)) ∙ ap (digits_l 256 16) whole ∙ ap (λ (n : ℕ). digits_l 256 n product) (sym lanes)
    ∙ zeros_first j (16 - j) (number_l 256 xs) ∙ ap (λ (r : List ℕ). replicate j 0 ++ r) (digits_front (16 - j) xs below (omega (arith, long)))

-- and both halves of it
pub joined_halves : (xs : List ℕ) (low high : ℕ) → length xs ≡ 16 → Each1 (λ x. x < 256) xs → low ≡ number_l 256 xs % 2 ^ 64 → high ≡ number_l 256 xs / 2 ^ 64 % 2 ^ 64
    → high * 2 ^ 64 % 2 ^ 128 + low ≡ number_l 256 xs
joined_halves xs low high long below l h =
    let bound : number_l 256 xs < 256 ^ 16 = subst (λ (n : ℕ). number_l 256 xs < 256 ^ n) long (bytes_lt xs below) in
    omega (arith, l, h, bound)

-- which lanes are 10 or more, as a mask
abbrev pub others : List ℕ → ℕ
others xs = mask_l (map (top 7) (zip2 (λ a b. cond (nat_le a b) 255 0) (replicate 16 10) xs)) % 2 ^ 64

others_are : (xs : List ℕ) → length xs ≡ 16 → others xs ≡ mask_l (map (nat_le 10) xs)
others_are xs long =
    let compared = tops_compared w8 nat_le (replicate 16 10) xs ∙ zip2_splat_left nat_le 10 16 xs long in
    ap (λ (ms : List Bool). mask_l ms % 2 ^ 64) compared ∙ mask_l-mod (map (nat_le 10) xs) 64 (omega (arith, length-map xs (nat_le 10), long))

below_ten : (x : ℕ) → not (nat_le 10 x) ≡ nat_lt x 10
below_ten x = grind (arith, nat_tests)

run_is : (xs : List ℕ) → prefix_len (λ x. not (nat_le 10 x)) xs ≡ prefix_len (λ x. nat_lt x 10) xs
run_is xs = λ i. prefix_len (λ x. below_ten x i) xs

pub run_of_all : (xs : List ℕ) → length xs ≡ 16 → others xs ≡ 0 → 16 ≡ prefix_len (λ x. nat_lt x 10) xs
run_of_all xs long none = sym (sym (run_is xs) ∙ leading_from_mask_l (nat_le 10) xs (sym (others_are xs long) ∙ none) ∙ long)

pub run_of_some : (xs : List ℕ) → length xs ≡ 16 → ¬ (others xs ≡ 0) → count_trailing_zeros 64 (others xs) ≡ prefix_len (λ x. nat_lt x 10) xs
run_of_some xs long some =
    let same = others_are xs long in
    let positive : 0 < mask_l (map (nat_le 10) xs) = omega (arith, same, some) in
    ap (count_trailing_zeros 64) same ∙ trailing_mask_l (nat_le 10) 64 xs (omega (arith, long)) positive ∙ run_is xs

below_taken : (b n : ℕ) (ds : List ℕ) → AllBelowBase b ds → AllBelowBase b (take n ds)
below_taken b zero ds all = tt
below_taken b (suc n) [] all = tt
below_taken b (suc n) (d ∷ ds) all = (all.0, below_taken b n ds all.1)

-- fewer than sixteen digits write a number below 10 ^ 15
small_number : (ds : List ℕ) → AllBelowBase 10 ds → length ds < 16 → number_from_digits 10 ds < 10 ^ 15
small_number ds all few =
    let short : length ds ≤ 15 = omega arith in
    let more : 10 ^ length ds ≤ 10 ^ 15 = pow-le-pow_right (omega arith) short in
    omega (arith, number_lt 10 ds all, more)

pub few_small : (n : ℕ) (ds : List ℕ) → AllBelowBase 10 ds → n < 16 → n ≤ length ds → number_from_digits 10 (take n ds) < 10 ^ 15
few_small n ds all few within = small_number (take n ds) (below_taken 10 n ds all) (omega (arith, length-take-le n ds within))

-- ---- bytes whose lanes are their distances above `0` (48)
abbrev above_zero : ℕ → ℕ
above_zero b = (b + (256 - 48)) % 256

distances : (xs : List ℕ) → length xs ≡ 16 → zip2 (λ a b. (a + (256 - b)) % 256) xs (replicate 16 48) ≡ map above_zero xs
distances xs long = zip2_splat (λ a b. (a + (256 - b)) % 256) xs 16 48 long

lane_of : (b : ℕ) → b < 256 → nat_lt (above_zero b) 10 ≡ is_ascii_digit b
lane_of b small = agree_below_at (λ b. nat_lt (above_zero b) 10) is_ascii_digit 256 b refl small

-- fewer than sixteen lanes are below 10, and these are the digits that the bytes begin with
run_read : (bytes : List ℕ) (count : ℕ) → 16 ≤ length bytes → ((i : ℕ) → Fits w8 (get_or bytes i 0))
    → count ≡ prefix_len (λ lane. nat_lt lane 10) (map above_zero (take 16 bytes)) → count < 16 → count ≡ prefix_len is_ascii_digit bytes
run_read bytes count room fits found few =
    let lanes = map above_zero (take 16 bytes) in
    let long : length (take 16 bytes) ≡ 16 = length-take-le 16 bytes room in
    let lane : (k : ℕ) → k < 16 → nat_lt (get_or lanes k 0) 10 ≡ is_ascii_digit (get_or bytes k 0) = λ k low.
    ap (λ x. nat_lt x 10) (get_or-map above_zero (take 16 bytes) k 0 0 (omega arith) ∙ ap above_zero (get_or-take 16 bytes k 0 low)) ∙ lane_of (get_or bytes k 0) (fits k).fits in
    sym (prefix_len_is is_ascii_digit bytes count 0 (omega arith)
    (λ k low. sym (lane k (omega arith)) ∙ prefix_len_passes (λ x. nat_lt x 10) lanes k 0 (omega arith))
    (λ _. sym (lane count few) ∙ ap (λ k. nat_lt (get_or lanes k 0) 10) found ∙ prefix_len_stops (λ x. nat_lt x 10) lanes 0 (omega (arith, length-map (take 16 bytes) above_zero))))

-- the lanes of digits are their values
values_are : (ds : List ℕ) → list_all is_ascii_digit ds ≡ true → map above_zero ds ≡ map digit_value ds
values_are [] all = refl
values_are (d ∷ ds) all =
    let parts = and_parts (is_ascii_digit d) (list_all is_ascii_digit ds) all in
    let first : above_zero d ≡ digit_value d = grind (arith, nat_tests, parts.0) in
    rw first (ap (λ (r : List ℕ). digit_value d ∷ r) (values_are ds parts.1))

values_below : (ds : List ℕ) → list_all is_ascii_digit ds ≡ true → AllBelowBase 10 (map above_zero ds)
values_below [] all = tt
values_below (d ∷ ds) all =
    let parts = and_parts (is_ascii_digit d) (list_all is_ascii_digit ds) all in
    (grind (arith, nat_tests, parts.0), values_below ds parts.1)

zeros_below : (j : ℕ) (ds : List ℕ) → AllBelowBase 10 ds → AllBelowBase 10 (replicate j 0 ++ ds)
zeros_below zero ds all = all
zeros_below (suc j) ds all = (omega arith, zeros_below j ds all)

zeros_number : (j : ℕ) (ds : List ℕ) → number_from_digits 10 (replicate j 0 ++ ds) ≡ number_from_digits 10 ds
zeros_number zero ds = refl
zeros_number (suc j) ds = zeros_number j ds

-- the digits that the bytes begin with, after so many zeros that there are sixteen lanes
moved_digits : (bytes : List ℕ) (count : ℕ) (moved : List ℕ) → count < 16
    → moved ≡ replicate (16 - count) 0 ++ take (16 - (16 - count)) (map above_zero (take 16 bytes)) → moved ≡ replicate (16 - count) 0 ++ map above_zero (take count bytes)
moved_digits bytes count moved few is =
    let back : 16 - (16 - count) ≡ count = omega arith in
    is ∙ ap (λ (n : ℕ). replicate (16 - count) 0 ++ take n (map above_zero (take 16 bytes))) back
    ∙ ap (λ (ds : List ℕ). replicate (16 - count) 0 ++ ds) (take-map above_zero count (take 16 bytes) ∙ ap (map above_zero) (take-take count 16 bytes (omega arith)))

value_of : (ds : List ℕ) → list_all is_ascii_digit ds ≡ true → number_from_digits 10 (map above_zero ds) ≡ digits_value 10 ds
value_of ds all = ap (number_from_digits 10) (values_are ds all) ∙ sym (digits_value_is 10 ds)

abbrev distances_of : List ℕ → List ℕ
distances_of bytes = zip2 (λ a b. (a + (256 - b)) % 256) (take 16 bytes) (replicate 16 48)

-- what the lanes' run and the lanes moved towards the end say of the bytes
pub record IsRead (bytes : List ℕ) (count : ℕ) (moved : List ℕ) : Type 0 where
  pub whole : count ≡ prefix_len is_ascii_digit bytes
  pub digits : list_all is_ascii_digit (take count bytes) ≡ true
  pub below : AllBelowBase 10 moved
  pub value : number_from_digits 10 moved ≡ digits_value 10 (take count bytes)
  pub small : digits_value 10 (take count bytes) < 10 ^ 15

pub lanes_read : (bytes : List ℕ) (count : ℕ) (moved : List ℕ) → 16 ≤ length bytes → ((i : ℕ) → Fits w8 (get_or bytes i 0))
    → count ≡ prefix_len (λ lane. nat_lt lane 10) (distances_of bytes) → count < 16 → moved ≡ replicate (16 - count) 0 ++ take (16 - (16 - count)) (distances_of bytes)
    → IsRead bytes count moved
lanes_read bytes count moved room fits found few is =
    let lanes = distances (take 16 bytes) (length-take-le 16 bytes room) in
    let whole = run_read bytes count room fits (found ∙ ap (prefix_len (λ lane. nat_lt lane 10)) lanes) few in
    let digits = ap (λ (n : ℕ). list_all is_ascii_digit (take n bytes)) whole ∙ all_digits bytes in
    let zeros = moved_digits bytes count moved few (is ∙ ap (λ (ls : List ℕ). replicate (16 - count) 0 ++ take (16 - (16 - count)) ls) lanes) in
    let ds = take count bytes in
    let long : length (map above_zero ds) < 16 = omega (arith, length-map ds above_zero, length-take-le count bytes (omega (arith, room, few)), few) in
    record {
      whole = whole;
      digits = digits;
      below = subst (AllBelowBase 10) (sym zeros) (zeros_below (16 - count) (map above_zero ds) (values_below ds digits));
      value = ap (number_from_digits 10) zeros ∙ zeros_number (16 - count) (map above_zero ds) ∙ value_of ds digits;
      small = omega (arith, value_of ds digits, small_number (map above_zero ds) (values_below ds digits) long);
    }
