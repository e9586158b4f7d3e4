-- How many digits a number's decimal has, and where it stands after a digit more.
use Rattle.std.proofs.Common.{◌≡◌, ℕ, zero, suc, ◌+◌, ◌-◌, ◌*◌, ◌^◌, ◌/◌, ◌%◌, ◌<◌, ◌≤◌, Bool, true, false, nat_le, List, [], ◌∷◌, ◌++◌, length, drop, drop-drop, slice_set, ℤ, pos, negsuc, int_lt}
use Rattle.std.proofs.Common.{unsigned_abs, refl, ap, sym, ◌∙◌, arith}
use Rattle.std.proofs.lemmas.Bool.Decides.{nat_tests}
use Rattle.std.proofs.Math.Nat.{pow-succ', one-le-pow}
use Rattle.std.proofs.lemmas.Fmt.{decimal_digit, decimal_step, length-decimal-le}
use Rattle.std.proofs.lemmas.List.{length-append, append_assoc, drop_at, drop-set, drop-set-lt}
use Rattle.std.specs.Int.{from_bool}
use Rattle.std.specs.Fmt.{decimal, signed_decimal}

-- how many of p, 10 * p, 100 * p .., so many of these, are at most n
abbrev pub at_least : ℕ → ℕ → ℕ → ℕ
at_least p zero n = 0
at_least p (suc k) n = from_bool (nat_le p n) + at_least (p * 10) k n

tenfold : (p n : ℕ) → nat_le (p * 10) n ≡ nat_le p (n / 10)
tenfold p n = grind (arith, nat_tests)

at_least_tenth : (p k n : ℕ) → at_least (p * 10) k n ≡ at_least p k (n / 10)
at_least_tenth p zero n = refl
at_least_tenth p (suc k) n =
    ap (λ (b : Bool). from_bool b + at_least (p * 10 * 10) k n) (tenfold p n) ∙ ap (λ (m : ℕ). from_bool (nat_le p (n / 10)) + m) (at_least_tenth (p * 10) k n)

at_least_none : (p k n : ℕ) → n < p → at_least p k n ≡ 0
at_least_none p zero n h = refl
at_least_none p (suc k) n h =
    let first : nat_le p n ≡ false = grind (arith, nat_tests) in
    let others = at_least_none (p * 10) k n (omega arith) in
    rw (first, others) refl

one_digit : (k n : ℕ) → n < 10 → length (decimal n) ≡ 1 + at_least 10 k n
one_digit k n small = ap length (decimal_digit n small) ∙ ap (λ (m : ℕ). 1 + m) (sym (at_least_none 10 k n small))

digit_more : (k n : ℕ) → 10 ≤ n → n < 2 ^ 64 → length (decimal (n / 10)) ≡ 1 + at_least 10 k (n / 10) → length (decimal n) ≡ 1 + at_least 10 (suc k) n
digit_more k n great fits rest =
    let first : nat_le 10 n ≡ true = grind (arith, nat_tests) in
    let step = ap length (decimal_step n great fits) ∙ length-append (decimal (n / 10)) ((48 + n % 10) ∷ []) in
    rw first (omega (arith, step, rest, at_least_tenth 10 k n))

pub digits_counted : (k n : ℕ) → n < 10 ^ suc k → n < 2 ^ 64 → length (decimal n) ≡ 1 + at_least 10 k n
digits_counted zero n few fits = one_digit 0 n (omega arith)
digits_counted (suc k) n few fits =
    let tenth : n / 10 < 10 ^ suc k = omega (arith, few, pow-succ' 10 (suc k)) in
    elim (nat_le 10 n) as (λ b. nat_le 10 n ≡ b → length (decimal n) ≡ 1 + at_least 10 (suc k) n) [
      | true ↦ λ e. digit_more k n (grind (arith, nat_tests)) fits (digits_counted k (n / 10) tenth (omega arith))
      | false ↦ λ e. one_digit (suc k) n (grind (arith, nat_tests))
    ] refl

-- a decimal stands at the end of that of a number with more digits
abbrev IsEndOf : ℕ → ℕ → Type 0
IsEndOf n m = (front : List ℕ) × (decimal m ≡ front ++ decimal n)

last_digit : (k n : ℕ) → n < 10 → n + 10 ^ suc k < 2 ^ 64 → IsEndOf n (n + 10 ^ suc k)
last_digit k n small fits =
    let power = pow-succ' 10 k in
    let positive : 1 ≤ 10 ^ k = one-le-pow k 10 (omega arith) in
    let last : (n + 10 ^ suc k) % 10 ≡ n = omega (arith, power) in
    let step = decimal_step (n + 10 ^ suc k) (omega (arith, power, positive)) fits in (
      decimal ((n + 10 ^ suc k) / 10),
      step ∙ ap (λ (d : ℕ). decimal ((n + 10 ^ suc k) / 10) ++ (48 + d) ∷ []) last
          ∙ ap (λ (ds : List ℕ). decimal ((n + 10 ^ suc k) / 10) ++ ds) (sym (decimal_digit n small)),
    )

digit_behind : (k n : ℕ) → 10 ≤ n → n + 10 ^ suc (suc k) < 2 ^ 64 → IsEndOf (n / 10) (n / 10 + 10 ^ suc k) → IsEndOf n (n + 10 ^ suc (suc k))
digit_behind k n great fits (front, is) =
    let power = pow-succ' 10 (suc k) in
    let tenth : (n + 10 ^ suc (suc k)) / 10 ≡ n / 10 + 10 ^ suc k = omega (arith, power) in
    let last : (n + 10 ^ suc (suc k)) % 10 ≡ n % 10 = omega (arith, power) in
    let step = decimal_step (n + 10 ^ suc (suc k)) (omega arith) fits in (
      front,
      step ∙ ap (λ (m : ℕ). decimal m ++ (48 + (n + 10 ^ suc (suc k)) % 10) ∷ []) tenth ∙ ap (λ (d : ℕ). decimal (n / 10 + 10 ^ suc k) ++ (48 + d) ∷ []) last
          ∙ ap (λ (ds : List ℕ). ds ++ (48 + n % 10) ∷ []) is ∙ append_assoc front (decimal (n / 10)) ((48 + n % 10) ∷ [])
          ∙ ap (λ (ds : List ℕ). front ++ ds) (sym (decimal_step n great (omega arith))),
    )

pub ends : (k n : ℕ) → n < 10 ^ suc k → n + 10 ^ suc k < 2 ^ 64 → IsEndOf n (n + 10 ^ suc k)
ends zero n few fits = last_digit 0 n (omega arith) fits
ends (suc k) n few fits =
    let power = pow-succ' 10 (suc k) in
    elim (nat_le 10 n) as (λ b. nat_le 10 n ≡ b → IsEndOf n (n + 10 ^ suc (suc k))) [
      | true ↦ λ e. digit_behind k n (grind (arith, nat_tests)) fits (ends k (n / 10) (omega (arith, few, power)) (omega (arith, fits, power)))
      | false ↦ λ e. last_digit (suc k) n (grind (arith, nat_tests)) fits
    ] refl

-- so it is what stands in a page from so many digits before the end on
pub digits_at_end : (n start end : ℕ) (page rest : List ℕ) → n < 10 ^ 10 → start + length (decimal (10 ^ 10 + n)) ≡ end
    → drop start page ≡ decimal (10 ^ 10 + n) ++ rest → drop (end - length (decimal n)) page ≡ decimal n ++ rest
digits_at_end n start end page rest few at written =
    let swapped : 10 ^ 10 + n ≡ n + 10 ^ 10 = omega arith in
    let both = ends 9 n few (omega (arith, few)) in
    let is = ap decimal swapped ∙ both.1 in
    let from : end - length (decimal n) ≡ start + length both.0 = omega (arith, at, ap length is, length-append both.0 (decimal n)) in
    ap (λ (k : ℕ). drop k page) from ∙ sym (drop-drop (length both.0) start page) ∙ ap (drop (length both.0)) (written ∙ ap (λ (ds : List ℕ). ds ++ rest) is ∙ append_assoc both.0 (decimal n) rest)
    ∙ drop_at both.0 (decimal n ++ rest) (length both.0) refl

-- a magnitude of 32 bits has at most ten digits
pub short : (n : ℕ) → n < 2 ^ 32 → length (decimal n) ≤ 10
short n h = length-decimal-le 10 n (omega arith) (omega arith) (omega arith)

pub from_bool_small : (b : Bool) → from_bool b ≤ 1
from_bool_small true = omega arith
from_bool_small false = omega arith

none_below : (n : ℕ) → int_lt (pos n) (pos 0) ≡ false
none_below n = grind (arith, nat_tests)

-- a minus sign (45) before the digits is part of the text where the number is negative, and no part of it else
pub with_sign : (z : ℤ) (start : ℕ) (page rest : List ℕ) → 0 < start → start ≤ length page → drop start page ≡ decimal (unsigned_abs z) ++ rest
    → drop (start - from_bool (int_lt z (pos 0))) (slice_set page (start - 1) 45) ≡ signed_decimal z ++ rest
with_sign (pos n) start page rest some within digits =
    let same : start - 0 ≡ start = omega arith in
    let front = ap (λ (b : Bool). start - from_bool b) (none_below n) ∙ same in
    ap (λ (k : ℕ). drop k (slice_set page (start - 1) 45)) front ∙ drop-set-lt start page (start - 1) 45 (omega arith) ∙ digits
with_sign (negsuc n) start page rest some within digits =
    let back : start - 1 + 1 ≡ start = omega arith in
    drop-set page (start - 1) 45 (omega arith) ∙ ap (λ (k : ℕ). 45 ∷ drop k page) back ∙ ap (λ (bs : List ℕ). 45 ∷ bs) digits
