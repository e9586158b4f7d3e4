use Rattle.call_laws.proofs.Cited.{◌≡◌, ◌+◌, ◌∷◌, ◌+ℤ◌, ℕ, true, List, [], length, arith, ℤ, pos, fold, AllPass, ints, All-head, All-tail, ◌*◌, ◌≤ℤ◌}
use Rattle.cvl_base.specs.ItemWords.{is_number}
use Rattle.operators.specs.NumberLaws.{fits-is_number}
use Rattle.call_laws.proofs.checked_sums.carry_fits.Goals as goal

-- how large a carry may get
record IsReached (n : ℕ) (z : ℤ) : Type 0 where
  low : pos 0 ≤ℤ (z +ℤ pos (n * 2147483648))
  high : z ≤ℤ pos (n * 2147483647)

reached : (n : ℕ) (z : ℤ) (xs : List ℤ) → IsReached n z → AllPass is_number xs → IsReached (n + length xs) (fold ◌+ℤ◌ z xs)
reached n z [] bound numbers = let low = bound.low in let high = bound.high in record { low = omega (arith, ints); high = omega (arith, ints) }
reached n z (x ∷ xs) bound numbers =
    let f = fits-is_number x (All-head (λ y. is_number y ≡ true) x xs numbers) in
    let low = bound.low in
    let high = bound.high in
    let rest = reached (n + 1) (z +ℤ x) xs (record { low = omega (arith, ints, f); high = omega (arith, ints, f) }) (All-tail (λ y. is_number y ≡ true) x xs numbers) in
    let rest_low = rest.low in
    let rest_high = rest.high in
    record { low = omega (arith, ints); high = omega (arith, ints) }

pub returns : goal.returns
returns c = λ xs few numbers.
    let bound = reached 0 (pos 0) xs (record { low = omega (arith, ints); high = omega (arith, ints) }) numbers in
    let low = bound.low in
    let high = bound.high in
    omega (arith, ints)
