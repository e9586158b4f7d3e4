-- The law of the floor of a quotient.
use Rattle.std.proofs.Common.{◌≡◌, sym, ap, ◌∙◌, ℕ, ◌+◌, ◌-◌, ◌*◌, ◌<◌, ◌/◌, ◌%◌, ℤ, pos, negsuc, arith}
use Rattle.std.proofs.lemmas.Int.{ints}
use Rattle.std.proofs.lemmas.Nat.{mod_below, div-add-mod', div-mul-add}
use Rattle.operators.specs.Integers.{IsFloor, floor_of}

pub is_floor : (a : ℤ) (n : ℕ) → 0 < n → IsFloor a n (floor_of a n)
is_floor (pos a) n positive = record { left = a % n; again = ap pos (sym (div-add-mod' a n)); smaller = mod_below a n positive }
is_floor (negsuc a) n positive = record {
  left = n - 1 - a % n;
  again = omega (arith, ints, mod_below a n positive, div-add-mod' a n);
  smaller = omega (arith, mod_below a n positive);
}

pub only_floor : (a q : ℤ) (n : ℕ) → IsFloor a n q → q ≡ floor_of a n
only_floor (pos a) (pos q) n is =
    let whole : a ≡ q * n + is.left = omega (arith, ints, is.again) in
    sym (ap (λ m. pos (m / n)) whole ∙ ap pos (div-mul-add q n is.left is.smaller))
only_floor (pos a) (negsuc q) n is = absurd (omega (arith, ints, is.again, is.smaller))
only_floor (negsuc a) (pos q) n is = absurd (omega (arith, ints, is.again))
only_floor (negsuc a) (negsuc q) n is =
    let whole : a ≡ q * n + (n - 1 - is.left) = omega (arith, ints, is.again, is.smaller) in
    let left_below : n - 1 - is.left < n = omega (arith, is.smaller) in
    sym (ap (λ m. negsuc (m / n)) whole ∙ ap negsuc (div-mul-add q n (n - 1 - is.left) left_below))
