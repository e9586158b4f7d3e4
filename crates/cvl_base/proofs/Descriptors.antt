-- Lengths as signed numbers: none is negative, and their amounts are the lengths.
use Rattle.std.proofs.Common.{◌≡◌, ◌∙◌, ℕ, suc, ◌<◌, false, ℤ, pos, negsuc, List, [], ◌∷◌, length, get_or, map, refl, ap, arith}
use Rattle.std.specs.Prelude.{position, cond, nat_lt, Some, None, unsigned_abs}
use Rattle.std.specs.Int.{is_negative}
use Rattle.std.specs.List.{position_or_len}
use Rattle.std.proofs.lemmas.Bool.{le-ltb}
use Rattle.std.proofs.lemmas.List.{get_or-map, length-map}
use Rattle.std.proofs.lemmas.List.Sums.{position_or_len_is}

pub abs_pos : (ns : List ℕ) → map unsigned_abs (map pos ns) ≡ ns
abs_pos [] = refl
abs_pos (n ∷ ns) = ap (λ tail. n ∷ tail) (abs_pos ns)

-- numbers of which none is negative are natural numbers
pub natural : (numbers : List ℤ) → ((k : ℕ) → k < length numbers → is_negative (get_or numbers k (pos 0)) ≡ false) → numbers ≡ map pos (map unsigned_abs numbers)
natural [] h = refl
natural (pos n ∷ ns) h = ap (λ tail. pos n ∷ tail) (natural ns (λ k lt. h (suc k) (omega arith)))
natural (negsuc n ∷ ns) h = let e = h 0 (omega arith) in cc

pub not_negative : (n : ℕ) → is_negative (pos n) ≡ false
not_negative n = le-ltb n 0 (omega arith)

-- the search for a negative number ends at the end
pub position-none : (numbers : List ℤ) → position_or_len is_negative numbers ≡ length numbers → position is_negative numbers ≡ None
position-none numbers at =
    (λ i. cond (nat_lt (at i) (length numbers)) (Some (at i)) None)
    ∙ ap (λ b. cond b (Some (length numbers)) None) (le-ltb (length numbers) (length numbers) (omega arith))

-- so it does among lengths
pub position-lengths : (ns : List ℕ) → position is_negative (map pos ns) ≡ None
position-lengths ns =
    position-none (map pos ns)
    (position_or_len_is is_negative (map pos ns) (length (map pos ns)) (pos 0) (omega arith)
    (λ k below. ap is_negative (get_or-map pos ns k 0 (pos 0) (omega (arith, below, length-map ns pos))) ∙ not_negative (get_or ns k 0))
    (λ below. absurd (omega arith)))
