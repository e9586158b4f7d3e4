-- What the definition makes of numbers that are bytes, and of the first that is none.
use Rattle.std.proofs.Common.{◌≡◌, ◌∙◌, ℕ, zero, suc, ◌+◌, ◌<◌, Bool, true, false, if◌then◌else◌, List, [], ◌∷◌, length, get_or, map, refl, ap, arith, ℤ, pos, unsigned_abs, Some, None, Ok, Err}
use Rattle.std.specs.Option.{ok_or}
use Rattle.cvl_base.specs.declared.fault.FaultNo.TheVariants.{Overflow}
use Rattle.cvl_base.specs.Elementwise.{values_from}
use Rattle.cvl_base.specs.Faults.{fault_at}
use Rattle.cvl_base.specs.Gives.{◌>>=◌}
use Rattle.byte_numbers.specs.Bytes.{byte_of, is_byte}

next : (place : ℕ) (x : ℤ) (xs : List ℤ) (b : Bool) → is_byte x ≡ b → values_from Overflow place (map byte_of (x ∷ xs))
    ≡ (ok_or (if b then Some (unsigned_abs x) else None) (fault_at Overflow place) >>= λ y. values_from Overflow (place + 1) (map byte_of xs) >>= λ ys. Ok (y ∷ ys))
next place x xs b is =
    ap (λ v. ok_or (if v then Some (unsigned_abs x) else None) (fault_at Overflow place) >>= λ y. values_from Overflow (place + 1) (map byte_of xs) >>= λ ys. Ok (y ∷ ys)) is

pub all_bytes : (place : ℕ) (xs : List ℤ) → ((k : ℕ) → k < length xs → is_byte (get_or xs k (pos 0)) ≡ true) → values_from Overflow place (map byte_of xs) ≡ Ok (map unsigned_abs xs)
all_bytes place [] each = refl
all_bytes place (x ∷ xs) each =
    next place x xs true (each 0 (omega arith))
    ∙ ap (λ r. r >>= λ ys. Ok (unsigned_abs x ∷ ys)) (all_bytes (place + 1) xs (λ k lt. each (suc k) (omega arith)))

pub first_outside : (place : ℕ) (xs : List ℤ) (k : ℕ) → k < length xs → ((j : ℕ) → j < k → is_byte (get_or xs j (pos 0)) ≡ true) → is_byte (get_or xs k (pos 0)) ≡ false
    → values_from Overflow place (map byte_of xs) ≡ Err (fault_at Overflow (place + k))
first_outside place [] k lt each outside = absurd (omega arith)
first_outside place (x ∷ xs) zero lt each outside = next place x xs false outside ∙ ap (λ p. Err (fault_at Overflow p)) (omega arith)
first_outside place (x ∷ xs) (suc k) lt each outside =
    next place x xs true (each 0 (omega arith))
    ∙ ap (λ r. r >>= λ ys. Ok (unsigned_abs x ∷ ys)) (first_outside (place + 1) xs k (omega arith) (λ j below. each (suc j) (omega arith)) outside)
    ∙ ap (λ p. Err (fault_at Overflow p)) (omega arith)
