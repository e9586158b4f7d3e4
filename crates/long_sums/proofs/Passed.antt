-- What the definition makes of numbers that each pass a test, and of the first that does not.
use Rattle.std.proofs.Common.{◌≡◌, ◌∙◌, ℕ, zero, suc, ◌+◌, ◌<◌, Bool, true, false, if◌then◌else◌, List, [], ◌∷◌, length, get_or, map, refl, ap, arith, ℤ, pos, Some, None, Ok, Err}
use Rattle.std.specs.Option.{ok_or}
use Rattle.cvl_base.specs.declared.fault.FaultNo.TheVariants.{Overflow}
use Rattle.cvl_base.specs.Elementwise.{values_from}
use Rattle.cvl_base.specs.Faults.{fault_at}
use Rattle.cvl_base.specs.Gives.{◌>>=◌}

module _ (passes : ℤ → Bool) where
  next : (place : ℕ) (x : ℤ) (xs : List ℤ) (b : Bool) → passes x ≡ b → values_from Overflow place (map (λ y. if passes y then Some y else None) (x ∷ xs))
      ≡ (ok_or (if b then Some x else None) (fault_at Overflow place) >>= λ y. values_from Overflow (place + 1) (map (λ y. if passes y then Some y else None) xs) >>= λ ys. Ok (y ∷ ys))
  next place x xs b is =
      ap (λ v. ok_or (if v then Some x else None) (fault_at Overflow place) >>= λ y. values_from Overflow (place + 1) (map (λ y. if passes y then Some y else None) xs) >>= λ ys. Ok (y ∷ ys)) is

  pub all_pass : (place : ℕ) (xs : List ℤ) → ((k : ℕ) → k < length xs → passes (get_or xs k (pos 0)) ≡ true)
      → values_from Overflow place (map (λ y. if passes y then Some y else None) xs) ≡ Ok xs
  all_pass place [] each = refl
  all_pass place (x ∷ xs) each =
      next place x xs true (each 0 (omega arith))
      ∙ ap (λ r. r >>= λ ys. Ok (x ∷ ys)) (all_pass (place + 1) xs (λ k lt. each (suc k) (omega arith)))

  pub first_failing : (place : ℕ) (xs : List ℤ) (k : ℕ) → k < length xs → ((j : ℕ) → j < k → passes (get_or xs j (pos 0)) ≡ true) → passes (get_or xs k (pos 0)) ≡ false
      → values_from Overflow place (map (λ y. if passes y then Some y else None) xs) ≡ Err (fault_at Overflow (place + k))
  first_failing place [] k lt each fails = absurd (omega arith)
  first_failing place (x ∷ xs) zero lt each fails = next place x xs false fails ∙ ap (λ p. Err (fault_at Overflow p)) (omega arith)
  first_failing place (x ∷ xs) (suc k) lt each fails =
      next place x xs true (each 0 (omega arith))
      ∙ ap (λ r. r >>= λ ys. Ok (x ∷ ys)) (first_failing (place + 1) xs k (omega arith) (λ j below. each (suc j) (omega arith)) fails)
      ∙ ap (λ p. Err (fault_at Overflow p)) (omega arith)
