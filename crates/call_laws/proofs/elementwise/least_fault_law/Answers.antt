use Rattle.call_laws.proofs.Cited.{◌≡◌, ◌+◌, ◌∷◌, ◌++◌, ℕ, List, [], length, map, ap, arith, Some, None, Err, Option, values_from, fault_at, FaultNo}
use Rattle.call_laws.proofs.LeastFaults.{values-meaning}
use Rattle.call_laws.proofs.elementwise.least_fault_law.Goals as goal

first-missing : {Y : Type 0} (number : FaultNo) (place : ℕ) (ys : List Y) (others : List (Option Y)) → values_from number place (map (λ y. Some y) ys ++ None ∷ others)
    ≡ Err (fault_at number (place + length ys))
first-missing number place [] others = ap (λ n. Err (fault_at number n)) (omega arith)
first-missing number place (y ∷ ys) others = rw (first-missing number (place + 1) ys others) (ap (λ n. Err (fault_at number n)) (omega arith))

pub returns : goal.returns
returns g c = record { values = values-meaning; first_missing = first-missing }
