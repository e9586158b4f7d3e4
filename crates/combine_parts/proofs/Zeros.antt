-- Exact sums onto zeros.
use Rattle.std.proofs.Common.{◌≡◌, ◌∙◌, ◌+◌, ◌==◌, ◌∷◌, ◌+ℤ◌, ℕ, zero, suc, ℤ, pos, Bool, true, false, not, List, length, replicate, Result, Ok, Err, refl, sym, ap}
use Rattle.std.specs.Prelude.{MatchResult}
use Rattle.cvl_base.specs.Rooms.{Overwrites}
use Rattle.cvl_base.specs.declared.fault.Fault.{Fault}
use Rattle.cvl_base.specs.declared.fault.FaultNo.TheVariants.{LengthMismatch}
use Rattle.cvl_base.specs.Elementwise.{if_as_long}
use Rattle.cvl_base.specs.Faults.{fault}
use Rattle.cvl_base.specs.Gives.{◌>>=◌, fault_if}
use Rattle.combining_permutes.specs.CombiningPermutes.{combine_of}
use Rattle.exact_combines.specs.ExactCombines.{exact_sums_of}
use Rattle.long_sums.specs.RoomSums.{all_growing}

zeros_grow : (n place : ℕ) → all_growing place (replicate n (pos 0)) ≡ Ok (replicate n (pos 0))
zeros_grow zero place = refl
zeros_grow (suc n) place = ap (λ r. r >>= λ ys. Ok (pos 0 ∷ ys)) (zeros_grow n (place + 1))

asked_twice : {Y : Type 0} (b : Bool) (f : Fault) (rest : Result Y Fault) → fault_if b f (fault_if b f rest) ≡ fault_if b f rest
asked_twice true f rest = refl
asked_twice false f rest = refl

pub sums_from_zeros : (source index : List ℤ) (n : ℕ)
    → exact_sums_of source index (replicate n (pos 0)) ≡ combine_of ◌+ℤ◌ source index (replicate n (pos 0))
sums_from_zeros source index n =
    ap (λ zeros. if_as_long source index (zeros >>= λ sums. combine_of ◌+ℤ◌ source index sums)) (zeros_grow n 0)
    ∙ asked_twice (not (length source == length index)) (fault LengthMismatch) _

-- an answer by one definition is an answer by another that gives the same
pub answers_same : {X : Type 0} (meaning call : Result (List X) Fault) (before now : List X) → meaning ≡ call → (answer : Result (Unit {0}) Fault)
    → Overwrites meaning answer before now → MatchResult answer (λ _. call ≡ Ok now) (λ f. call ≡ Err f)
answers_same meaning call before now same (Ok done) is = sym same ∙ is
answers_same meaning call before now same (Err f) is = sym same ∙ is.0
