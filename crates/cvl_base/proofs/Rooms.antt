-- A list for a room: it fills it, or their lengths differ; or it stands at its front, or is too long.
use Rattle.std.specs.Prelude.{Ok, Err}
use Rattle.std.specs.Result.{IsErrAnd}
use Rattle.std.proofs.Common.{◌≡◌, ◌≢◌, ◌∙◌, ◌<◌, ◌++◌, Result, refl, sym, ap, ℕ, not, List, drop, length, eq-eqb}
use Rattle.std.proofs.lemmas.Bool.{lt-ltb, ne_eqb}
use Rattle.cvl_base.specs.declared.fault.Fault.{Fault}
use Rattle.cvl_base.specs.declared.fault.FaultNo.TheVariants.{LengthMismatch}
use Rattle.cvl_base.specs.Faults.{fault}
use Rattle.cvl_base.specs.Gives.{fault_if}
use Rattle.cvl_base.specs.Rooms.{Overwrites, at_front, in_room}

module _ {X : Type 0} (room : ℕ) (xs : List X) where
  pub fits : length xs ≡ room → in_room room (Ok xs) ≡ Ok xs
  fits is = ap (λ b. fault_if (not b) (fault LengthMismatch) (Ok xs)) (eq-eqb (length xs) room is)

  pub differs : length xs ≢ room → in_room room (Ok xs) ≡ Err (fault LengthMismatch)
  differs is = ap (λ b. fault_if (not b) (fault LengthMismatch) (Ok xs)) (ne_eqb (length xs) room is)

module _ {X : Type 0} (room xs : List X) where
  pub at_front-short : length room < length xs → at_front room xs ≡ Err (fault LengthMismatch)
  at_front-short is = ap (λ b. fault_if b (fault LengthMismatch) (Ok (xs ++ drop (length xs) room))) (lt-ltb (length room) (length xs) is)

-- a fault that is told leaves the room as it was
pub told : {X : Type 0} (meaning : Result (List X) Fault) (answer : Result (Unit {0}) Fault) (f : Fault) (before : List X)
    → IsErrAnd answer (λ e. e ≡ f) → meaning ≡ Err f → Overwrites meaning answer before before
told meaning (Ok done) f before is means = absurd is
told meaning (Err e) f before is means = (means ∙ ap Err (sym is), refl)
