-- What follows if an export answers that it is done.
use Rattle.std.proofs.Common.{◌≡◌, ◌≢◌, ◌≤◌, ◌∙◌, Bool, true, false, List, length, Result, Ok, Err, refl, sym, ap, arith, subst}
use Rattle.std.proofs.Common.{⊎_elim}
use Rattle.std.proofs.lemmas.Bool.Decides.{eqb_tells}
use Rattle.std.proofs.Common.{eqb}
use Rattle.std.proofs.lemmas.Bool.{le-ltb}
use Rattle.std.proofs.lemmas.Option.{none-some, same_Some}
use Rattle.std.specs.Result.{result_ok}
use Rattle.cvl_base.proofs.Rooms.{differs, fits}
use Rattle.cvl_base.specs.declared.fault.Fault.{Fault}
use Rattle.cvl_base.specs.declared.fault.FaultNo.{FaultNo}
use Rattle.cvl_base.specs.declared.fault.FaultNo.TheVariants as no
use Rattle.cvl_base.specs.Faults.{fault, number_of}
use Rattle.cvl_base.specs.Gives.{fault_if}
use Rattle.cvl_base.specs.Limits.{most_places}
use Rattle.c_calls.specs.Calls.{in_limit}
use Rattle.c_calls.specs.Told.{RoomTold, Told, done}
use Rattle.c_calls.specs.declared.status.CvlStatus.{CvlStatus}

-- the number of a fault is not 0
pub numbered : (n : FaultNo) → number_of n ≡ 0 → ⊥
numbered no.BadLine is = omega (arith, is)
numbered n is = omega (arith, is)

-- an export that is done has written what its call gives
pub is_given : {X : Type 0} (meaning : Result X Fault) (before now : X) → Told meaning done before now → meaning ≡ Ok now
is_given (Ok value) before now told = ap Ok (sym told.1)
is_given (Err f) before now told = absurd (numbered f.number (sym (ap (λ (s : CvlStatus). s.number) told.0)))

module _ {X : Type 0} where
  -- the same of a room, which is as long as before
  pub fills : (meaning : Result (List X) Fault) (before now : List X) → RoomTold meaning done before now → (meaning ≡ Ok now) × (length now ≡ length before)
  fills (Ok xs) before now told =
      ⊎_elim
      (λ (is : (eqb (length xs) (length before) ≡ true) × (length xs ≡ length before)).
      let full : Told (Ok xs) done before now = subst (λ m. Told m done before now) (fits (length before) xs is.1) told in
      (ap Ok (sym full.1), ap length full.1 ∙ is.1))
      (λ (is : (eqb (length xs) (length before) ≡ false) × (length xs ≢ length before)).
      let none : Told (Err (fault no.LengthMismatch)) done before now = subst (λ m. Told m done before now) (differs (length before) xs is.1) told in
      absurd (numbered no.LengthMismatch (sym (ap (λ (s : CvlStatus). s.number) none.0))))
      (eqb_tells (length xs) (length before))
  fills (Err f) before now told = absurd (numbered f.number (sym (ap (λ (s : CvlStatus). s.number) told.0)))

  -- a call with a value as long as its room is done, whatever it answers
  pub is_done : (xs before now : List X) (status : CvlStatus) → length xs ≡ length before → RoomTold (Ok xs) status before now → now ≡ xs
  is_done xs before now status long told =
      let full : Told (Ok xs) status before now = subst (λ m. Told m status before now) (fits (length before) xs long) told in full.1

  -- and tells that it is
  pub done_if_long : (xs before now : List X) (status : CvlStatus) → length xs ≡ length before → RoomTold (Ok xs) status before now → status ≡ done
  done_if_long xs before now status long told =
      let full : Told (Ok xs) status before now = subst (λ m. Told m status before now) (fits (length before) xs long) told in full.0

  pub tells_done : (xs before : List X) → length xs ≡ length before → RoomTold (Ok xs) done before xs
  tells_done xs before long = subst (λ m. Told m done before xs) (sym (fits (length before) xs long)) (refl, refl)

-- a call that has a value within a limit, by an operator, has an operator and this value
pub past_limit : {Y : Type 0} (b : Bool) (f : Fault) (y z : Y) → fault_if b f (Ok y) ≡ Ok z → y ≡ z
past_limit true f y z is = absurd (none-some z (ap result_ok is))
past_limit false f y z is = same_Some y z (ap result_ok is)

pub within : {X Y : Type 0} (xs : List X) (call : Result Y Fault) → length xs ≤ most_places → in_limit xs call ≡ call
within xs call few = rw (le-ltb most_places (length xs) few) refl
