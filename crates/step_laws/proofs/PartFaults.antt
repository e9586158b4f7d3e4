-- What follows if a part of a call has a fault.
use Rattle.std.proofs.Common.{◌≡◌, ◌≢◌, ◌⊎◌, ℕ, List, length, map, slice_get, Some, Result, Ok, Err, inl, inr, true, false, refl, ap, subst, eqb, All, ⊎_elim}
use Rattle.std.proofs.lemmas.Bool.Decides.{eqb_tells}
use Rattle.std.proofs.lemmas.Option.{get_or_from_slice_get, slice_get_within}
use Rattle.cvl_base.proofs.Rooms.{differs, fits}
use Rattle.cvl_base.specs.declared.fault.Fault.{Fault}
use Rattle.cvl_base.specs.declared.fault.FaultNo.TheVariants as no
use Rattle.cvl_base.specs.Faults.{fault}
use Rattle.c_calls.specs.Told.{RoomTold, Told, done}
use Rattle.c_calls.specs.declared.status.CvlStatus.{CvlStatus}
use Rattle.cvl_base.specs.Lists.{joined}
use Rattle.step_laws.proofs.PartCalls.{exactly}
use Rattle.step_laws.specs.Looks.{Fails}
use Rattle.step_laws.specs.SegmentCalls.{IsMadeOf}

-- the fault of a call
abbrev pub HasFault : {Y : Type 0} → Result Y Fault → Type 0
HasFault call = (f : Fault) × (call ≡ Err f)

-- a call that cannot have a value has one
pub no-value : {Y : Type 0} (call : Result Y Fault) → ((y : Y) → call ≡ Ok y → ⊥) → HasFault call
no-value (Ok y) none = absurd (none y refl)
no-value (Err f) none = (f, refl)

-- what holds of all holds of one
pub of_part : {A : Type 0} (xs : List A) (k : ℕ) (x : A) → slice_get xs k ≡ Some x → (P : A → Type 0) → All P xs → P x
of_part xs k x here P all = subst P (get_or_from_slice_get xs k x x here) (all k x (slice_get_within xs k x here))

-- a call with a value is done, or its room has another length
pub value-told : {Y : Type 0} (call : Result (List Y) Fault) (ys before now : List Y) (status : CvlStatus) → call ≡ Ok ys → RoomTold call status before now
    → (status ≡ done) ⊎ (status.number ≡ 7)
value-told call ys before now status is told =
    let some : RoomTold (Ok ys) status before now = subst (λ m. RoomTold m status before now) is told in
    ⊎_elim
    (λ (same : (eqb (length ys) (length before) ≡ true) × (length ys ≡ length before)).
    let full : Told (Ok ys) status before now = subst (λ m. Told m status before now) (fits (length before) ys same.1) some in
    inl full.0)
    (λ (other : (eqb (length ys) (length before) ≡ false) × (length ys ≢ length before)).
    let none : Told (Err (fault no.LengthMismatch)) status before now = subst (λ m. Told m status before now) (differs (length before) ys other.1) some in
    inr (ap (λ (s : CvlStatus). s.number) none.0))
    (eqb_tells (length ys) (length before))

-- a call that finds a fault has no value
pub failed : {Y : Type 0} (call : Result (List Y) Fault) → Fails call → (ys : List Y) → call ≡ Ok ys → ⊥
failed call (status, before, now, told, finds) ys is =
    ⊎_elim (λ (all : status ≡ done). finds.0 all) (λ (room : status.number ≡ 7). finds.1 room) (value-told call ys before now status is told)

-- if a call on all that the parts have is made of calls on what each has, and one of these finds a fault, so has the whole
pub whole-failed : {P Y : Type 0} (whole : Result (List Y) Fault) (own : P → Result (List Y) Fault) (parts : List P) (k : ℕ) (p : P) → IsMadeOf whole (map own parts)
    → slice_get parts k ≡ Some p → ((ys : List Y) → own p ≡ Ok ys → ⊥) → HasFault whole
whole-failed {Y = Y} whole own parts k p made here none =
    no-value whole
    (λ ys is.
    let each = of_part parts k p here (λ q. (zs : List Y) × (own q ≡ Ok zs)) (exactly joined whole own parts ys made is) in
    none each.0 each.1)
