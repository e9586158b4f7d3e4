-- What it says of a part that it has made a room of its own.
use Rattle.std.proofs.Common.{◌≡◌, ◌≢◌, ◌∙◌, ◌==◌, ◌≤◌, ℕ, ℤ, Bool, true, false, List}
use Rattle.std.proofs.Common.{ap, eqb, length, nat_lt, not, refl, sym, take, zip}
use Rattle.std.proofs.Common.{Err, None, Ok, Option, Result, Some, ⊎_elim}
use Rattle.std.proofs.lemmas.Bool.{false≢true, ltb-false}
use Rattle.std.proofs.lemmas.Bool.Decides.{eqb_tells}
use Rattle.std.proofs.lemmas.Option.{none-some, same_Some}
use Rattle.std.specs.Result.{result_ok}
use Rattle.c_calls.specs.Told.{done}
use Rattle.c_calls.specs.declared.status.CvlStatus.{CvlStatus}
use Rattle.combine_parts.specs.OwnRooms.{OwnTold, may_own}
use Rattle.combining_permutes.specs.CombiningPermutes.{combine_of, combined}
use Rattle.cvl_base.specs.declared.fault.Fault.{Fault}
use Rattle.cvl_base.specs.declared.fault.FaultNo.TheVariants as no
use Rattle.cvl_base.specs.Faults.{fault}
use Rattle.cvl_base.specs.Gives.{◌>>=◌, fault_if, unless}
use Rattle.cvl_base.specs.Limits.{most_places}
use Rattle.permute_walks.specs.Indices.{first_outside}
use Rattle.step_laws.proofs.Answered.{numbered}

-- a check that is passed
pub passed : {Y : Type 0} (b : Bool) (f : Fault) (rest : Result Y Fault) (y : Y) → fault_if b f rest ≡ Ok y → (b ≡ false) × (rest ≡ Ok y)
passed true f rest y is = absurd (none-some y (ap result_ok is))
passed false f rest y is = (refl, is)

passed_on : {X Y : Type 0} (b : Bool) (f : Fault) (rest : Result X Fault) (next : X → Result Y Fault) (y : Y)
    → (fault_if b f rest >>= next) ≡ Ok y → (b ≡ false) × ((rest >>= next) ≡ Ok y)
passed_on true f rest next y is = absurd (none-some y (ap result_ok is))
passed_on false f rest next y is = (refl, is)

pub unless_none : {Y : Type 0} (o : Option Fault) (y z : Y) → unless o (Ok y) ≡ Ok z → (o ≡ None) × (y ≡ z)
unless_none (Some f) y z is = absurd (none-some z (ap result_ok is))
unless_none None y z is = (refl, same_Some y z (ap result_ok is))

pub agree : (m n : ℕ) → not (m == n) ≡ false → m ≡ n
agree m n is =
    ⊎_elim
    (λ (same : (eqb m n ≡ true) × (m ≡ n)). same.1)
    (λ (other : (eqb m n ≡ false) × (m ≢ n)). let no : true ≡ false = sym (ap not other.0) ∙ is in absurd (false≢true (sym no)))
    (eqb_tells m n)

-- a part that has made its room
pub own_given : {X : Type 0} (places : ℕ) (meaning : Result (List X) Fault) (before now : List X) → OwnTold places meaning done before now → meaning ≡ Ok (take places now)
own_given places (Ok room) before now told = ap Ok (sym told.1)
own_given places (Err f) before now told = absurd (numbered f.number (sym (ap (λ (s : CvlStatus). s.number) told.0)))

-- what a part may own: as many indices as elements, and a room in its memory
pub record Owns (places elements indices memory : ℕ) : Type 0 where
  pub as_many : elements ≡ indices
  pub has_room : places ≤ memory

pub owns : {Y : Type 0} (places elements indices memory : ℕ) (next : Result Y Fault) (y : Y) → (may_own places elements indices memory >>= λ _. next) ≡ Ok y
    → Owns places elements indices memory × (next ≡ Ok y)
owns places elements indices memory next y is =
    let few = passed_on (nat_lt most_places indices) (fault no.TooLong) _ (λ _. next) y is in
    let few_places = passed_on (nat_lt most_places places) (fault no.TooLong) _ (λ _. next) y few.1 in
    let as_many = passed_on (not (elements == indices)) (fault no.LengthMismatch) _ (λ _. next) y few_places.1 in
    let fits = passed_on (nat_lt memory places) (fault no.LengthMismatch) (Ok tt) (λ _. next) y as_many.1 in
    (record { as_many = agree elements indices as_many.0; has_room = ltb-false memory places fits.0 }, fits.1)

module _ {X : Type 0} (join : X → X → X) where
  -- a combining permute that has a result
  pub combine_given : (source : List X) (index : List ℤ) (before result : List X) → combine_of join source index before ≡ Ok result
      → (first_outside 0 (length before) index ≡ None) × (combined join (zip index source) 0 before ≡ result)
  combine_given source index before result is =
      unless_none (first_outside 0 (length before) index) (combined join (zip index source) 0 before) result
      (passed (not (length source == length index)) (fault no.LengthMismatch) _ result is).1
