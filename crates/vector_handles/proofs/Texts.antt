-- The text of a call without a target, and the value of one with a target, which shows nothing, once the arguments are found to be right.
use Rattle.std.proofs.Common.{◌≡◌, ◌==◌, ◌⊎◌, inl, inr, ℕ, Bool, true, false, not, List, refl, sym, ap, subst, IfOk, Option, Some, None, Result, Ok, Err}
use Rattle.cvl_base.specs.declared.call.Arg.{Arg}
use Rattle.cvl_base.specs.declared.call.Call.{Call}
use Rattle.cvl_base.specs.declared.call.ResultNames.TheVariants as results
use Rattle.cvl_base.specs.declared.fault.Fault.{Fault}
use Rattle.cvl_base.specs.declared.fault.FaultNo.TheVariants.{TooManyNames}
use Rattle.cvl_base.specs.declared.name.Name.{Name}
use Rattle.cvl_base.specs.declared.value.Value.{Value}
use Rattle.cvl_base.specs.declared.operation.Op.{Op}
use Rattle.cvl_base.specs.declared.refused.Refused.{Refused}
use Rattle.cvl_base.specs.declared.refused.Refused.TheVariants as refused
use Rattle.cvl_base.specs.Calls.{binds_of}
use Rattle.cvl_base.specs.Faults.{fault}
use Rattle.cvl_base.specs.Gives.{Gives, ◌>>=◌, fault_if, unless}
use Rattle.bound_names.specs.Arguments.{args_fault, argument_at}
use Rattle.bound_names.specs.Names.{Entries, bind, bind_both, has_room, has_room_for_both}
use Rattle.vector_handles.specs.declared.input.Input.{Input}
use Rattle.vector_handles.specs.Families.{ArgumentAt}
use Rattle.vector_handles.specs.CallValues.{table_value}
use Rattle.vector_handles.specs.Steps.{Stepped, bound_to, performed, step, written}

-- what is made of an answer is given where the answer is
made : {X Y Z : Type 0} (view : X → Y) (make : Y → Z) (answer : Result X Refused) (meaning : Result Y Fault) →
    Gives view answer meaning → Gives (λ x. make (view x)) answer (meaning >>= λ y. Ok (make y))
made view make (Ok x) meaning is = ap (λ m. m >>= λ y. Ok (make y)) is
made view make (Err (refused.Fault f)) meaning is = ap (λ m. m >>= λ y. Ok (make y)) is
made view make (Err refused.NoResources) meaning is = tt

pub told : {V A : Type 0} (view : V → List ℕ) (names : Entries A) (inputs : List (Input A)) (op : Op) (args : List Arg) (arg : ArgumentAt A)
    (answer : Result V Refused) → args_fault names op args ≡ None → arg ≡ argument_at names args → Gives view answer (written args arg) →
    Gives (λ v. record { names = names; shown = Some (view v) }) answer (unless (args_fault names op args) (performed names inputs results.None op args))
told {V} {A} view names inputs op args arg answer right values is =
    let shows : List ℕ → Stepped A = λ text. record { names = names; shown = Some text } in
    let whole : (written args arg >>= λ text. Ok (shows text)) ≡ unless (args_fault names op args) (performed names inputs results.None op args) =
    λ i. unless (sym right i) (written args (values i) >>= λ text. Ok (shows text)) in
    subst (λ m. Gives (λ v. shows (view v)) answer m) whole (made view shows answer (written args arg) is)

-- a value is bound, once the arguments are found to be right and there is room
pub told_value : {A : Type 0} (names : Entries A) (inputs found : List (Input A)) (op : Op) (args : List Arg) (target : Name) (arg : ArgumentAt A)
    (answer : Result (Value A) Refused) → args_fault names op args ≡ None → has_room names target ≡ true → arg ≡ argument_at names args → found ≡ inputs →
    Gives (λ v. v) answer (table_value found op arg) →
    Gives (bound_to names target) answer (unless (args_fault names op args) (performed names inputs (results.One target) op args))
told_value names inputs found op args target arg answer right room values same is =
    let whole : (table_value found op arg >>= λ v. Ok (bound_to names target v)) ≡ unless (args_fault names op args) (performed names inputs (results.One target) op args) =
    λ i. unless (sym right i) (fault_if (not (sym room i)) (fault TooManyNames) (table_value (same i) op (values i) >>= λ v. Ok (bound_to names target v))) in
    subst (λ m. Gives (bound_to names target) answer m) whole (made (λ v. v) (bound_to names target) answer (table_value found op arg) is)

-- a call with a target shows nothing
module _ {A : Type 0} where
  abbrev ShowsNothing : Result (Stepped A) Fault → Type 0
  ShowsNothing answer = IfOk answer (λ stepped. stepped.shown ≡ None)

  after_fault : (fault : Option Fault) (answer : Result (Stepped A) Fault) → ShowsNothing answer → ShowsNothing (unless fault answer)
  after_fault None answer nothing = nothing
  after_fault (Some f) answer nothing = tt

  after_test : (test : Bool) (f : Fault) (answer : Result (Stepped A) Fault) → ShowsNothing answer → ShowsNothing (fault_if test f answer)
  after_test true f answer nothing = tt
  after_test false f answer nothing = nothing

  bound : {X : Type 0} (names : X → Entries A) (answer : Result X Fault) → ShowsNothing (answer >>= λ v. Ok (record { names = names v; shown = None }))
  bound names (Ok v) = refl
  bound names (Err f) = tt

  pub shows_nothing : (names : Entries A) (inputs : List (Input A)) (call : Call A) →
      ((target : Name) × call.results ≡ results.One target) ⊎ ((first : Name) × (second : Name) × call.results ≡ results.Two first second) →
      ShowsNothing (step names inputs call)
  shows_nothing names inputs call (inl (target, one)) =
      rw one (after_fault (args_fault names call.op call.args) _ (after_test (not (has_room names target)) _ _ (bound (bind names target) _)))
  shows_nothing names inputs call (inr (first, second, two)) =
      rw two (after_fault (args_fault names call.op call.args) _
      (after_test (not (binds_of call.op == 2)) _ _ (after_test (not (has_room_for_both names first second)) _ _ (bound (bind_both names first second) _))))
