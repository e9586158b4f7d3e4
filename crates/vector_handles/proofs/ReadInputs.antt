-- The fault of an input that a call reads before it is made.
use Rattle.std.proofs.Common.{◌≡◌, ◌∙◌, ◌-◌, ◌==◌, ℕ, Bool, true, false, ℤ, pos, negsuc, List, Option, Some, None, Result, Ok, Err}
use Rattle.std.proofs.Common.{IsErrAnd, option_and_then, slice_get, if◌then◌else◌, refl, subst, sym, ap}
use Rattle.std.proofs.lemmas.Result.{err_from_is_err_and}
use Rattle.std.specs.Option.{ok_or}
use Rattle.cvl_base.specs.declared.fault.Fault.{Fault}
use Rattle.cvl_base.specs.declared.fault.FaultNo.TheVariants.{NoSuchInput}
use Rattle.cvl_base.specs.declared.refused.Refused.{Refused}
use Rattle.cvl_base.specs.declared.refused.Refused.TheVariants as refused
use Rattle.cvl_base.specs.Faults.{fault}
use Rattle.cvl_base.specs.Gives.{Gives, ◌>>=◌}
use Rattle.bound_names.specs.Arguments.{integer_in}
use Rattle.vector_handles.specs.declared.input.Input.{Input}
use Rattle.vector_handles.specs.Answers.{RefusesAs}
use Rattle.vector_handles.specs.CallValues.{input_value, integers_of, numbered}
use Rattle.vector_handles.specs.ElementTypes.{integer}
use Rattle.vector_handles.specs.Families.{ArgumentAt, vector}
use Rattle.vector_handles.specs.InputTexts.{place_of}

-- a refusal is given as what the definition gives
given : {X : Type 0} (refusal : Refused) (meaning : Result X Fault) → RefusesAs {U = Unit {0}} (Err refusal) meaning → Gives (λ (x : X). x) (Err refusal) meaning
given (refused.Fault f) meaning is = is
given refused.NoResources meaning is = tt

-- what the exit of a `?` returns
pub refused_gives : {X : Type 0} (result : Result X Refused) (refusal : Refused) (meaning : Result X Fault) → IsErrAnd result (λ r. r ≡ refusal)
    → RefusesAs {U = Unit {0}} (Err refusal) meaning → Gives (λ (x : X). x) result meaning
refused_gives {X} result refusal meaning is refuses =
    let p = err_from_is_err_and result is in
    let whole : result ≡ Err refusal = p.1 ∙ ap Err p.2 in
    subst (λ (r : Result X Refused). Gives (λ (x : X). x) r meaning) (sym whole) (given refusal meaning refuses)

-- a test before a lookup
by_test : {X : Type 0} (test : Bool) (get : ℕ → Option X) (place : ℕ)
    → (if test then None else get place) ≡ option_and_then get (if test then None else Some place)
by_test true get place = refl
by_test false get place = refl

-- a fault of the integers is the call's
refused_vector : (A : Type 0) {U : Type 0} (answer : Result U Refused) (integers : Result (List ℤ) Fault) → RefusesAs answer integers
    → RefusesAs answer (vector {A = A} integer integers)
refused_vector A (Ok done) integers is = tt
refused_vector A (Err (refused.Fault f)) integers is = ap (λ (r : Result (List ℤ) Fault). vector {A = A} integer r) is
refused_vector A (Err refused.NoResources) integers is = tt

module _ {A : Type 0} where
  refused_input : {U : Type 0} (answer : Result U Refused) (inputs : List (Input A)) (input : Input A) (arg : ArgumentAt A)
      → Some input ≡ numbered inputs (integer_in (arg 0)) → RefusesAs answer (integers_of input) → RefusesAs answer (input_value inputs arg)
  refused_input answer inputs input arg found is =
      subst (λ (n : Option (Input A)). RefusesAs answer (ok_or n (fault NoSuchInput) >>= λ found. vector {A = A} integer (integers_of found))) found
      (refused_vector A answer (integers_of input) is)

  -- an input is found at its place
  numbered_place : (inputs : List (Input A)) (number : ℤ) → numbered inputs number ≡ option_and_then (slice_get inputs) (place_of number)
  numbered_place inputs (pos n) = by_test (n == 0) (slice_get inputs) (n - 1)
  numbered_place inputs (negsuc n) = refl

  pub refused_at_place : {U : Type 0} (answer : Result U Refused) (inputs : List (Input A)) (input : Input A) (arg : ArgumentAt A) (number : ℤ) (place : ℕ)
      → number ≡ integer_in (arg 0) → place_of number ≡ Some place → slice_get inputs place ≡ Some input → RefusesAs answer (integers_of input)
      → RefusesAs answer (input_value inputs arg)
  refused_at_place answer inputs input arg number place is at found refuses =
      refused_input answer inputs input arg
      (sym (ap (λ n. numbered inputs n) (sym is) ∙ numbered_place inputs number ∙ ap (option_and_then (slice_get inputs)) at ∙ found)) refuses
