-- The two values of a nested input, once its number is found.
use Rattle.std.proofs.Common.{◌≡◌, List, subst, Some, Result}
use Rattle.std.specs.Option.{ok_or}
use Rattle.cvl_base.specs.declared.fault.FaultNo.TheVariants.{NoSuchInput}
use Rattle.cvl_base.specs.declared.refused.Refused.{Refused}
use Rattle.cvl_base.specs.declared.value.Value.{Value}
use Rattle.cvl_base.specs.Faults.{fault}
use Rattle.cvl_base.specs.Gives.{Gives, ◌>>=◌}
use Rattle.vector_handles.specs.declared.input.Input.{Input}
use Rattle.bound_names.specs.Arguments.{integer_in}
use Rattle.vector_handles.specs.CallValues.{nest_of, nested_values, numbered, vector_and_descriptor}
use Rattle.vector_handles.specs.Families.{ArgumentAt}

pub pair_is : {A : Type 0} (inputs : List (Input A)) (input : Input A) (arg : ArgumentAt A) (answer : Result (Value A × Value A) Refused) →
    Some input ≡ numbered inputs (integer_in (arg 0)) → Gives (λ both. both) answer (vector_and_descriptor (nest_of input)) →
    Gives (λ both. both) answer (nested_values inputs arg)
pair_is inputs input arg answer found gives =
    subst (λ n. Gives (λ both. both) answer (ok_or n (fault NoSuchInput) >>= λ found. vector_and_descriptor (nest_of found))) found gives
