-- What a script binds to a name: the value that its lines leave there, or the fault at which its run stops, without the line.
-- Source: this library's script format.
use Rattle.std.specs.Prelude.{◌≡◌, ℕ, ℤ, Bool, List, [], Option, Some, Result, Ok, Err}
use Rattle.cvl_base.specs.declared.fault.Fault.{Fault}
use Rattle.cvl_base.specs.declared.value.Value.{Value}
use Rattle.cvl_base.specs.declared.value.Value.TheVariants as value
use Rattle.cvl_base.specs.declared.refused.Refused.{Refused}
use Rattle.cvl_base.specs.Gives.{Gives, ◌>>=◌, unless}
use Rattle.vector_handles.specs.declared.input.Input.{Input}
use Rattle.vector_handles.specs.Names.{Entries, value_at}
use Rattle.script_runs.specs.Meaning.{lines_of, meaning, names_left, stop_fault}

module _ {A : Type 0} where
  -- the names that a script leaves
  abbrev pub names_bound : List ℕ → List (Input A) → Result (Entries A) Fault
  names_bound script inputs = unless (stop_fault (meaning script inputs)) (Ok (names_left [] inputs (lines_of script)))

  -- what a script binds to a name
  abbrev pub bound_by : List ℕ → List (Input A) → List ℕ → Result (Option (Value A)) Fault
  bound_by script inputs name = names_bound script inputs >>= λ names. Ok (value_at names name)

  -- the answer, seen by `view` as a value, is what the script binds to the name
  abbrev pub GivesBound : {X : Type 0} → (X → Value A) → Result X Refused → List ℕ → List (Input A) → List ℕ → Type 0
  GivesBound view answer script inputs name = Gives (λ x. Some (view x)) answer (bound_by script inputs name)

  -- the name is bound to a vector of integers, or of booleans
  abbrev pub HasIntegers : Entries A → List ℕ → Type 0
  HasIntegers names name = (xs : List ℤ) × (value_at names name ≡ Some (value.Integers xs))

  -- a name is bound to a vector of booleans
  abbrev pub HasBooleans : Entries A → List ℕ → Type 0
  HasBooleans names name = (bs : List Bool) × (value_at names name ≡ Some (value.Booleans bs))

  -- a vector of integers, as a script binds it, or the fault
  abbrev pub as_bound : Result (List ℤ) Fault → Result (Option (Value A)) Fault
  as_bound (Ok xs) = Ok (Some (value.Integers xs))
  as_bound (Err f) = Err f
