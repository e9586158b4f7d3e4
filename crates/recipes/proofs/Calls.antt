-- Scripts by their calls: once each line is read, the names that a script leaves are those after its calls.
use Rattle.std.proofs.Common.{◌≡◌, ℕ, ◌+◌, List, [], ◌∷◌, map, refl, ap, ◌∙◌, Some, None, Option, Ok, Err, Result}
use Rattle.cvl_base.specs.declared.fault.Fault.{Fault}
use Rattle.cvl_base.specs.declared.call.Arg.{Arg}
use Rattle.cvl_base.specs.declared.call.Call.{Call}
use Rattle.cvl_base.specs.declared.call.ResultNames.TheVariants as results
use Rattle.cvl_base.specs.declared.operation.Op.{Op}
use Rattle.cvl_base.specs.declared.value.Value.{Value}
use Rattle.cvl_base.specs.Gives.{◌>>=◌, unless}
use Rattle.line_reader.specs.Lines.{call_of}
use Rattle.vector_handles.specs.declared.input.Input.{Input}
use Rattle.vector_handles.specs.Names.{Entries}
use Rattle.vector_handles.specs.Steps.{Stepped, step}
use Rattle.script_runs.specs.Meaning.{after_line, call_step, from_line, names_after_line, names_left, stop_fault}

-- a definition has one value
pub one_value : {X : Type 0} (x y : X) → ◌≡◌ {A = Result X Fault} (Ok x) (Ok y) → x ≡ y
one_value x y e = cc

module _ {A : Type 0} where
  -- a line that binds a name to what a call gives
  abbrev pub binds : List ℕ → Op → List Arg → Call A
  binds target op args = record { results = results.One target; op = op; args = args }

  -- lines that are these calls, and an empty line after the last line feed
  abbrev pub reads_all : List (Call A) → List (Result (Option (Call A)) Fault)
  reads_all [] = Ok None ∷ []
  reads_all (call ∷ calls) = Ok (Some call) ∷ reads_all calls

  abbrev pub names_after_calls : Entries A → List (Input A) → List (Call A) → Result (Entries A) Fault
  names_after_calls names inputs [] = Ok names
  names_after_calls names inputs (call ∷ others) =
      (step names inputs call >>= λ stepped. Ok stepped.names) >>= λ after. names_after_calls after inputs others

  -- the names that the lines from a number on leave
  abbrev left_from : ℕ → Entries A → List (Input A) → List (List ℕ) → Result (Entries A) Fault
  left_from number names inputs lines = unless (stop_fault (from_line number names inputs lines)) (Ok (names_left names inputs lines))

  -- likewise, where the first line is read as this
  abbrev left_reading : ℕ → Entries A → List (Input A) → List (List ℕ) → Result (Option (Call A)) Fault → Result (Entries A) Fault
  left_reading number names inputs others read =
      unless (stop_fault (after_line number (read >>= call_step names inputs) (λ after. from_line (number + 1) after inputs others)))
      (Ok (names_after_line names (read >>= call_step names inputs) (λ after. names_left after inputs others)))

  first_call : (number : ℕ) (names : Entries A) (inputs : List (Input A)) (others : List (List ℕ)) (stepped : Result (Stepped A) Fault) →
      unless (stop_fault (after_line number stepped (λ after. from_line (number + 1) after inputs others))) (Ok (names_after_line names stepped (λ after. names_left after inputs others)))
      ≡ ((stepped >>= λ s. Ok s.names) >>= λ after. left_from (number + 1) after inputs others)
  first_call number names inputs others (Ok stepped) = refl
  first_call number names inputs others (Err f) = refl

  pub by_calls : (number : ℕ) (names : Entries A) (inputs : List (Input A)) (lines : List (List ℕ)) (calls : List (Call A)) → map call_of lines ≡ reads_all calls
      → left_from number names inputs lines ≡ names_after_calls names inputs calls
  by_calls number names inputs [] [] is = cc
  by_calls number names inputs [] (call ∷ calls) is = cc
  by_calls number names inputs (line ∷ []) [] is =
      let first : call_of line ≡ Ok None = cc in ap (left_reading number names inputs []) first
  by_calls number names inputs (line ∷ next ∷ others) [] is = cc
  by_calls number names inputs (line ∷ others) (call ∷ calls) is =
      let first : call_of line ≡ Ok (Some call) = cc in
      let later : map call_of others ≡ reads_all calls = cc in
      ap (left_reading number names inputs others) first
      ∙ first_call number names inputs others (step names inputs call)
      ∙ (λ i. (step names inputs call >>= λ stepped. Ok stepped.names) >>= λ after. by_calls (number + 1) after inputs others calls later i)

  abbrev after_binding : (Value A → Entries A) → Value A → Result (Stepped A) Fault
  after_binding bound v = Ok (record { names = bound v; shown = None })

  -- a call with this answer, made a value, which is bound before the other calls
  abbrev pub bound_before : {X : Type 0} → Result X Fault → (X → Value A) → (Value A → Entries A) → List (Input A) → List (Call A) → Result (Entries A) Fault
  bound_before answer make bound inputs others =
      (((answer >>= λ x. Ok (make x)) >>= after_binding bound) >>= λ stepped. Ok stepped.names)
      >>= λ after. names_after_calls after inputs others

  -- a call whose answer is known
  pub goes_on : {X : Type 0} {answer : Result X Fault} {x : X} (make : X → Value A) (bound : Value A → Entries A) (inputs : List (Input A)) (others : List (Call A)) → answer ≡ Ok x
      → bound_before answer make bound inputs others ≡ names_after_calls (bound (make x)) inputs others
  goes_on make bound inputs others is = ap (λ r. bound_before r make bound inputs others) is

  -- a call that leaves names, with those after it, has a value
  pub went_on : {X : Type 0} (answer : Result X Fault) (make : X → Value A) (bound : Value A → Entries A) (inputs : List (Input A)) (others : List (Call A)) (names : Entries A)
      → bound_before answer make bound inputs others ≡ Ok names → (x : X) × (answer ≡ Ok x) × (names_after_calls (bound (make x)) inputs others ≡ Ok names)
  went_on (Ok x) make bound inputs others names is = (x, refl, is)
  went_on (Err f) make bound inputs others names is = cc
