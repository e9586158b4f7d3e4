-- What the answer of a recipe says of its script, by how the run ended.
use Rattle.std.proofs.Common.{◌≡◌, ℕ, List, ap, subst, ◌∙◌, Some, Option, Ok, Err, Result}
use Rattle.std.specs.Result.{IsErrAnd}
use Rattle.std.proofs.lemmas.Result.{err_from_is_err_and}
use Rattle.cvl_base.specs.declared.fault.Fault.{Fault}
use Rattle.cvl_base.specs.declared.refused.Refused.{Refused}
use Rattle.cvl_base.specs.declared.refused.Refused.TheVariants as refused
use Rattle.cvl_base.specs.declared.value.Value.{Value}
use Rattle.cvl_base.specs.Gives.{Gives, ◌>>=◌}
use Rattle.vector_handles.specs.declared.input.Input.{Input}
use Rattle.vector_handles.specs.Names.{Entries, value_at}
use Rattle.recipes.specs.Recipes.{GivesBound, bound_by, names_bound}

-- the refusal is one that the definition allows
abbrev pub Refuses : {Y : Type 0} → Refused → Result Y Fault → Type 0
Refuses {Y = Y} e meaning = Gives {X = Y} {Y = Y} (λ y. y) (Err e) meaning

-- a refusal of the first of two definitions is one of both
refused_first : {Y W : Type 0} (e : Refused) (first : Result Y Fault) (next : Y → Result W Fault) → Refuses e first → Refuses e (first >>= next)
refused_first (refused.Fault f) first next gives = ap (λ r. r >>= next) gives
refused_first refused.NoResources first next gives = tt

-- a run over inputs that are these
pub run_over : {A : Type 0} (script : List ℕ) (given inputs : List (Input A)) (names : Entries A) → given ≡ inputs → names_bound script given ≡ Ok names → names_bound script inputs ≡ Ok names
run_over script given inputs names these run = subst (λ over. names_bound script over ≡ Ok names) these run

module _ {A X : Type 0} (view : X → Value A) (script : List ℕ) (inputs : List (Input A)) (name : List ℕ) where
  -- an answer that says that no memory was left
  pub out_of_memory : (answer : Result X Refused) → IsErrAnd answer (λ e. e ≡ refused.NoResources) → GivesBound view answer script inputs name
  out_of_memory answer is = let p = err_from_is_err_and answer is in rw (p.1, p.2) tt

  module _ (given : List (Input A)) (these : given ≡ inputs) where
    -- the refusal of the run over these inputs is the answer
    pub refused_by_run : (answer : Result X Refused) (e : Refused) → IsErrAnd answer (λ f. f ≡ e) → Refuses e (names_bound script given) → GivesBound view answer script inputs name
    refused_by_run answer e is run =
        let p = err_from_is_err_and answer is in
        rw (p.1, p.2)
        (refused_first e (names_bound script inputs) (λ names. Ok (value_at names name)) (subst (λ over. Refuses e (names_bound script over)) these run))

    -- the value that is bound after the run over these inputs is the answer
    pub bound_after_run : (names : Entries A) (x : X) → names_bound script given ≡ Ok names → value_at names name ≡ Some (view x) → bound_by script inputs name ≡ Ok (Some (view x))
    bound_after_run names x run here = ap (λ r. r >>= λ after. Ok (value_at after name)) (run_over script given inputs names these run) ∙ ap Ok here

-- an answer by a script that binds this value is the value
pub is_answer : {A X Y : Type 0} (make : Y → Value A) (view : X → Y) (answer : Result X Refused) (bound : Result (Option (Value A)) Fault) (y : Y) → ((a b : Y) → make a ≡ make b → a ≡ b)
    → Gives (λ x. Some (make (view x))) answer bound → bound ≡ Ok (Some (make y)) → Gives view answer (Ok y)
is_answer make view (Ok x) bound y apart gives is =
    let same : make y ≡ make (view x) = cc in ap Ok (apart y (view x) same)
is_answer make view (Err (refused.Fault f)) bound y apart gives is = cc
is_answer make view (Err refused.NoResources) bound y apart gives is = tt
