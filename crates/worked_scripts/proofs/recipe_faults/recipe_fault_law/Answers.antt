use Rattle.std.proofs.Common.{◌≡◌, List, [], ℕ, Some, None, Option, Ok, refl}
use Rattle.cvl_base.specs.declared.fault.Fault.{Fault}
use Rattle.cvl_base.specs.Gives.{◌>>=◌, unless}
use Rattle.vector_handles.specs.Names.{Entries, value_at}
use Rattle.script_runs.specs.Meaning.{lines_of, meaning, names_left, stop_fault}
use Rattle.worked_scripts.specs.Faults.{fault_of}
use Rattle.worked_scripts.proofs.recipe_faults.recipe_fault_law.Goals as goal

by_stop : {A : Type 0} (stop : Option Fault) (left : Entries A) (name : List ℕ) → fault_of (unless stop (Ok left) >>= λ names. Ok (value_at names name)) ≡ stop
by_stop None left name = refl
by_stop (Some f) left name = refl

pub returns : goal.returns
returns g c = λ script inputs name. by_stop (stop_fault (meaning script inputs)) (names_left [] inputs (lines_of script)) name
