-- How the run of one line may end: with its text whole in the sink and the names that it leaves, or as a run of the
-- script ends at this line.
-- Source: this library.
use Rattle.std.specs.Prelude.{◌≡◌, ℕ, ◌<◌, List, [], length, take, unwrap_or, Some, Result, Ok, Err}
use Rattle.cvl_base.specs.declared.fault.Fault.{Fault}
use Rattle.cvl_base.specs.declared.refused.Refused.{Refused}
use Rattle.cvl_base.specs.declared.refused.Refused.TheVariants as refused
use Rattle.vector_handles.specs.Names.{Entries}
use Rattle.vector_handles.specs.Steps.{Stepped}
use Rattle.script_runs.specs.declared.stop.Stop.{Stop}
use Rattle.script_runs.specs.declared.stop.Stop.TheVariants as stop
use Rattle.script_runs.specs.Ends.{with_answer}
use Rattle.script_runs.specs.Hosts.{Seen, Shows}

-- the stop at a line whose read or call was refused
abbrev pub refused_at : ℕ → Refused → Stop
refused_at number (refused.Fault f) = stop.Script number f
refused_at number refused.NoResources = stop.NoResources number

module _ {A : Type 0} where
  -- a line that leaves these names and has this text
  abbrev pub with_text : Entries A → List ℕ → Stepped A
  with_text names text = record { names = names; shown = Some text }

  -- the text that a line shows; empty if it shows none
  abbrev pub text_of_step : Stepped A → List ℕ
  text_of_step stepped = unwrap_or stepped.shown []

  -- the answer of a line's run, the names that it leaves and what it wrote agree with the line's meaning
  abbrev pub LineEndsAs : ℕ → Result (Stepped A) Fault → Entries A → List ℕ → Result (Unit {0}) Stop → Type 0
  LineEndsAs number meaning names written (Ok done) =
      (stepped : Stepped A) × (meaning ≡ Ok stepped) × (names ≡ stepped.names)
      × (written ≡ text_of_step stepped)
  LineEndsAs number meaning names written (Err (stop.Script line f)) =
      (line ≡ number) × (meaning ≡ Err f) × (written ≡ [])
  LineEndsAs number meaning names written (Err (stop.NoResources line)) = (line ≡ number) × (written ≡ [])
  LineEndsAs number meaning names written (Err (stop.WriteFailed line)) =
      (line ≡ number)
      × ((stepped : Stepped A) × (n : ℕ) × (meaning ≡ Ok stepped) × (n < length (text_of_step stepped))
      × (written ≡ take n (text_of_step stepped)))

  -- as of the run of a script
  pub record LineRuns
      (number : ℕ) (meaning : Result (Stepped A) Fault) (names : Entries A) (before after : Seen)
      (answer : Result (Unit {0}) Stop) : Type 0 where
    pub written : List ℕ
    pub ends : LineEndsAs number meaning names written answer
    pub shown : Shows (with_answer written answer before) after
