-- A line whose text is put, or cut, or that has none.
use Rattle.std.proofs.Common.{◌≡◌, ℕ, List, [], take, None, unwrap_or, Result, Ok, Err, refl, sym, ap}
use Rattle.cvl_base.specs.declared.fault.Fault.{Fault}
use Rattle.vector_handles.specs.Names.{Entries}
use Rattle.vector_handles.specs.Steps.{Stepped}
use Rattle.script_runs.specs.declared.sink.SinkFault.{SinkFault}
use Rattle.script_runs.specs.declared.stop.Stop.{Stop}
use Rattle.script_runs.specs.declared.stop.Stop.TheVariants as stop
use Rattle.script_runs.specs.Ends.{AtFault}
use Rattle.script_runs.specs.Hosts.{Seen}
use Rattle.script_runs.specs.LineRuns.{LineRuns, text_of_step}
use Rattle.script_runs.specs.Sinks.{PutsAll}
use Rattle.script_runs.proofs.Shown.{answer_ok, nothing_answered}

module _ {A : Type 0} where
  pub put_line : (number : ℕ) (meaning : Result (Stepped A) Fault) (stepped : Stepped A) (text : List ℕ) (a b : Seen) → meaning ≡ Ok stepped → text ≡ text_of_step stepped
      → PutsAll a text (Ok tt) b → LineRuns number meaning stepped.names a b (Ok tt)
  put_line number meaning stepped text a b is text_is put =
      record { written = text; ends = (stepped, is, refl, text_is); shown = answer_ok text a b put }

  pub cut_line : (number : ℕ) (meaning : Result (Stepped A) Fault) (stepped : Stepped A) (text : List ℕ) (f : SinkFault) (a b : Seen) → meaning ≡ Ok stepped → text ≡ text_of_step stepped
      → PutsAll a text (Err f) b → LineRuns number meaning stepped.names a b (Err (stop.WriteFailed number))
  cut_line number meaning stepped text f a b is text_is put =
      record { written = take put.0 text; ends = (refl, (stepped, put.0, is, rw text_is at put.1, ap (take put.0) text_is)); shown = put.2 }

  -- a line that shows nothing
  pub silent_line : (number : ℕ) (meaning : Result (Stepped A) Fault) (stepped : Stepped A) (s : Seen) → meaning ≡ Ok stepped → stepped.shown ≡ None
      → LineRuns number meaning stepped.names s s (Ok tt)
  silent_line number meaning stepped s is nothing =
      record { written = []; ends = (stepped, is, refl, ap (λ shown. unwrap_or shown []) (sym nothing)); shown = nothing_answered (Ok tt) s refl }

  -- a line that is refused memory before anything is put
  pub starved_line : (number : ℕ) (meaning : Result (Stepped A) Fault) (names : Entries A) (s : Seen) → LineRuns number meaning names s s (Err (stop.NoResources number))
  starved_line number meaning names s =
      record { written = []; ends = (refl, refl); shown = nothing_answered (Err (stop.NoResources number)) s refl }

-- what holds anyhow holds at a fault
pub anyhow : (answer : Result (Unit {0}) Stop) (claim : Type 0) → claim → AtFault answer claim
anyhow (Ok done) claim holds = tt
anyhow (Err (stop.Script line f)) claim holds = holds
anyhow (Err (stop.NoResources line)) claim holds = tt
anyhow (Err (stop.WriteFailed line)) claim holds = tt
