-- How a run may end: with the meaning of its script, or cut off within it if memory is refused or the sink fails.
-- Source: this library.
use Rattle.std.specs.Prelude.{◌≡◌, ℕ, ◌-◌, ◌≤◌, ◌<◌, ◌==◌, List, [], ◌++◌, length, take, slice_get, Some, None, unwrap_or, option_map}
use Rattle.std.specs.Prelude.{Result, Ok, Err, if◌then◌else◌}
use Rattle.std.specs.List.{concat}
use Rattle.script_runs.specs.declared.stop.Stop.{Stop}
use Rattle.script_runs.specs.declared.stop.Stop.TheVariants as stop
use Rattle.script_runs.specs.Hosts.{Seen, Shows, with_failures, with_output}
use Rattle.script_runs.specs.Meaning.{Meaning, text_of_script}

-- the text of the line with this number, counted from 1
abbrev pub line_text : Meaning → ℕ → List ℕ
line_text m line = if line == 0 then [] else unwrap_or (slice_get m.texts (line - 1)) []

-- the meaning comes as far as this line; line 0 is before the first
abbrev pub Reaches : Meaning → ℕ → Type 0
Reaches m line = line ≤ unwrap_or (option_map (λ s. s.0) m.stop) (length m.texts)

-- all text of the lines before, and so many bytes of the line's own
abbrev pub text_up_to : Meaning → ℕ → ℕ → List ℕ
text_up_to m line n = concat (take (line - 1) m.texts) ++ take n (line_text m line)

-- a line was reached, and what is written is the text of the lines before it and a beginning of its own
pub record IsCutAt (m : Meaning) (line : ℕ) (written : List ℕ) : Type 0 where
  pub reached : Reaches m line
  pub beginning : (n : ℕ) × (written ≡ text_up_to m line n)

-- likewise, and the line's text is not whole
pub record IsCutShortAt (m : Meaning) (line : ℕ) (written : List ℕ) : Type 0 where
  pub reached : Reaches m line
  pub beginning : (n : ℕ) × (n < length (line_text m line)) × (written ≡ text_up_to m line n)

-- the answer of a run and what it wrote agree with the meaning of its script
abbrev pub EndsAs : Meaning → List ℕ → Result (Unit {0}) Stop → Type 0
EndsAs m written (Ok done) = (m.stop ≡ None) × (written ≡ text_of_script m)
EndsAs m written (Err (stop.Script line f)) = (m.stop ≡ Some (line, f)) × (written ≡ text_of_script m)
EndsAs m written (Err (stop.NoResources line)) = IsCutAt m line written
EndsAs m written (Err (stop.WriteFailed line)) = IsCutShortAt m line written

-- what holds if a line has a fault
abbrev pub AtFault : Result (Unit {0}) Stop → Type 0 → Type 0
AtFault (Ok done) claim = Unit {0}
AtFault (Err (stop.Script line f)) claim = claim
AtFault (Err (stop.NoResources line)) claim = Unit {0}
AtFault (Err (stop.WriteFailed line)) claim = Unit {0}

-- what holds if the run came to its end, or to a line that has a fault
abbrev pub AtEnd : Result (Unit {0}) Stop → Type 0 → Type 0
AtEnd (Ok done) claim = claim
AtEnd (Err why) claim = AtFault (Err why) claim

-- how often the sink failed in the run: once if the answer says so, and else never
abbrev pub failures_in : Result (Unit {0}) Stop → ℕ
failures_in (Ok done) = 0
failures_in (Err (stop.Script line f)) = 0
failures_in (Err (stop.NoResources line)) = 0
failures_in (Err (stop.WriteFailed line)) = 1

-- standard output has taken the text, and failed if the answer says so
abbrev pub with_answer : List ℕ → Result (Unit {0}) Stop → Seen → Seen
with_answer written answer s = with_failures (failures_in answer) (with_output written s)

-- a run changed what the sink shows, and gave this answer
pub record Runs (m : Meaning) (before after : Seen) (answer : Result (Unit {0}) Stop) : Type 0 where
  pub written : List ℕ
  pub ends : EndsAs m written answer
  pub shown : Shows (with_answer written answer before) after
