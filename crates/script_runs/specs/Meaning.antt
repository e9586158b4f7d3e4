-- The meaning of a script: the text of each line that has run, and perhaps the line of the first fault with its fault.
-- It knows neither tiles nor workers.
-- Source: this library's script format.
use Rattle.std.specs.Prelude.{ℕ, ◌+◌, ◌==◌, nat_lt, List, [], ◌∷◌, map, length, Option, Some, None, option_map, unwrap_or, Result, Ok, Err}
use Rattle.std.specs.Prelude.{if◌then◌else◌}
use Rattle.std.specs.List.{slice_split, concat}
use Rattle.std.specs.Str.Lines.{strip_carriage_return}
use Rattle.cvl_base.specs.declared.call.Call.{Call}
use Rattle.cvl_base.specs.declared.fault.Fault.{Fault}
use Rattle.cvl_base.specs.declared.fault.FaultNo.TheVariants.{ScriptTooLong}
use Rattle.cvl_base.specs.Faults.{fault}
use Rattle.cvl_base.specs.Gives.{◌>>=◌}
use Rattle.cvl_base.specs.Limits.{most_script_bytes}
use Rattle.line_reader.specs.Lines.{call_of}
use Rattle.vector_handles.specs.declared.input.Input.{Input}
use Rattle.vector_handles.specs.Names.{Entries}
use Rattle.vector_handles.specs.Steps.{Stepped, step}

-- the texts of the lines that ran, and the line and the fault at which the script stops, if it does
pub record Meaning : Type 0 where
  pub texts : List (List ℕ)
  pub stop : Option (ℕ × Fault)

-- the lines are cut at each line feed (10), and lose the one carriage return at their end
abbrev pub lines_of : List ℕ → List (List ℕ)
lines_of script = map strip_carriage_return (slice_split (λ b. b == 10) script)

module _ {A : Type 0} where
  -- an empty line changes and shows nothing
  abbrev pub call_step : Entries A → List (Input A) → Option (Call A) → Result (Stepped A) Fault
  call_step names inputs None = Ok (record { names = names; shown = None })
  call_step names inputs (Some call) = step names inputs call

  -- the meaning of a line: it is read, and its call is made
  abbrev pub line_step : Entries A → List (Input A) → List ℕ → Result (Stepped A) Fault
  line_step names inputs line = call_of line >>= call_step names inputs

  -- a fault ends the script at its line; else the line's text comes before the rest
  abbrev pub after_line : ℕ → Result (Stepped A) Fault → (Entries A → Meaning) → Meaning
  after_line number (Err f) rest = record { texts = []; stop = Some (number, f) }
  after_line number (Ok stepped) rest =
      record { texts = unwrap_or stepped.shown [] ∷ (rest stepped.names).texts; stop = (rest stepped.names).stop }

  -- the lines from the one with this number on, counted from 1
  abbrev pub from_line : ℕ → Entries A → List (Input A) → List (List ℕ) → Meaning
  from_line number names inputs [] = record { texts = []; stop = None }
  from_line number names inputs (line ∷ lines) =
      after_line number (line_step names inputs line) (λ after. from_line (number + 1) after inputs lines)

  -- a line with a fault changes no names, and no line runs after it
  abbrev pub names_after_line : Entries A → Result (Stepped A) Fault → (Entries A → Entries A) → Entries A
  names_after_line names (Err f) rest = names
  names_after_line names (Ok stepped) rest = rest stepped.names

  -- the names that the lines leave
  abbrev pub names_left : Entries A → List (Input A) → List (List ℕ) → Entries A
  names_left names inputs [] = names
  names_left names inputs (line ∷ lines) =
      names_after_line names (line_step names inputs line) (λ after. names_left after inputs lines)

  -- a script with too many bytes is a fault before its first line
  abbrev pub meaning : List ℕ → List (Input A) → Meaning
  meaning script inputs =
      if nat_lt most_script_bytes (length script)
      then record { texts = []; stop = Some (0, fault ScriptTooLong) }
      else from_line 1 [] inputs (lines_of script)

-- the fault at which a script stops, without its line
abbrev pub stop_fault : Meaning → Option Fault
stop_fault m = option_map (λ stop. stop.1) m.stop

-- the text of the whole script, up to its first fault
abbrev pub text_of_script : Meaning → List ℕ
text_of_script m = concat m.texts
