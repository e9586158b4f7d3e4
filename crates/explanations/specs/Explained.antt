-- The explanation of why a script stopped, after the message about it: the line of the script, what its call takes, what the arguments are
-- and what bound them, and what is wrong. It knows neither tiles nor workers.
-- Source: this library's program.
use Rattle.std.specs.Prelude.{ℕ, zero, suc, ℤ, Bool, true, false, ◌&&◌, ◌++◌, nat_lt}
use Rattle.std.specs.Prelude.{List, [], codes, length, map, if◌then◌else◌}
use Rattle.std.specs.Prelude.{Option, Some, None, Result, Ok, Err}
use Rattle.std.specs.Fmt.{decimal}
use Rattle.std.specs.Option.{option_and_then}
use Rattle.cvl_base.specs.declared.call.Arg.{Arg}
use Rattle.cvl_base.specs.declared.call.Call.{Call}
use Rattle.cvl_base.specs.declared.fault.Fault.{Fault}
use Rattle.cvl_base.specs.declared.fault.FaultNo.{FaultNo}
use Rattle.cvl_base.specs.declared.fault.FaultNo.TheVariants.{BadInput, TooLong}
use Rattle.cvl_base.specs.declared.operation.Op.{Op}
use Rattle.cvl_base.specs.declared.operation.Op.TheVariants.{Input, Nested}
use Rattle.cvl_base.specs.Limits.{most_script_bytes}
use Rattle.bound_names.specs.Arguments.{argument_at, integer_in}
use Rattle.bound_names.specs.Names.{Entries}
use Rattle.line_reader.specs.Lines.{call_of}
use Rattle.explained_calls.specs.CallWords.{call_words}
use Rattle.explained_calls.specs.LineFaults.{line_fault_words}
use Rattle.explained_calls.specs.Sentences.{indented}
use Rattle.explained_calls.specs.Shown.{shown, shown_front}
use Rattle.explained_inputs.specs.InputFaults.{input_fault_words}
use Rattle.explained_values.specs.ValueFaults.{value_fault_words}
use Rattle.script_runs.specs.Meaning.{lines_of, names_left}
use Rattle.script_runs.specs.declared.stop.Stop.{Stop}
use Rattle.script_runs.specs.declared.stop.Stop.TheVariants as stop
use Rattle.vector_handles.specs.declared.input.Input.{Input as GivenInput}
use Rattle.vector_handles.specs.CallValues.{numbered}
use Rattle.vector_handles.specs.InputTexts.{other_text}
use Rattle.explanations.specs.ArgumentLines.{argument_lines, file_at, spelled}
use Rattle.explanations.specs.Bindings.{bound_before, line_at}
use Rattle.explanations.specs.declared.bindings.Binding.{Binding}

-- a line as it is shown; a long one as the characters of its first 200 bytes
abbrev pub shortened_line : List ℕ → List ℕ
shortened_line line = shown_front 200 line

-- `  3 | r = bck_puz v index`
abbrev pub quoted : ℕ → List ℕ → List ℕ
quoted number line = indented (decimal number ++ codes " | " ++ shortened_line line)

-- `the script has 1048577 bytes, and may have at most 1048576`
abbrev pub too_long_words : List ℕ → List ℕ
too_long_words script =
    codes "the script has " ++ decimal (length script) ++ codes " bytes, and may have at most 1048576"

-- the words for a script that was refused memory
abbrev pub memory_words : List ℕ
memory_words = codes "memory ran out: try shorter vectors, bind fewer names, or allow the process more memory"

-- the words for standard output that took no more
abbrev pub write_words : List ℕ
write_words = codes "standard output took no more: is the disk full, or did the reader of a pipe close it?"

-- whether a call reads an input, and one that is a nested text
abbrev pub reads_input : Op → Bool
reads_input Input = true
reads_input Nested = true
reads_input _ = false

-- whether a call reads a nested input
abbrev pub is_nested : Op → Bool
is_nested Nested = true
is_nested _ = false

-- whether a fault may be in an input's text
abbrev pub is_of_text : FaultNo → Bool
is_of_text BadInput = true
is_of_text TooLong = true
is_of_text _ = false

-- `1.txt is a list of numbers, which input reads; nested reads a list of lists, as [[1 2] []]`: also if a line has read it before
abbrev pub numbers_words : Bool → List ℕ → List ℕ
numbers_words true file =
    indented (shown file ++ codes " is a list of numbers, which input reads; nested reads a list of lists, as [[1 2] []]")
numbers_words false file = []

-- the line about the file of an input, by its text if that is no list of numbers, and the place of the token at fault; nothing if the file
-- is not known
abbrev pub text_words : Op → Option (List ℕ) → Option (List ℕ) → Fault → List ℕ
text_words op None text fault = []
text_words op (Some file) None fault = numbers_words (is_nested op) file
text_words op (Some file) (Some text) fault = input_fault_words (is_nested op) file (Some text) fault.place

module _ {A : Type 0} where
  -- the line about the input with this number, counted from 1
  abbrev pub text_fault_words : List (List ℕ) → List (GivenInput A) → Op → ℤ → Fault → List ℕ
  text_fault_words files inputs op number fault =
      text_words op (file_at files number) (option_and_then other_text (numbered inputs number)) fault

  -- what is at fault in a call: an input's text, or the arguments
  abbrev pub call_fault_words : Entries A → List (List ℕ) → List (GivenInput A) → List Binding → Op → List Arg → Fault → List ℕ
  call_fault_words names files inputs bindings op args fault =
      if reads_input op && is_of_text fault.number
      then text_fault_words files inputs op (integer_in (argument_at names args 0)) fault
      else value_fault_words (map (λ binding. binding.name) bindings) (length files) op (map (spelled names) args) fault

  -- what a call takes, its arguments, and what is wrong
  abbrev pub explained_call : Entries A → List (List ℕ) → List (GivenInput A) → List Binding → Call A → Fault → List ℕ
  explained_call names files inputs bindings call fault =
      indented (call_words call.op) ++ argument_lines names files bindings call.args
      ++ call_fault_words names files inputs bindings call.op call.args fault

  -- what is at fault in a line: in its form, or in its call
  abbrev pub explained_line : Entries A → List (List ℕ) → List (GivenInput A) → List Binding
      → List ℕ → Result (Option (Call A)) Fault → Fault → List ℕ
  explained_line names files inputs bindings line (Err f) fault = line_fault_words line fault.number
  explained_line names files inputs bindings line (Ok None) fault = []
  explained_line names files inputs bindings line (Ok (Some call)) fault = explained_call names files inputs bindings call fault

  -- a fault of the script at a line; at line 0 the script is too long
  abbrev pub explained_fault : Entries A → List (List ℕ) → List (GivenInput A) → List ℕ → ℕ → Fault → List ℕ
  explained_fault names files inputs script zero fault = indented (too_long_words script)
  explained_fault names files inputs script (suc n) fault =
      let line = line_at script (suc n) in
      quoted (suc n) line
      ++ explained_line names files inputs (bound_before A script (suc n)) line (call_of line) fault

  -- from the names that are bound at the stop, and the inputs with the names of their files
  abbrev pub explained : Entries A → List (List ℕ) → List (GivenInput A) → List ℕ → Stop → List ℕ
  explained names files inputs script (stop.Script line fault) = explained_fault names files inputs script line fault
  explained names files inputs script (stop.NoResources line) = indented memory_words
  explained names files inputs script (stop.WriteFailed line) = indented write_words

  -- the names that a script leaves when it stops; one that is too long binds none
  abbrev pub names_of_script : List ℕ → List (GivenInput A) → Entries A
  names_of_script script inputs =
      if nat_lt most_script_bytes (length script) then [] else names_left [] inputs (lines_of script)
