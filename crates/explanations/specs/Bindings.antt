-- The names that the lines of a script bind.
-- Source: this library's script format.
use Rattle.std.specs.Prelude.{ℕ, ◌+◌, ◌-◌, ℤ, List, [], ◌∷◌, ◌++◌, map, take, reverse, find, slice_get, nat_eq}
use Rattle.std.specs.Prelude.{Option, Some, None, unwrap_or, Result, Ok}
use Rattle.std.specs.Cmp.Lexicographic.{pointwise}
use Rattle.cvl_base.specs.declared.call.Arg.{Arg}
use Rattle.cvl_base.specs.declared.call.Arg.TheVariants as arg
use Rattle.cvl_base.specs.declared.call.Call.{Call}
use Rattle.cvl_base.specs.declared.call.ResultNames.{ResultNames}
use Rattle.cvl_base.specs.declared.call.ResultNames.TheVariants as results
use Rattle.cvl_base.specs.declared.fault.Fault.{Fault}
use Rattle.cvl_base.specs.declared.operation.Op.{Op}
use Rattle.cvl_base.specs.declared.operation.Op.TheVariants as op
use Rattle.line_reader.specs.Lines.{call_of}
use Rattle.script_runs.specs.Meaning.{lines_of}
use Rattle.explanations.specs.declared.bindings.Binding.{Binding}

-- the line with this number, counted from 1
abbrev pub line_at : List ℕ → ℕ → List ℕ
line_at script line = unwrap_or (slice_get (lines_of script) (line - 1)) []

-- the names that a call binds
abbrev pub names_of : ResultNames → List (List ℕ)
names_of results.None = []
names_of (results.One name) = name ∷ []
names_of (results.Two first second) = first ∷ second ∷ []

-- the number that an argument is; a name is none
abbrev pub literal : Option Arg → Option ℤ
literal (Some (arg.Integer n)) = Some n
literal _ = None

-- the number of the input that a call asks for, if the line says it
abbrev pub input_asked : Op → List Arg → Option ℤ
input_asked op.Input args = literal (slice_get args 0)
input_asked op.Nested args = literal (slice_get args 0)
input_asked _ args = None

module _ {A : Type 0} where
  -- what a line with this number and this call binds
  abbrev pub bound_by_call : ℕ → Result (Option (Call A)) Fault → List Binding
  bound_by_call number (Ok (Some call)) =
      map (λ name. record { name = name; line = number; input = input_asked call.op call.args }) (names_of call.results)
  bound_by_call number _ = []

-- what the lines from the one with this number on bind, line by line
abbrev pub bound_from : (A : Type 0) → ℕ → List (List ℕ) → List Binding
bound_from A number [] = []
bound_from A number (line ∷ lines) = bound_by_call number (call_of {A = A} line) ++ bound_from A (number + 1) lines

-- what the lines before this one bind
abbrev pub bound_before : Type 0 → List ℕ → ℕ → List Binding
bound_before A script line = bound_from A 1 (take (line - 1) (lines_of script))

-- the last binding of a name
abbrev pub last_binding : List ℕ → List Binding → Option Binding
last_binding name bindings = find (λ binding. pointwise nat_eq binding.name name) (reverse bindings)
