-- The meaning of a line: from the bound names and the inputs, either the new names with the text of the line, or the
-- first fault in the order of checks. A binding changes its one name or its two names, and a write changes none.
-- Source: this library's script format.
use Rattle.std.specs.Prelude.{ℕ, not, ◌==◌, List, [], ◌∷◌, ◌++◌, codes, slice_get, Option, Some, None, Result, Ok}
use Rattle.cvl_base.specs.declared.value.Value.{Value}
use Rattle.cvl_base.specs.declared.call.Arg.{Arg}
use Rattle.cvl_base.specs.declared.call.Arg.TheVariants as arg
use Rattle.cvl_base.specs.declared.call.Call.{Call}
use Rattle.cvl_base.specs.declared.call.ResultNames.{ResultNames}
use Rattle.cvl_base.specs.declared.call.ResultNames.TheVariants as results
use Rattle.cvl_base.specs.declared.operation.Op.{Op}
use Rattle.cvl_base.specs.declared.fault.Fault.{Fault}
use Rattle.cvl_base.specs.declared.fault.FaultNo.TheVariants.{TooManyNames, WrongArgumentCount}
use Rattle.cvl_base.specs.Calls.{binds_of}
use Rattle.cvl_base.specs.Faults.{fault}
use Rattle.cvl_base.specs.Gives.{◌>>=◌, unless, fault_if}
use Rattle.call_reader.specs.Texts.{value_text}
use Rattle.vector_handles.specs.declared.input.Input.{Input}
use Rattle.vector_handles.specs.CallValues.{table_pair, table_value}
use Rattle.vector_handles.specs.Families.{ArgumentAt}
use Rattle.bound_names.specs.Names.{Entries, bind, bind_both, has_room, has_room_for_both}
use Rattle.bound_names.specs.Arguments.{args_fault, argument_at, descriptor_in}

-- what a line leaves: the bound names, and the text if it is a write
pub record Stepped (A : Type 0) : Type 0 where
  pub names : Entries A
  pub shown : Option (List ℕ)

-- the name of an argument; a literal has none
abbrev pub name_in : Option Arg → List ℕ
name_in (Some (arg.Name name)) = name
name_in _ = []

module _ {A : Type 0} where
  -- the text of a value, cut by a second one if that is a descriptor
  abbrev text_beside : Option (Value A) → Option (Value A) → Result (List ℕ) Fault
  text_beside None beside = Ok []
  text_beside (Some v) beside = value_text (descriptor_in beside) v

  -- the text of the first argument, cut by the second
  abbrev pub shown_text_of : ArgumentAt A → Result (List ℕ) Fault
  shown_text_of arg = text_beside (arg 0) (arg 1)

  -- the name, ` = `, the value and a line feed (10)
  abbrev pub written : List Arg → ArgumentAt A → Result (List ℕ) Fault
  written args arg =
      shown_text_of arg >>= λ text. Ok (name_in (slice_get args 0) ++ codes " = " ++ text ++ (10 ∷ []))

  -- the names with this value bound, and no text
  abbrev pub bound_to : Entries A → List ℕ → Value A → Stepped A
  bound_to names target v = record { names = bind names target v; shown = None }

  -- the names with two of them bound to these values, and no text
  abbrev pub both_bound_to : Entries A → List ℕ → List ℕ → Value A × Value A → Stepped A
  both_bound_to names first second both = record { names = bind_both names first second both; shown = None }

  -- what happens once the arguments are right
  abbrev pub performed : Entries A → List (Input A) → ResultNames → Op → List Arg → Result (Stepped A) Fault
  performed names inputs results.None op args =
      written args (argument_at names args) >>= λ text. Ok (record { names = names; shown = Some text })
  performed names inputs (results.One target) op args =
      fault_if (not (has_room names target)) (fault TooManyNames)
      (table_value inputs op (argument_at names args) >>= λ v. Ok (bound_to names target v))
  performed names inputs (results.Two first second) op args =
      fault_if (not (binds_of op == 2)) (fault WrongArgumentCount)
      (fault_if (not (has_room_for_both names first second)) (fault TooManyNames)
      (table_pair inputs op (argument_at names args) >>= λ both. Ok (both_bound_to names first second both)))

  -- the meaning of a call: the new names and the text, or the first fault
  abbrev pub step : Entries A → List (Input A) → Call A → Result (Stepped A) Fault
  step names inputs call =
      unless (args_fault names call.op call.args) (performed names inputs call.results call.op call.args)
