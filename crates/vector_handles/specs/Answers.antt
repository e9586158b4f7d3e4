-- How the answers of a session's calls relate to their definitions.
-- Source: this library.
use Rattle.std.specs.Prelude.{◌≡◌, ℕ, ℤ, List, Option, Result, Ok, Err}
use Rattle.cvl_base.specs.declared.call.Call.{Call}
use Rattle.cvl_base.specs.declared.fault.Fault.{Fault}
use Rattle.cvl_base.specs.declared.operation.Op.{Op}
use Rattle.cvl_base.specs.declared.refused.Refused.{Refused}
use Rattle.cvl_base.specs.declared.refused.Refused.TheVariants as refused
use Rattle.cvl_base.specs.declared.value.Value.{Value}
use Rattle.cvl_base.specs.Gives.{Gives}
use Rattle.call_reader.specs.Texts.{after_bytes}
use Rattle.vector_handles.specs.declared.input.Input.{Input}
use Rattle.vector_handles.specs.declared.shown.Shown.{Shown}
use Rattle.bound_names.specs.declared.operands.Operands.{Operands}
use Rattle.bound_names.specs.Operands.{held_at}
use Rattle.vector_handles.specs.CallValues.{table_pair, table_value, vector_and_descriptor}
use Rattle.vector_handles.specs.ElementTypes.{ElementType}
use Rattle.vector_handles.specs.Families.{vector}
use Rattle.vector_handles.specs.Sessions.{State, text_shown}
use Rattle.vector_handles.specs.Steps.{Stepped, step}

-- the answer to a call that appends a text to bytes
abbrev pub Appends : {U : Type 0} →
    List ℕ → List ℕ → Result U Refused → Result (List ℕ) Fault → Type 0
Appends before after answer text = Gives (λ _. after) answer (after_bytes before text)

-- a fault that is reported is that of the definition
abbrev pub RefusesAs : {U Y : Type 0} → Result U Refused → Result Y Fault → Type 0
RefusesAs (Ok done) meaning = Unit {0}
RefusesAs (Err (refused.Fault f)) meaning = meaning ≡ Err f
RefusesAs (Err refused.NoResources) meaning = Unit {0}

module _ {A : Type 0} where
  -- the answer is the value that the table gives the call
  abbrev pub IsTableValue : List (Input A) → Op → Operands A → Result (Value A) Refused → Type 0
  IsTableValue inputs op operands answer = Gives (λ v. v) answer (table_value inputs op (held_at operands))

  -- the answer is the value with the vector that a kernel's answer gives, seen by `view`, whatever the kernel's definition
  abbrev pub IsVectorOf : {V X : Type 0} → ElementType A X → (V → List X) → Result V Refused → Result (Value A) Refused → Type 0
  IsVectorOf {V} {X} e view given answer =
      (meaning : Result (List X) Fault) → Gives view given meaning → Gives (λ v. v) answer (vector e meaning)

  -- the answer is the two values that the table gives the call
  abbrev pub IsTablePair : List (Input A) → Op → Operands A → Result (Value A × Value A) Refused → Type 0
  IsTablePair inputs op operands answer = Gives (λ both. both) answer (table_pair inputs op (held_at operands))

  -- the answer is the vector and the descriptor that a reader's answer gives, seen by `view`, whatever the reader's definition
  abbrev pub IsNestOf : {V : Type 0} → (V → List ℤ × List ℕ) → Result V Refused → Result (Value A × Value A) Refused → Type 0
  IsNestOf view given answer =
      (meaning : Result (List ℤ × List ℕ) Fault) → Gives view given meaning → Gives (λ both. both) answer (vector_and_descriptor meaning)

  -- what a call leaves: the names after it, and the text that it shows
  abbrev pub left_by : State A → Option (List ℕ) → Stepped A
  left_by after shown = record { names = after.names; shown = shown }

  -- the answer to a line's call is its meaning
  abbrev pub IsStep : State A → Call A → State A → Result (Shown A) Refused → Type 0
  IsStep before call after answer =
      Gives (λ shown. left_by after (text_shown shown)) answer (step before.names before.inputs call)
