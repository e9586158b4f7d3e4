-- What is wrong with the arguments of a call, in words: the element, the number or the lengths that give it no value.
-- Source: CVL's calls, in this library's profile.
use Rattle.std.specs.Prelude.{ℕ, Bool, true, false, List, if◌then◌else◌}
use Rattle.std.specs.Prelude.{Option, Some, option_and_then, unwrap_or}
use Rattle.cvl_base.specs.declared.fault.Fault.{Fault}
use Rattle.cvl_base.specs.declared.fault.FaultNo.{FaultNo}
use Rattle.cvl_base.specs.declared.fault.FaultNo.TheVariants as no
use Rattle.cvl_base.specs.declared.operation.Op.{Op}
use Rattle.cvl_base.specs.declared.operation.Op.TheVariants as op
use Rattle.explained_values.specs.Arguments.{Spelled, spelled_at, line_of}
use Rattle.explained_values.specs.Extents.{mismatch_words}
use Rattle.explained_values.specs.KindFaults.{kind_fault_words}
use Rattle.explained_values.specs.NameFaults.{room_words, unbound_words}
use Rattle.explained_values.specs.NumberWords.{number_argument, number_words}
use Rattle.explained_values.specs.SumWords.{overflow_words, total_words}

-- whether the call makes a descriptor
abbrev pub makes_descriptor : Op → Bool
makes_descriptor op.MakeDescriptor = true
makes_descriptor _ = false

module _ {A : Type 0} where
  -- the words for the number at fault, if the fault is one of a number among the arguments
  abbrev pub number_fault_words : ℕ → Op → List (Spelled A) → FaultNo → ℕ → Option (List ℕ)
  number_fault_words inputs op args number place =
      option_and_then (number_words inputs op args number place) (number_argument number op)

  -- what is wrong, given the names that the lines before bind and the number of inputs
  abbrev pub fault_words : List (List ℕ) → ℕ → Op → List (Spelled A) → FaultNo → ℕ → Option (List ℕ)
  fault_words names inputs op args no.UnknownName place = unbound_words names op args
  fault_words names inputs op args no.WrongKind place = kind_fault_words op args
  fault_words names inputs op args no.LengthMismatch place = mismatch_words op args
  fault_words names inputs op args no.TooManyNames place = Some (room_words names op)
  fault_words names inputs op args no.Overflow place = Some (overflow_words op args place)
  fault_words names inputs op args no.TooLong place =
      if makes_descriptor op then Some (total_words (spelled_at args 0)) else number_fault_words inputs op args no.TooLong place
  fault_words names inputs op args number place = number_fault_words inputs op args number place

  -- the line about the fault; none if the fault is not in the arguments' values
  abbrev pub value_fault_words : List (List ℕ) → ℕ → Op → List (Spelled A) → Fault → List ℕ
  value_fault_words names inputs op args f = line_of (fault_words names inputs op args f.number (unwrap_or f.place 0))
