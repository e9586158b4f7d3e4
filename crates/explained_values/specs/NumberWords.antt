-- A number among the arguments that is a call's fault, and why the call has no value for it.
-- Source: CVL's calls, in this library's profile.
use Rattle.std.specs.Prelude.{ℕ, ◌++◌, List, [], codes, if◌then◌else◌, Option, Some, None, option_map}
use Rattle.std.specs.Fmt.{signed_decimal}
use Rattle.cvl_base.specs.declared.fault.FaultNo.{FaultNo}
use Rattle.cvl_base.specs.declared.fault.FaultNo.TheVariants as no
use Rattle.cvl_base.specs.declared.operation.Op.{Op}
use Rattle.cvl_base.specs.declared.operation.Op.TheVariants as op
use Rattle.cvl_base.specs.declared.value.Value.{Value}
use Rattle.cvl_base.specs.declared.value.Value.TheVariants as value
use Rattle.cvl_base.specs.Words.{is_word}
use Rattle.explained_calls.specs.Sentences.{counted}
use Rattle.explained_values.specs.Arguments.{Spelled, spelled_at, element_name, integer_at}
use Rattle.explained_values.specs.IndexWords.{places_words, repeated_words}

-- which argument gives the length of the result
abbrev pub length_argument : Op → Option ℕ
length_argument (op.Distribute cut e) = Some 1
length_argument (op.Index cut) = Some 2
length_argument op.MakeDescriptor = Some 0
length_argument _ = None

-- which argument holds the number at fault, if a number is at fault
abbrev pub number_argument : FaultNo → Op → Option ℕ
number_argument no.DivideByZero op = Some 1
number_argument no.ShiftOutOfRange op = Some 1
number_argument no.IndexOutOfRange op = Some 1
number_argument no.IndexRepeated op = Some 1
number_argument no.NegativeLength op = length_argument op
number_argument no.TooLong op = length_argument op
number_argument no.NoSuchInput op = Some 0
number_argument _ op = None

-- what a single number of a line means to the call
abbrev pub meaning_of : FaultNo → List ℕ
meaning_of no.IndexOutOfRange = codes "the index"
meaning_of no.NoSuchInput = codes "the input's number"
meaning_of _ = codes "the length"

-- `, and the run has 2 inputs; inputs count from 1`
abbrev pub inputs_words : ℕ → List ℕ
inputs_words inputs = codes ", and the run has " ++ counted inputs (codes "input") ++ codes "; inputs count from 1"

module _ {A : Type 0} where
  -- `v[3]`; for a single number its name, or what it means to the call if the line itself has it
  abbrev pub number_name : FaultNo → Spelled A → ℕ → List ℕ
  number_name number a place = name_by a.value
    where
      name_by : Option (Value A) → List ℕ
      name_by (Some (value.Integers xs)) = element_name a.word place
      name_by _ = if is_word a.word then a.word else meaning_of number

  -- why the call has no value for the number
  abbrev pub reason_words : ℕ → Op → List (Spelled A) → FaultNo → ℕ → List ℕ
  reason_words inputs op args no.DivideByZero place =
      codes ", and " ++ element_name (spelled_at args 0).word place ++ codes " cannot be divided by it"
  reason_words inputs op args no.ShiftOutOfRange place = codes ", and a shift is from 0 to 31"
  reason_words inputs op args no.IndexOutOfRange place = codes ", and " ++ places_words op args place
  reason_words inputs op args no.IndexRepeated place = repeated_words op args place
  reason_words inputs op args no.NegativeLength place = codes ", and a length is 0 or more"
  reason_words inputs op args no.TooLong place = codes ", and a vector has at most 4194304 elements"
  reason_words inputs op args no.NoSuchInput place = inputs_words inputs
  reason_words inputs op args _ place = []

  -- `index[3] is 12, and v has 8 elements`
  abbrev pub number_words : ℕ → Op → List (Spelled A) → FaultNo → ℕ → ℕ → Option (List ℕ)
  number_words inputs op args number place at =
      option_map (λ i. number_name number (spelled_at args at) place ++ codes " is " ++ signed_decimal i
      ++ reason_words inputs op args number place)
      (integer_at (spelled_at args at).value place)
