-- Inputs by their numbers, and the texts of those that are no lists of numbers.
-- Source: this library's input format.
use Rattle.std.specs.Prelude.{ℕ, ◌-◌, ◌==◌, ℤ, pos, negsuc, List, Option, Some, None, is_ok, if◌then◌else◌}
use Rattle.call_reader.specs.Inputs.{input_of}
use Rattle.vector_handles.specs.declared.input.Input.{Input}
use Rattle.vector_handles.specs.declared.input.Input.TheVariants as input

-- the place of the input with this number, counted from 1
abbrev pub place_of : ℤ → Option ℕ
place_of (pos n) = if n == 0 then None else Some (n - 1)
place_of (negsuc n) = None

module _ {A : Type 0} where
  -- the bytes of an input that is no list of numbers; none if it is one: a vector, or bytes that `input` reads
  abbrev pub other_text : Input A → Option (List ℕ)
  other_text (input.Bytes bytes) = if is_ok (input_of bytes.items) then None else Some bytes.items
  other_text (input.Vector numbers) = None
