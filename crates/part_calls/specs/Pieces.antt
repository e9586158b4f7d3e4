-- One piece of a text that is cut at white space. A text has at most as many words as a vector may have elements.
-- Source: the grammar of an input, and the law of texts in parts (`call_laws`), part two.
use Rattle.std.specs.Prelude.{ℕ, ℤ, ◌+◌, List, Result}
use Rattle.cvl_base.specs.declared.fault.Fault.{Fault}
use Rattle.cvl_base.specs.Segmented.{moved}
use Rattle.call_reader.specs.Inputs.{input_within}
use Rattle.part_calls.specs.Limits.{few_enough}
use Rattle.cvl_base.specs.Limits.{most_places}

-- the integers of a piece, after so many words of the pieces before it, or its fault, at its place in the whole text
abbrev pub piece_of : ℕ → List ℕ → Result (List ℤ) Fault
piece_of before bytes = few_enough before (moved (λ place. before + place) (input_within most_places bytes))
