-- Vectors with segments and their texts.
-- Source: this library's input and text formats.
use Rattle.std.specs.Prelude.{ℕ, ℤ, pos, List, map, Result, Ok}
use Rattle.cvl_base.specs.declared.fault.Fault.{Fault}
use Rattle.cvl_base.specs.Gives.{◌>>=◌}
use Rattle.cvl_base.specs.Nests.{nest}
use Rattle.value_texts.specs.Texts.{nest_text}

-- the text of the segments of these lengths, if they add up to the vector's
abbrev pub segments_text : {X : Type 0} → (X → List ℕ) → List X → List ℕ → Result (List ℕ) Fault
segments_text text_of xs lengths = nest lengths xs >>= λ lists. Ok (nest_text text_of lists)

-- a vector beside the lengths of its segments, as integers
abbrev pub with_lengths : Result (List ℤ × List ℕ) Fault → Result (List ℤ × List ℤ) Fault
with_lengths parts = parts >>= λ p. Ok (p.0, map pos p.1)
