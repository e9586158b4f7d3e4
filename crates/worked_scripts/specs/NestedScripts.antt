-- Two scripts that write a vector beside its descriptor: one makes both of its inputs, and one reads them as a nested input.
-- Source: this library's script format.
use Rattle.std.specs.Prelude.{ℕ, ℤ, List, [], ◌∷◌, ◌++◌, map, pos, codes, Option, None}
use Rattle.std.specs.Fmt.{signed_decimal}
use Rattle.cvl_base.specs.declared.fault.Fault.{Fault}
use Rattle.cvl_base.specs.Nests.{cut_of}
use Rattle.call_reader.specs.Texts.{nest_text}
use Rattle.vector_handles.specs.declared.input.Input.{Input}
use Rattle.vector_handles.specs.declared.input.Input.TheVariants.{Vector}
use Rattle.script_runs.specs.Meaning.{meaning}
use Rattle.worked_scripts.specs.Outcomes.{outcome_of}

-- a script that makes a nest of two inputs and writes it
abbrev pub making : List ℕ
making = codes "v = input 1\nl = input 2\nd = mke_fov l\nwrite v d\n"

-- a script that reads a nest and writes it
abbrev pub reading : List ℕ
reading = codes "v d = nested 1\nwrite v d\n"

-- the text of the vector, cut by the lengths
abbrev pub text_of_nest : List ℤ → List ℕ → List ℕ
text_of_nest numbers lengths = nest_text signed_decimal (cut_of lengths numbers)

-- the line that shows a text as that of `v`, without a fault
abbrev pub shows_v : List ℕ → List ℕ × Option (ℕ × Fault)
shows_v text = (codes "v = " ++ text ++ (10 ∷ []), None)

-- what the first script writes over a vector and its lengths, and the second over an input
abbrev pub made : (A : Type 0) → List ℤ → List ℕ → List ℕ × Option (ℕ × Fault)
made A numbers lengths = outcome_of (meaning {A = A} making (Vector numbers ∷ Vector (map pos lengths) ∷ []))

-- what the second script writes of an input, and where it stops
abbrev pub read : {A : Type 0} → Input A → List ℕ × Option (ℕ × Fault)
read input = outcome_of (meaning reading (input ∷ []))
