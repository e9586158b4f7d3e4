-- The steps of adding up lengths in parts, each by what its export is proved to do.
-- Source: CVL's segment descriptors; the parts are this library's.
use Rattle.std.specs.Prelude.{ℕ, ℤ, Ok, sum}
use Rattle.step_laws.specs.Parts.{Part, TellsAlone}
use Rattle.c_calls.specs.Calls.{by_segments}
use Rattle.c_calls.specs.Told.{Told, done}

-- a part adds up its lengths, of which none is negative
abbrev pub Measures : Part ℤ ℕ ℤ → Part ℤ ℕ ℤ → Type 0
Measures own left = Told (by_segments own.elements (λ lengths. Ok (sum lengths))) done own.told left.told × TellsAlone own left
