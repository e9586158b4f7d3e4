-- One value of each segment; and the first true flag, as such a value.
-- Source: CVL's segmented reduces, with another function of a segment instead of an operator; that -1 means none is this library's profile.
use Rattle.std.specs.Prelude.{ℕ, ℤ, pos, negsuc, Bool, List, map, position, Option, Some, None, Result, Ok}
use Rattle.cvl_base.specs.declared.fault.Fault.{Fault}
use Rattle.cvl_base.specs.Gives.{◌>>=◌}
use Rattle.cvl_base.specs.Nests.{nest}

-- the value of each segment, one for each
abbrev pub each_of : {X V : Type 0} → (List X → V) → List X → List ℕ → Result (List V) Fault
each_of value xs lengths = nest lengths xs >>= λ segments. Ok (map value segments)

-- the place, or -1 if there is none
abbrev pub place_or_none : Option ℕ → ℤ
place_or_none (Some place) = pos place
place_or_none None = negsuc 0

-- the place of the first element that passes a test, or -1
abbrev pub first_by : {X : Type 0} → (X → Bool) → List X → ℤ
first_by test xs = place_or_none (position test xs)

-- the place of the first true flag, or -1
abbrev pub first_true_of : List Bool → ℤ
first_true_of flags = first_by (λ flag. flag) flags
