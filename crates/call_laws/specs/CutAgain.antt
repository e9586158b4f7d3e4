-- What it means that the result of a segmented call, cut again by lengths, is the flat results of the segments.
-- Source: CVL's segmented vectors; the relation is this library's.
use Rattle.std.specs.Prelude.{◌≡◌, ℕ, List, map, Result, Ok}
use Rattle.cvl_base.specs.declared.fault.Fault.{Fault}
use Rattle.cvl_base.specs.Nests.{nest}

-- the flat call has a result on each of the segments, and the lengths cut the whole result into these
abbrev pub IsCutInto : {S X : Type 0} → (S → Result (List X) Fault) → List S → List ℕ → List X → Type 0
IsCutInto {X = X} call segments lengths whole =
    (results : List (List X)) × (map call segments ≡ map (λ r. Ok r) results) × (nest lengths whole ≡ Ok results)
