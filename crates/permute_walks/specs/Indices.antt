-- Indices of a back permute: each names the place of a source whose element goes to the index's own place.
-- Source: CVL's back permute, d[k] = s[i[k]].
use Rattle.std.specs.Prelude.{◌≡◌, ℕ, ℤ, true, not, if◌then◌else◌, List, count_by, filter_map, map, Option, Some, None, unwrap_or}
use Rattle.std.specs.List.{All}
use Rattle.cvl_base.specs.declared.fault.Fault.{Fault}
use Rattle.cvl_base.specs.declared.fault.FaultNo.{FaultNo}
use Rattle.cvl_base.specs.declared.fault.FaultNo.TheVariants.{IndexOutOfRange}
use Rattle.cvl_base.specs.Extracts.{element_at}
use Rattle.cvl_base.specs.Permutes.{first_fault, is_place}

-- what is wrong with an index into so many places
abbrev pub outside : ℕ → ℤ → Option FaultNo
outside places i = if is_place places i then None else Some IndexOutOfRange

-- the fault of the first index outside; the first index stands at the place given
abbrev pub first_outside : ℕ → ℕ → List ℤ → Option Fault
first_outside place places index = first_fault place (map (outside places) index)

-- how many indices are outside
abbrev pub count_outside : ℕ → List ℤ → ℕ
count_outside places index = count_by (λ i. not (is_place places i)) index

-- each index is one of so many places
abbrev pub AreInside : ℕ → List ℤ → Type 0
AreInside places index = All (λ i. is_place places i ≡ true) index

-- the element at each index that is a place of the source
abbrev pub elements_at : {X : Type 0} → List X → List ℤ → List X
elements_at source index = filter_map (element_at source) index

-- each value, or another if there is none
abbrev pub each_or : {X : Type 0} → X → List (Option X) → List X
each_or other values = map (λ v. unwrap_or v other) values
