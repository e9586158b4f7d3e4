-- Where the elements of parts stand in a vector, those of each part behind those of the parts before.
-- Source: Blelloch, Prefix Sums and Their Applications, 1990: processors sum up their parts, and scan the sums.
use Rattle.std.specs.Prelude.{ℕ, ◌+◌, ◌==◌, ℤ, Bool, not, unsigned_abs, List, [], ◌∷◌, ◌++◌, map, sum, Result, Ok}
use Rattle.std.specs.Int.{is_negative}
use Rattle.std.specs.List.{list_all}
use Rattle.cvl_base.specs.declared.fault.Fault.{Fault}
use Rattle.cvl_base.specs.declared.fault.FaultNo.TheVariants as no
use Rattle.cvl_base.specs.Faults.{fault}
use Rattle.cvl_base.specs.Folds.{scan_of}
use Rattle.cvl_base.specs.Gives.{fault_if}

-- where each part begins, at last where all parts end: the sums of the lengths before it
abbrev pub places_of : List ℕ → List ℕ
places_of lengths = scan_of ◌+◌ 0 lengths ++ sum lengths ∷ []

-- the places of parts that are together a vector of so many elements, or LengthMismatch
abbrev pub exact_places_of : List ℕ → ℕ → Result (List ℕ) Fault
exact_places_of lengths len = fault_if (not (sum lengths == len)) (fault no.LengthMismatch) (Ok (places_of lengths))

-- the same of numbers that stand for lengths: LengthMismatch too if one stands for none
abbrev pub exact_places_by : {X : Type 0} → (X → Bool) → (X → ℕ) → List X → ℕ → Result (List ℕ) Fault
exact_places_by is_length length_of told len =
    fault_if (not (list_all is_length told)) (fault no.LengthMismatch) (exact_places_of (map length_of told) len)

-- a count stands for a length unless it is negative
abbrev pub is_count : ℤ → Bool
is_count n = not (is_negative n)

-- the places of parts with these counts
abbrev pub exact_count_places_of : List ℤ → ℕ → Result (List ℕ) Fault
exact_count_places_of counts len = exact_places_by is_count unsigned_abs counts len
