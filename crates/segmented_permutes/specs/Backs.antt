-- Segmented back permutes: the first index that is no place of its segment of the source, and what each index takes there.
-- Source: CVL's segmented back permute.
use Rattle.std.specs.Prelude.{◌≡◌, ℕ, ◌+◌, ℤ, List, [], ◌∷◌, take, drop, length, map, sum, Option, None}
use Rattle.std.specs.Option.{option_or}
use Rattle.cvl_base.specs.declared.fault.Fault.{Fault}
use Rattle.cvl_base.specs.Extracts.{element_at}
use Rattle.cvl_base.specs.Lists.{joined}
use Rattle.permute_walks.specs.Indices.{first_outside}

-- the fault of the first index outside its segment of the source; the first index stands at the place given
abbrev pub outside_from : ℕ → List ℕ → List ℕ → List ℤ → Option Fault
outside_from place [] index_lengths index = None
outside_from place (m ∷ lengths) [] index = None
outside_from place (m ∷ lengths) (n ∷ index_lengths) index =
    option_or (first_outside place m (take n index)) (outside_from (place + n) lengths index_lengths (drop n index))

-- the element that each index names in its segment of the source, if there is one: a list for each segment
abbrev pub lists_at : {X : Type 0} → List ℕ → List X → List ℕ → List ℤ → List (List (Option X))
lists_at [] source index_lengths index = []
lists_at (m ∷ lengths) source [] index = []
lists_at (m ∷ lengths) source (n ∷ index_lengths) index =
    map (element_at (take m source)) (take n index) ∷ lists_at lengths (drop m source) index_lengths (drop n index)

-- the same, one segment after another
abbrev pub values_at : {X : Type 0} → List ℕ → List X → List ℕ → List ℤ → List (Option X)
values_at lengths source index_lengths index = joined (lists_at lengths source index_lengths index)

-- the vectors have the elements of the segments, as many segments in both
pub record IsSegmentedBack {X : Type 0} (lengths : List ℕ) (source : List X) (index_lengths : List ℕ) (index : List ℤ) : Type 0 where
  pub source_total : sum lengths ≡ length source
  pub total : sum index_lengths ≡ length index
  pub count : length lengths ≡ length index_lengths
