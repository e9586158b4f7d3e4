-- The lengths of a call's arguments that must agree, in the order of comparison.
-- Source: CVL's calls, in this library's profile.
use Rattle.std.specs.Prelude.{ℕ, Bool, not, ◌==◌, ◌++◌, List, [], ◌∷◌, codes, length, sum, find, Option, option_map}
use Rattle.cvl_base.specs.declared.families.Cut.{Cut}
use Rattle.cvl_base.specs.declared.families.Cut.TheVariants.{Flat, Segmented}
use Rattle.cvl_base.specs.declared.families.Form.{Form}
use Rattle.cvl_base.specs.declared.families.Form.TheVariants.{Simple, Back, Select, Default}
use Rattle.cvl_base.specs.declared.operation.Op.{Op}
use Rattle.cvl_base.specs.declared.operation.Op.TheVariants as op
use Rattle.bound_names.specs.Arguments.{lengths_in}
use Rattle.explained_calls.specs.Sentences.{counted}
use Rattle.explained_values.specs.declared.extents.Extent.{Extent}
use Rattle.explained_values.specs.declared.extents.Extent.TheVariants.{Elements, Segments, Total}
use Rattle.explained_values.specs.Arguments.{Spelled, spelled_at, elements_in}

-- the lengths that each permute compares, by the places of its arguments
abbrev pub permuted_extents : Form → Cut → List (Extent × Extent)
permuted_extents Simple Flat = (Elements 0, Elements 1) ∷ []
permuted_extents Simple Segmented = (Total 2, Elements 0) ∷ (Total 2, Elements 1) ∷ []
permuted_extents Back Flat = []
permuted_extents Back Segmented = (Total 2, Elements 0) ∷ (Total 3, Elements 1) ∷ (Segments 2, Segments 3) ∷ []
permuted_extents Select Flat = (Elements 0, Elements 1) ∷ (Elements 1, Elements 2) ∷ []
permuted_extents Select Segmented = (Total 3, Elements 0) ∷ (Total 3, Elements 1) ∷ (Total 3, Elements 2) ∷ []
permuted_extents Default Flat = (Elements 0, Elements 1) ∷ []
permuted_extents Default Segmented =
    (Total 3, Elements 0) ∷ (Total 3, Elements 1) ∷ (Total 4, Elements 2) ∷ (Segments 3, Segments 4) ∷ []

-- the lengths that each call compares, by the places of its arguments
abbrev pub extents_of : Op → List (Extent × Extent)
extents_of (op.Ints2 o) = (Elements 0, Elements 1) ∷ []
extents_of (op.Compare o) = (Elements 0, Elements 1) ∷ []
extents_of (op.Bools2 o) = (Elements 0, Elements 1) ∷ []
extents_of (op.Choose e) = (Elements 0, Elements 1) ∷ (Elements 0, Elements 2) ∷ []
extents_of (op.Scan o Segmented) = (Total 1, Elements 0) ∷ []
extents_of (op.Reduce o Segmented) = (Total 1, Elements 0) ∷ []
extents_of (op.CheckedScan Segmented) = (Total 1, Elements 0) ∷ []
extents_of (op.CheckedReduce Segmented) = (Total 1, Elements 0) ∷ []
extents_of (op.BoolScan o Segmented) = (Total 1, Elements 0) ∷ []
extents_of (op.BoolReduce o Segmented) = (Total 1, Elements 0) ∷ []
extents_of (op.Count Segmented) = (Total 1, Elements 0) ∷ []
extents_of op.PackedLengths = (Total 1, Elements 0) ∷ []
extents_of (op.Permute form cut e) = permuted_extents form cut
extents_of (op.Pack Flat e) = (Elements 0, Elements 1) ∷ []
extents_of (op.Pack Segmented e) = (Total 2, Elements 0) ∷ (Total 2, Elements 1) ∷ []
extents_of (op.Distribute Segmented e) = (Elements 0, Segments 1) ∷ []
extents_of (op.Index Segmented) = (Elements 0, Elements 1) ∷ (Elements 0, Segments 2) ∷ []
extents_of (op.Extract Segmented e) = (Total 2, Elements 0) ∷ (Segments 2, Elements 1) ∷ []
extents_of (op.Replace Segmented e) = (Total 3, Elements 0) ∷ (Segments 3, Elements 1) ∷ (Segments 3, Elements 2) ∷ []
extents_of op.Write = (Total 1, Elements 0) ∷ []
extents_of _ = []

-- the place of the argument that a length belongs to
abbrev pub argument_of : Extent → ℕ
argument_of (Elements place) = place
argument_of (Segments place) = place
argument_of (Total place) = place

-- `8 elements`, `3 segments`, `8 elements in all`
abbrev pub amount_words : Extent → ℕ → List ℕ
amount_words (Elements place) amount = counted amount (codes "element")
amount_words (Segments place) amount = counted amount (codes "segment")
amount_words (Total place) amount = counted amount (codes "element") ++ codes " in all"

module _ {A : Type 0} where
  -- the length itself: the elements, the segments, or the sum of the segments' lengths
  abbrev pub amount_of : List (Spelled A) → Extent → ℕ
  amount_of args (Elements place) = elements_in (spelled_at args place).value
  amount_of args (Segments place) = length (lengths_in (spelled_at args place).value)
  amount_of args (Total place) = sum (lengths_in (spelled_at args place).value)

  -- `v has 8 elements`
  abbrev pub extent_words : List (Spelled A) → Extent → List ℕ
  extent_words args extent =
      (spelled_at args (argument_of extent)).word ++ codes " has " ++ amount_words extent (amount_of args extent)

  -- whether two lengths that must agree differ
  abbrev pub differ : List (Spelled A) → Extent × Extent → Bool
  differ args pair = not (amount_of args pair.0 == amount_of args pair.1)

  -- `v has 8 elements, and w has 7 elements: these must agree`
  abbrev pub pair_words : List (Spelled A) → Extent × Extent → List ℕ
  pair_words args pair = extent_words args pair.0 ++ codes ", and " ++ extent_words args pair.1 ++ codes ": these must agree"

  -- the first two lengths that do not agree
  abbrev pub mismatch_words : Op → List (Spelled A) → Option (List ℕ)
  mismatch_words op args = option_map (pair_words args) (find (differ args) (extents_of op))
