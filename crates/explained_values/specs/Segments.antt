-- The segment that has a call's fault.
-- Source: CVL's segmented calls, in this library's profile.
use Rattle.std.specs.Prelude.{ℕ, ◌+◌, ◌-◌, ◌++◌, nat_lt, List, [], ◌∷◌, codes, drop, sum, take, slice_index, if◌then◌else◌}
use Rattle.std.specs.Prelude.{Option, Some, None}
use Rattle.std.specs.Fmt.{decimal}
use Rattle.cvl_base.specs.declared.families.Cut.TheVariants.{Segmented}
use Rattle.cvl_base.specs.declared.families.Form.TheVariants.{Simple, Back, Select, Default}
use Rattle.cvl_base.specs.declared.operation.Op.{Op}
use Rattle.cvl_base.specs.declared.operation.Op.TheVariants as op
use Rattle.bound_names.specs.Arguments.{lengths_in}
use Rattle.explained_values.specs.declared.segments.Places.{Places}
use Rattle.explained_values.specs.declared.segments.Places.TheVariants.{Whole, OfSegments, CutBy}
use Rattle.explained_values.specs.Arguments.{Spelled, spelled_at}

-- what the place of a call's fault counts: a whole vector, segments, or a vector that the descriptor at a place among the
-- arguments cuts
abbrev pub places_of : Op → Places
places_of (op.Permute Simple Segmented e) = CutBy 2
places_of (op.Permute Back Segmented e) = CutBy 3
places_of (op.Permute Select Segmented e) = CutBy 3
places_of (op.Permute Default Segmented e) = CutBy 3
places_of (op.CheckedScan Segmented) = CutBy 1
places_of (op.CheckedReduce Segmented) = OfSegments
places_of (op.Extract Segmented e) = OfSegments
places_of (op.Replace Segmented e) = OfSegments
places_of _ = Whole

-- the segment of a place in the whole vector
abbrev pub segment_of : List ℕ → ℕ → ℕ
segment_of [] place = 0
segment_of (n ∷ lengths) place = if nat_lt place n then 0 else segment_of lengths (place - n) + 1

-- where a segment starts in the whole vector
abbrev pub start_of : List ℕ → ℕ → ℕ
start_of lengths segment = sum (take segment lengths)

-- the elements of a segment
abbrev pub segment_in : {X : Type 0} → List ℕ → ℕ → List X → List X
segment_in lengths segment xs = take (slice_index lengths segment) (drop (start_of lengths segment) xs)

module _ {A : Type 0} where
  -- the segment of a fault, if the call takes its vectors by segments
  abbrev pub segment_at : Places → List (Spelled A) → ℕ → Option ℕ
  segment_at Whole args place = None
  segment_at OfSegments args place = Some place
  segment_at (CutBy descriptor) args place = Some (segment_of (lengths_in (spelled_at args descriptor).value) place)

  -- where the segment of a fault starts, or 0 if nothing is cut
  abbrev pub start_at : Places → List (Spelled A) → ℕ → ℕ
  start_at (CutBy descriptor) args place =
      let lengths = lengths_in (spelled_at args descriptor).value in start_of lengths (segment_of lengths place)
  start_at _ args place = 0

-- `v`, `segment 1 of v`
abbrev pub part_words : Option ℕ → List ℕ → List ℕ
part_words None vector = vector
part_words (Some segment) vector = codes "segment " ++ decimal segment ++ codes " of " ++ vector
