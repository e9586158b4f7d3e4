-- What the parts have of a segmented vector that is cut at places: a segment may start in one part and go on in others.
-- Source: Blelloch, Vector Models for Data-Parallel Computing, 1990, segmented scans; how segments are cut is this library's.
use Rattle.std.specs.List.{zip}
use Rattle.std.specs.Prelude.{◌≡◌, ◌-◌, ◌&&◌, ◌<◌, ℕ, Bool, if◌then◌else◌, List, [], ◌∷◌, length, min, nat_lt, slice_range}
use Rattle.part_cuts.specs.Starts.{first_start, start_of}
use Rattle.step_laws.specs.FillParts.{FillPart, if_opened, opened}
use Rattle.step_laws.specs.Pieces.{Piece}
use Rattle.step_laws.specs.ReduceParts.{ReducePart}
use Rattle.step_laws.specs.RunParts.{RunPart}

-- these places ascend strictly from one on, up to `len`
abbrev pub AscendFrom : ℕ → List ℕ → ℕ → Type 0
AscendFrom from [] len = from ≡ len
AscendFrom from (to ∷ places) len = (from < to) × AscendFrom to places len

-- these places cut so many elements into parts, of which there is one at least and each has some: they ascend strictly from 0 up to `len`
abbrev pub CutIntoParts : List ℕ → ℕ → Type 0
CutIntoParts [] len = ⊥
CutIntoParts (from ∷ places) len = (from ≡ 0) × (0 < len) × AscendFrom from places len

-- the first segment of each part, which starts in the part or behind it; and at last how many segments there are, since one that starts
-- behind the last element starts in the last part
abbrev pub firsts_of : List ℕ → List ℕ → List ℕ
firsts_of lengths [] = []
firsts_of lengths (end ∷ []) = length lengths ∷ []
firsts_of lengths (from ∷ to ∷ places) = first_start from lengths ∷ firsts_of lengths (to ∷ places)

-- where a part begins and ends, its first segment, and that of the next part
pub record CutPart : Type 0 where
  pub from : ℕ
  pub to : ℕ
  pub first : ℕ
  pub next : ℕ

-- the parts from each boundary up to the next one; a boundary is a place beside a first segment
abbrev pub between : List (ℕ × ℕ) → List CutPart
between [] = []
between (end ∷ []) = []
between (begin ∷ end ∷ others) = record { from = begin.0; to = end.0; first = begin.1; next = end.1 } ∷ between (end ∷ others)

-- the parts into which places cut a vector whose segments have these lengths
abbrev pub cut_parts_of : List ℕ → List ℕ → List CutPart
cut_parts_of lengths places = between (zip places (firsts_of lengths places))

-- ---- what a part has

module _ (lengths : List ℕ) where
  -- how many of its elements go on from a segment that starts before it
  abbrev pub head_of : CutPart → ℕ
  head_of c = min (start_of lengths c.first) c.to - c.from

  -- whether a segment starts in it
  abbrev pub starts_in : CutPart → Bool
  starts_in c = nat_lt c.first c.next

  -- the lengths of the segments that start in it
  abbrev pub lengths_of : CutPart → List ℕ
  lengths_of c = slice_range lengths c.first c.next

  -- whether the last of these goes on behind it
  abbrev pub is_cut_behind : CutPart → Bool
  is_cut_behind c = starts_in c && nat_lt c.to (start_of lengths c.next)

  -- the lengths of those that it has whole
  abbrev pub whole_of : CutPart → List ℕ
  whole_of c = slice_range lengths c.first (if is_cut_behind c then c.next - 1 else c.next)

  -- where its elements begin since the last start of a segment: none are left if its segments end with it, and all if none starts in it
  abbrev pub last_of : CutPart → ℕ
  last_of c = if starts_in c then (if is_cut_behind c then start_of lengths (c.next - 1) else c.to) else c.from

  -- how many elements the parts before have of the segment that goes on in it
  abbrev pub done_of : CutPart → ℕ
  done_of c = if_opened (head_of c) (c.from - start_of lengths (c.first - 1))

  -- the first segment of which it has elements or in which it starts
  abbrev pub owner_of : CutPart → ℕ
  owner_of c = c.first - opened (head_of c)

-- a part as a piece
abbrev pub piece_of : {X : Type 0} → List ℕ → List X → CutPart → Piece X
piece_of lengths xs c =
    record { elements = slice_range xs c.from c.to; head = head_of lengths c; lengths = whole_of lengths c; starts = starts_in lengths c }

-- a part of a reduce has this of the vector, whatever is told of it
abbrev pub IsReducePart : {X Y : Type 0} → List ℕ → List X → CutPart → ReducePart X Y → Type 0
IsReducePart lengths xs c p =
    (p.elements ≡ slice_range xs c.from c.to) × (p.head ≡ head_of lengths c) × (p.lengths ≡ lengths_of lengths c)

-- a part of a distribute or an index has this of the room, and the values of its segments
abbrev pub IsFillPart : {X Y : Type 0} → List ℕ → List X → List Y → CutPart → FillPart X Y → Type 0
IsFillPart lengths values room c p =
    (p.room ≡ slice_range room c.from c.to) × (p.head ≡ head_of lengths c) × (p.lengths ≡ lengths_of lengths c)
    × (p.values ≡ slice_range values (owner_of lengths c) c.next)

-- and it knows how many elements the parts before have of the segment that goes on in it
abbrev pub IsDone : {X Y : Type 0} → List ℕ → CutPart → FillPart X Y → Type 0
IsDone lengths c p = p.done ≡ done_of lengths c

-- a part of a call on runs has this of the vector, and its place
abbrev pub IsRunPart : {X : Type 0} → List ℕ → List X → CutPart → RunPart X → Type 0
IsRunPart lengths xs c p = IsReducePart lengths xs c p.part × (p.from ≡ c.from)
