-- What the parts of a reduce by segments have of their own. A vector is cut into parts at any places: a segment may begin in one part and
-- go on in others, and belongs to the part in which it starts.
-- Source: CVL's segmented reduces; how segments are cut is this library's.
use Rattle.std.specs.Prelude.{◌≡◌, ℕ, nat_lt, Bool, IsTrue, List, [], drop, length, map, take, Ok}
use Rattle.std.specs.List.{All}
use Rattle.call_laws.specs.OverRanks.{together}
use Rattle.cvl_base.specs.Lists.{joined}
use Rattle.cvl_base.specs.Nests.{cut_of, nest}
use Rattle.segment_parts.specs.Reduces.{is_part}

-- a part's elements; how many of them, its head, go on from a segment that began before the part; the lengths of the segments that start
-- in the part, the last of which may go on behind it; what a step tells of its head, what goes on behind the part, and the part's range
-- of the room
pub record ReducePart (X Y : Type 0) : Type 0 where
  pub elements : List X
  pub head : ℕ
  pub lengths : List ℕ
  pub told : Y
  pub behind : Y
  pub room : List Y

module _ {X Y : Type 0} where
  -- its head, and what it has of the segments that start in it
  abbrev pub segments_in : ReducePart X Y → List X × List (List X)
  segments_in p = (take p.head p.elements, cut_of p.lengths (drop p.head p.elements))

  -- the elements of the whole
  abbrev pub elements_of : List (ReducePart X Y) → List X
  elements_of parts = joined (map (λ p. p.elements) parts)

  -- its room
  abbrev pub room_of : List (ReducePart X Y) → List Y
  room_of parts = joined (map (λ p. p.room) parts)

  -- in which parts a segment starts
  abbrev pub starts_of : List (ReducePart X Y) → List Bool
  starts_of parts = map (λ p. nat_lt 0 (length p.lengths)) parts

  -- what is told of each part's head
  abbrev pub told_of : List (ReducePart X Y) → List Y
  told_of parts = map (λ p. p.told) parts

  -- what goes on behind each part
  abbrev pub behinds_of : List (ReducePart X Y) → List Y
  behinds_of parts = map (λ p. p.behind) parts

  -- each part's room has a place for each segment that starts in it
  abbrev pub HaveRooms : List (ReducePart X Y) → Type 0
  HaveRooms parts = All (λ p. length p.room ≡ length p.lengths) parts

  -- The parts into which a vector is cut whose segments have these lengths. Each has as many elements as its head and its lengths say; the
  -- lengths are those of all parts, in order; and they cut the elements of all parts into the segments that the parts have together. No
  -- segment began before the first part.
  pub record ArePartsOf (lengths : List ℕ) (parts : List (ReducePart X Y)) : Type 0 where
    pub each : All (λ p. IsTrue (is_part p.head p.lengths (length p.elements))) parts
    pub in_order : lengths ≡ joined (map (λ p. p.lengths) parts)
    pub whole : (segments : List (List X)) × (nest lengths (elements_of parts) ≡ Ok segments)
        × (together (map segments_in parts) ≡ ([], segments))

  -- a part leaves what it had, but for what is told of its head
  abbrev pub TellsAlone : ReducePart X Y → ReducePart X Y → Type 0
  TellsAlone own left = left ≡ record own { told = left.told }

  -- but for what goes on behind it
  abbrev pub GoesOnAlone : ReducePart X Y → ReducePart X Y → Type 0
  GoesOnAlone own left = left ≡ record own { behind = left.behind }

  -- but for its room
  abbrev pub FillsAlone : ReducePart X Y → ReducePart X Y → Type 0
  FillsAlone own left = left ≡ record own { room = left.room }
