-- The steps of a scan by segments in parts, each by what its export is proved to do.
-- Source: Blelloch, Vector Models for Data-Parallel Computing, 1990, segmented scans.
use Rattle.std.specs.Prelude.{◌≡◌, ℕ, ℤ, pos, Bool, List, length, map}
use Rattle.std.specs.List.{All, AllZip}
use Rattle.cvl_base.specs.Lists.{joined}
use Rattle.flag_calls.specs.Flags.{flags_of}
use Rattle.segment_parts.specs.Calls.{bool_carries_by, int_carries_by, part_bool_scan_by, part_int_scan_by}
use Rattle.step_laws.specs.Pieces.{Piece, since_start}
use Rattle.c_calls.specs.Scans.{bool_reduce_by, int_reduce_by}
use Rattle.c_calls.specs.Told.{RoomTold, Told, done}
use Rattle.c_calls.specs.declared.status.CvlStatus.{CvlStatus}

-- a part's piece of the vector, what a step tells of it, what stands before it, and the part's range of the room
pub record SegPart (X : Type 0) : Type 0 where
  pub piece : Piece X
  pub told : X
  pub before : X
  pub room : List X

module _ {X : Type 0} where
  -- the parts' pieces
  abbrev pub pieces_of : List (SegPart X) → List (Piece X)
  pieces_of parts = map (λ p. p.piece) parts

  -- the elements of the whole
  abbrev pub elements_of : List (SegPart X) → List X
  elements_of parts = joined (map (λ p. p.elements) (pieces_of parts))

  -- its room
  abbrev pub room_of : List (SegPart X) → List X
  room_of parts = joined (map (λ p. p.room) parts)

  -- in which parts a segment starts
  abbrev pub starts_of : List (SegPart X) → List Bool
  starts_of parts = map (λ p. p.piece.starts) parts

  -- what is told of each part
  abbrev pub told_of : List (SegPart X) → List X
  told_of parts = map (λ p. p.told) parts

  -- what stands before each part
  abbrev pub befores_of : List (SegPart X) → List X
  befores_of parts = map (λ p. p.before) parts

  -- each part's room has a place for each of its elements
  abbrev pub HaveRooms : List (SegPart X) → Type 0
  HaveRooms parts = All (λ p. length p.room ≡ length p.piece.elements) parts

  -- a part leaves what it had, but for what is told of it
  abbrev pub TellsAlone : SegPart X → SegPart X → Type 0
  TellsAlone own left = left ≡ record own { told = left.told }

  -- but for what stands before it
  abbrev pub CarriesAlone : SegPart X → SegPart X → Type 0
  CarriesAlone own left = left ≡ record own { before = left.before }

  -- but for its room
  abbrev pub FillsAlone : SegPart X → SegPart X → Type 0
  FillsAlone own left = left ≡ record own { room = left.room }

-- ---- integers

-- a part reduces its elements since the last start of a segment
abbrev pub IntSegReduces : ℕ → SegPart ℤ → SegPart ℤ → Type 0
IntSegReduces op own left = Told (int_reduce_by op (since_start own.piece)) done own.told left.told × TellsAlone own left

-- once: what stands before each part
abbrev pub IntSegCarries : ℕ → List (SegPart ℤ) → List (SegPart ℤ) → Type 0
IntSegCarries op parts left =
    RoomTold (int_carries_by op (starts_of parts) (told_of parts)) done (befores_of parts) (befores_of left)
    × AllZip CarriesAlone parts left

-- a part scans its elements after what stands before them, whatever it answers
abbrev pub IntSegScans : ℕ → SegPart ℤ → SegPart ℤ → Type 0
IntSegScans op own left =
    ((status : CvlStatus)
    × RoomTold (part_int_scan_by op own.before own.piece.head (map pos own.piece.lengths) own.piece.elements) status own.room left.room)
    × FillsAlone own left

-- ---- booleans

-- the same of booleans, whose bytes are reduced as they come
abbrev pub BoolSegReduces : ℕ → SegPart Bool → SegPart Bool → Type 0
BoolSegReduces op own left =
    ((bytes : List ℕ) × (flags_of bytes ≡ since_start own.piece) × Told (bool_reduce_by op bytes) done own.told left.told)
    × TellsAlone own left

-- once: what stands before each part
abbrev pub BoolSegCarries : ℕ → List (SegPart Bool) → List (SegPart Bool) → Type 0
BoolSegCarries op parts left =
    RoomTold (bool_carries_by op (starts_of parts) (told_of parts)) done (befores_of parts) (befores_of left)
    × AllZip CarriesAlone parts left

-- a part scans its elements after what stands before them, whatever it answers
abbrev pub BoolSegScans : ℕ → SegPart Bool → SegPart Bool → Type 0
BoolSegScans op own left =
    ((status : CvlStatus)
    × RoomTold (part_bool_scan_by op own.before own.piece.head (map pos own.piece.lengths) own.piece.elements) status own.room left.room)
    × FillsAlone own left
