-- The steps of reduces and counts by segments in parts, each by what its export is proved to do. Flags come as bytes.
-- Source: CVL's segmented reduces and counts; the parts are this library's.
use Rattle.std.specs.Prelude.{ℕ, ℤ, pos, Bool, List, map, take, Ok}
use Rattle.std.specs.List.{AllZip}
use Rattle.flag_calls.specs.Flags.{count_in}
use Rattle.segment_parts.specs.ReduceCalls.{bool_behinds_by, int_behinds_by, part_bool_reduce_by, part_count_of, part_int_reduce_by}
use Rattle.step_laws.specs.ReduceParts.{FillsAlone, GoesOnAlone, ReducePart, TellsAlone, behinds_of, starts_of, told_of}
use Rattle.c_calls.specs.Calls.{in_limit}
use Rattle.c_calls.specs.Scans.{bool_reduce_by, int_reduce_by}
use Rattle.c_calls.specs.Told.{RoomTold, Told, done}
use Rattle.c_calls.specs.declared.status.CvlStatus.{CvlStatus}

-- ---- integers

-- a part reduces its head
abbrev pub IntReducesHead : ℕ → ReducePart ℤ ℤ → ReducePart ℤ ℤ → Type 0
IntReducesHead op own left = Told (int_reduce_by op (take own.head own.elements)) done own.told left.told × TellsAlone own left

-- once: what goes on behind each part
abbrev pub IntGoesOn : ℕ → {X : Type 0} → List (ReducePart X ℤ) → List (ReducePart X ℤ) → Type 0
IntGoesOn op parts left =
    RoomTold (int_behinds_by op (starts_of parts) (told_of parts)) done (behinds_of parts) (behinds_of left)
    × AllZip GoesOnAlone parts left

-- a part reduces the segments that start in it, the last one with what goes on behind it, whatever it answers
abbrev pub IntReducesStarts : ℕ → ReducePart ℤ ℤ → ReducePart ℤ ℤ → Type 0
IntReducesStarts op own left =
    ((status : CvlStatus)
    × RoomTold (part_int_reduce_by op own.behind own.head (map pos own.lengths) own.elements) status own.room left.room)
    × FillsAlone own left

-- ---- booleans

-- a part reduces its head
abbrev pub BoolReducesHead : ℕ → ReducePart ℕ Bool → ReducePart ℕ Bool → Type 0
BoolReducesHead op own left = Told (bool_reduce_by op (take own.head own.elements)) done own.told left.told × TellsAlone own left

-- once: what goes on behind each part
abbrev pub BoolGoesOn : ℕ → List (ReducePart ℕ Bool) → List (ReducePart ℕ Bool) → Type 0
BoolGoesOn op parts left =
    RoomTold (bool_behinds_by op (starts_of parts) (told_of parts)) done (behinds_of parts) (behinds_of left)
    × AllZip GoesOnAlone parts left

-- a part reduces the segments that start in it, the last one with what goes on behind it, whatever it answers
abbrev pub BoolReducesStarts : ℕ → ReducePart ℕ Bool → ReducePart ℕ Bool → Type 0
BoolReducesStarts op own left =
    ((status : CvlStatus)
    × RoomTold (part_bool_reduce_by op own.behind own.head (map pos own.lengths) own.elements) status own.room left.room)
    × FillsAlone own left

-- ---- counts: what goes on behind each part comes by the operator `Add`

-- a part counts the true flags of its head
abbrev pub CountsHead : ReducePart ℕ ℤ → ReducePart ℕ ℤ → Type 0
CountsHead own left =
    Told (in_limit (take own.head own.elements) (Ok (count_in (take own.head own.elements)))) done own.told left.told
    × TellsAlone own left

-- a part counts the true flags of the segments that start in it, and adds what goes on behind it to the last one, whatever it answers
abbrev pub CountsStarts : ReducePart ℕ ℤ → ReducePart ℕ ℤ → Type 0
CountsStarts own left =
    ((status : CvlStatus) × RoomTold (part_count_of own.behind own.head (map pos own.lengths) own.elements) status own.room left.room)
    × FillsAlone own left
