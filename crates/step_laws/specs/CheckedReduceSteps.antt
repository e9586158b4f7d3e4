-- The steps of a checked reduce by segments in parts, each by what its export is proved to do.
-- Source: CVL's segmented reduces, over whole numbers; the parts and the fault are this library's profile.
use Rattle.std.specs.Prelude.{◌≡◌, ℤ, pos, List, length, map, take, Ok}
use Rattle.std.specs.List.{AllZip}
use Rattle.cvl_base.specs.Exact.{total_of}
use Rattle.part_calls.specs.Limits.{few_enough}
use Rattle.segment_parts.specs.CheckedSums.{checked_part_reduce_by, long_behinds_of}
use Rattle.step_laws.specs.Looks.{Passes}
use Rattle.step_laws.specs.ReduceParts.{FillsAlone, GoesOnAlone, ReducePart, TellsAlone, behinds_of, starts_of, told_of}
use Rattle.c_calls.specs.Told.{RoomTold, Told, done}
use Rattle.c_calls.specs.declared.status.CvlStatus.{CvlStatus}

-- a part adds up its head, in 64 bits
abbrev pub HeadTotals : ReducePart ℤ ℤ → ReducePart ℤ ℤ → Type 0
HeadTotals own left =
    Told (few_enough (length (take own.head own.elements)) (Ok (total_of (take own.head own.elements)))) done own.told left.told
    × TellsAlone own left

-- once: what goes on behind each part, in 64 bits
abbrev pub LongGoesOn : List (ReducePart ℤ ℤ) → List (ReducePart ℤ ℤ) → Type 0
LongGoesOn parts left =
    RoomTold (long_behinds_of (starts_of parts) (told_of parts)) done (behinds_of parts) (behinds_of left)
    × AllZip GoesOnAlone parts left

-- a part looks whether the sum of each segment that starts in it fits, and finds no fault
abbrev pub LooksAtStarts : ReducePart ℤ ℤ → ReducePart ℤ ℤ → Type 0
LooksAtStarts own left =
    Passes (checked_part_reduce_by own.behind own.head (map pos own.lengths) own.elements) × (left ≡ own)

-- a part writes these sums, whatever it answers
abbrev pub SumsStarts : ReducePart ℤ ℤ → ReducePart ℤ ℤ → Type 0
SumsStarts own left =
    ((status : CvlStatus)
    × RoomTold (checked_part_reduce_by own.behind own.head (map pos own.lengths) own.elements) status own.room left.room)
    × FillsAlone own left
