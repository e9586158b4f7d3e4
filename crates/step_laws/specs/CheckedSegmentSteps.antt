-- The steps of a checked scan by segments in parts, each by what its export is proved to do.
-- Source: Blelloch, Vector Models for Data-Parallel Computing, 1990, segmented scans, over whole numbers; the fault is this library's
-- profile.
use Rattle.std.specs.Prelude.{◌≡◌, ℕ, ℤ, pos, List, length, map, Ok}
use Rattle.std.specs.List.{AllZip}
use Rattle.cvl_base.specs.Exact.{total_of}
use Rattle.cvl_base.specs.Integers.{wrap}
use Rattle.part_calls.specs.Limits.{few_enough}
use Rattle.segment_parts.specs.Calls.{part_int_scan_by}
use Rattle.segment_parts.specs.CheckedSums.{checked_part_scan_by, long_carries_of}
use Rattle.step_laws.specs.Looks.{Passes}
use Rattle.step_laws.specs.Pieces.{since_start}
use Rattle.step_laws.specs.SegmentSteps.{CarriesAlone, FillsAlone, SegPart, TellsAlone, befores_of, starts_of, told_of}
use Rattle.c_calls.specs.Told.{RoomTold, Told, done}
use Rattle.c_calls.specs.declared.status.CvlStatus.{CvlStatus}

-- a part adds up its integers since the last start of a segment, in 64 bits
abbrev pub SegTotals : SegPart ℤ → SegPart ℤ → Type 0
SegTotals own left =
    Told (few_enough (length (since_start own.piece)) (Ok (total_of (since_start own.piece)))) done own.told left.told
    × TellsAlone own left

-- once: what stands before each part, in 64 bits
abbrev pub LongCarries : List (SegPart ℤ) → List (SegPart ℤ) → Type 0
LongCarries parts left =
    RoomTold (long_carries_of (starts_of parts) (told_of parts)) done (befores_of parts) (befores_of left)
    × AllZip CarriesAlone parts left

-- a part looks whether each of its sums fits, and finds no fault
abbrev pub LooksAtSegSums : SegPart ℤ → SegPart ℤ → Type 0
LooksAtSegSums own left =
    Passes (checked_part_scan_by own.before own.piece.head (map pos own.piece.lengths) own.piece.elements) × (left ≡ own)

-- a part scans its integers by sums that wrap, after what stands before it in 32 bits, whatever it answers
abbrev pub ScansSegSums : ℕ → SegPart ℤ → SegPart ℤ → Type 0
ScansSegSums op own left =
    ((status : CvlStatus)
    × RoomTold (part_int_scan_by op (wrap own.before) own.piece.head (map pos own.piece.lengths) own.piece.elements) status
    own.room left.room)
    × FillsAlone own left
