-- The steps of checked sums in parts, each by what its export is proved to do.
-- Source: Blelloch, Prefix Sums and Their Applications, 1990, over whole numbers; the fault is this library's profile.
use Rattle.std.specs.Prelude.{◌≡◌, ℕ, ℤ, List, length, Ok}
use Rattle.std.specs.List.{AllZip}
use Rattle.cvl_base.specs.Exact.{total_of}
use Rattle.cvl_base.specs.Integers.{wrap}
use Rattle.part_calls.specs.Limits.{few_enough}
use Rattle.part_calls.specs.Sums.{checked_scan_after}
use Rattle.part_records.specs.Carries.{carries_of}
use Rattle.step_laws.specs.Looks.{Passes}
use Rattle.step_laws.specs.Parts.{CarriesAlone, FillsAlone, Part, TellsAlone, befores_of, told_of}
use Rattle.c_calls.specs.Scans.{int_scan_after_by}
use Rattle.c_calls.specs.Told.{RoomTold, Told, done}
use Rattle.c_calls.specs.declared.status.CvlStatus.{CvlStatus}

-- a part adds up its integers, in 64 bits
abbrev pub Totals : Part ℤ ℤ ℤ → Part ℤ ℤ ℤ → Type 0
Totals own left =
    Told (few_enough (length own.elements) (Ok (total_of own.elements))) done own.told left.told × TellsAlone own left

-- once: the sums of the parts before each one
abbrev pub Carries : List (Part ℤ ℤ ℤ) → List (Part ℤ ℤ ℤ) → Type 0
Carries parts left =
    RoomTold (Ok (carries_of (told_of parts))) done (befores_of parts) (befores_of left) × AllZip CarriesAlone parts left

-- a part looks whether each sum after what stands before it fits, and finds no fault
abbrev pub LooksAtSums : Part ℤ ℤ ℤ → Part ℤ ℤ ℤ → Type 0
LooksAtSums own left =
    Passes (few_enough (length own.elements) (checked_scan_after own.before own.elements)) × (left ≡ own)

-- a part scans its integers by sums that wrap, after what stands before it in 32 bits, whatever it answers
abbrev pub ScansSums : ℕ → Part ℤ ℤ ℤ → Part ℤ ℤ ℤ → Type 0
ScansSums op own left =
    ((status : CvlStatus) × RoomTold (int_scan_after_by op (wrap own.before) own.elements) status own.room left.room)
    × FillsAlone own left
