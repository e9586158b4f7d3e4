-- The steps of scans and reduces in parts, each by what its export is proved to do.
-- Source: Blelloch, Prefix Sums and Their Applications, 1990.
use Rattle.std.specs.Prelude.{◌≡◌, ℕ, ℤ, Bool, List}
use Rattle.std.specs.List.{AllZip}
use Rattle.flag_calls.specs.Flags.{flags_of}
use Rattle.step_laws.specs.Parts.{CarriesAlone, FillsAlone, Part, TellsAlone, befores_of, told_of}
use Rattle.c_calls.specs.Scans.{bool_reduce_by, bool_scan_after_by, bool_scan_by, int_reduce_by, int_scan_after_by, int_scan_by}
use Rattle.c_calls.specs.Told.{RoomTold, Told, done}
use Rattle.c_calls.specs.declared.status.CvlStatus.{CvlStatus}

-- a part reduces its elements
abbrev pub IntReduces : ℕ → Part ℤ ℤ ℤ → Part ℤ ℤ ℤ → Type 0
IntReduces op own left = Told (int_reduce_by op own.elements) done own.told left.told × TellsAlone own left

-- once: the parts' reduces are scanned
abbrev pub IntCarries : ℕ → List (Part ℤ ℤ ℤ) → List (Part ℤ ℤ ℤ) → Type 0
IntCarries op parts left =
    RoomTold (int_scan_by op (told_of parts)) done (befores_of parts) (befores_of left) × AllZip CarriesAlone parts left

-- a part scans its elements after what stands before them, whatever it answers
abbrev pub IntScans : ℕ → Part ℤ ℤ ℤ → Part ℤ ℤ ℤ → Type 0
IntScans op own left =
    ((status : CvlStatus) × RoomTold (int_scan_after_by op own.before own.elements) status own.room left.room) × FillsAlone own left

-- the same of booleans, whose bytes are reduced as they come
abbrev pub BoolReduces : ℕ → Part Bool Bool Bool → Part Bool Bool Bool → Type 0
BoolReduces op own left =
    ((bytes : List ℕ) × (flags_of bytes ≡ own.elements) × Told (bool_reduce_by op bytes) done own.told left.told) × TellsAlone own left

-- once: the parts' reduces are scanned
abbrev pub BoolCarries : ℕ → List (Part Bool Bool Bool) → List (Part Bool Bool Bool) → Type 0
BoolCarries op parts left =
    RoomTold (bool_scan_by op (told_of parts)) done (befores_of parts) (befores_of left) × AllZip CarriesAlone parts left

-- a part scans its elements after what stands before them
abbrev pub BoolScans : ℕ → Part Bool Bool Bool → Part Bool Bool Bool → Type 0
BoolScans op own left =
    ((status : CvlStatus) × RoomTold (bool_scan_after_by op own.before own.elements) status own.room left.room) × FillsAlone own left
