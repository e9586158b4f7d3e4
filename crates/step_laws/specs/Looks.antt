-- A look of a part: its export is called without a room, which it checks last.
-- Source: this library's profile: which fault counts.
use Rattle.std.specs.Prelude.{◌≡◌, ◌≢◌, ◌⊎◌, List, [], Result}
use Rattle.cvl_base.specs.declared.fault.Fault.{Fault}
use Rattle.c_calls.specs.Told.{RoomTold, done}
use Rattle.c_calls.specs.declared.status.CvlStatus.{CvlStatus}

-- no fault, or only LengthMismatch, since there is no room
abbrev pub FindsNone : CvlStatus → Type 0
FindsNone status = (status ≡ done) ⊎ (status.number ≡ 7)

-- a call without a room that finds no fault
abbrev pub Passes : {Y : Type 0} → Result (List Y) Fault → Type 0
Passes call = (status : CvlStatus) × RoomTold call status [] [] × FindsNone status

-- a fault of its own, and not only that its room has another length
abbrev pub FindsFault : CvlStatus → Type 0
FindsFault status = (status ≢ done) × (status.number ≢ 7)

-- a call, with a room or without one, that finds a fault
abbrev pub Fails : {Y : Type 0} → Result (List Y) Fault → Type 0
Fails {Y} call = (status : CvlStatus) × (before : List Y) × (now : List Y) × RoomTold call status before now × FindsFault status
