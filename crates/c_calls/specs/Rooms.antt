-- A call whose list has to fill its caller's room.
-- Source: this library's profile: which answers a call may give.
use Rattle.std.specs.Prelude.{List, length, Result}
use Rattle.cvl_base.specs.declared.fault.Fault.{Fault}
use Rattle.cvl_base.specs.declared.refused.Refused.{Refused}
use Rattle.cvl_base.specs.Rooms.{Overwrites, OverwritesOr, in_room}

-- The list that the definition gives fills the room; or the room has another length or there is a fault, and it is as it was.
abbrev pub Fills : {X : Type 0} → Result (List X) Fault → Result (Unit {0}) Fault → List X → List X → Type 0
Fills meaning answer before now = Overwrites (in_room (length before) meaning) answer before now

-- The same for a call that takes memory: it may be out of memory, and the room is then as it was, too.
abbrev pub FillsOr : {X : Type 0} → Result (List X) Fault → Result (Unit {0}) Refused → List X → List X → Type 0
FillsOr meaning answer before now = OverwritesOr (in_room (length before) meaning) answer before now
