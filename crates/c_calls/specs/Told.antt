-- What an export returns, and what it leaves in its caller's room.
-- Source: this library's faults and their places, as two numbers.
use Rattle.std.specs.Prelude.{◌≡◌, ℕ, ◌⊎◌, ℤ, pos, negsuc, List, length, Result, Ok, Err, Option, Some, None}
use Rattle.cvl_base.specs.declared.fault.Fault.{Fault}
use Rattle.cvl_base.specs.declared.refused.Refused.{Refused}
use Rattle.cvl_base.specs.declared.refused.Refused.TheVariants as refused
use Rattle.cvl_base.specs.Faults.{number_of}
use Rattle.cvl_base.specs.Gives.{◌>>=◌}
pub use Rattle.cvl_base.specs.Rooms.{at_front, count_or, in_room}
use Rattle.c_calls.specs.declared.status.CvlStatus.{CvlStatus}

-- all is done
abbrev pub done : CvlStatus
done = record { number = 0; place = negsuc 0 }

-- memory ran out
abbrev pub no_resources : CvlStatus
no_resources = record { number = 100; place = negsuc 0 }

-- a place, or -1
abbrev pub place_or_none : Option ℕ → ℤ
place_or_none (Some place) = pos place
place_or_none None = negsuc 0

-- a fault as a status: its number and its place
abbrev pub status_of_fault : Fault → CvlStatus
status_of_fault f = record { number = number_of f.number; place = place_or_none f.place }

-- what an export answers for a call that failed
abbrev pub status_of : Refused → CvlStatus
status_of (refused.Fault f) = status_of_fault f
status_of refused.NoResources = no_resources

-- The room holds the value and the answer is that all is done, or the answer is the fault and the room is as before.
abbrev pub Told : {X : Type 0} → Result X Fault → CvlStatus → X → X → Type 0
Told (Ok value) status before now = (status ≡ done) × (now ≡ value)
Told (Err f) status before now = (status ≡ status_of_fault f) × (now ≡ before)

-- The same, or memory ran out and the room is as before.
abbrev pub ToldOr : {X : Type 0} → Result X Fault → CvlStatus → X → X → Type 0
ToldOr meaning status before now = Told meaning status before now ⊎ ((status ≡ no_resources) × (now ≡ before))

-- A list that has to fill its room: it does, and the answer is that all is done; or the room has another length or there is a fault,
-- which is the answer, and the room is as before.
abbrev pub RoomTold : {X : Type 0} → Result (List X) Fault → CvlStatus → List X → List X → Type 0
RoomTold meaning status before now = Told (in_room (length before) meaning) status before now

-- The same, or memory ran out and the room is as before.
abbrev pub RoomToldOr : {X : Type 0} → Result (List X) Fault → CvlStatus → List X → List X → Type 0
RoomToldOr meaning status before now = ToldOr (in_room (length before) meaning) status before now

-- a room for a list whose length the caller may not know, and the count where that length is written
pub record Front (X : Type 0) : Type 0 where
  pub room : List X
  pub count : ℕ

module _ {X : Type 0} where
  -- a room and its count
  abbrev pub front_of : List X → ℕ → Front X
  front_of room count = record { room = room; count = count }

  -- The list stands at the front of the room, or the room is too short and as before; in both cases the count is the list's length.
  -- Or the answer is the fault, and room and count are as before.
  abbrev pub FrontTold : Result (List X) Fault → CvlStatus → Front X → Front X → Type 0
  FrontTold meaning status before now =
      Told (meaning >>= at_front before.room) status before.room now.room × (now.count ≡ count_or before.count meaning)

  -- The same, or memory ran out and room and count are as before.
  abbrev pub FrontToldOr : Result (List X) Fault → CvlStatus → Front X → Front X → Type 0
  FrontToldOr meaning status before now = FrontTold meaning status before now ⊎ ((status ≡ no_resources) × (now ≡ before))
