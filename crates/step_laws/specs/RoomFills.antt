-- What the parts of a flat distribute and of an index have of their own, and their steps, each by what its export is proved to do.
-- Source: Blelloch, Vector Models for Data-Parallel Computing, 1990, distribute; CVL's index; the parts are this library's.
use Rattle.std.specs.Prelude.{◌≡◌, ◌+◌, ℕ, ℤ, pos, List, [], ◌∷◌, length, map}
use Rattle.cvl_base.specs.Distributes.{distribute_within}
use Rattle.cvl_base.specs.Limits.{most_places}
use Rattle.cvl_base.specs.Lists.{joined}
use Rattle.segment_fills.specs.Numbers.{numbers_after_of}
use Rattle.c_calls.specs.Told.{RoomTold, Told}
use Rattle.c_calls.specs.declared.status.CvlStatus.{CvlStatus}

-- how many places of the room stand before a part, and its range of the room
pub record RoomPart (Y : Type 0) : Type 0 where
  pub before : ℕ
  pub room : List Y

module _ {Y : Type 0} where
  -- the room of the whole
  abbrev pub room_of : List (RoomPart Y) → List Y
  room_of parts = joined (map (λ p. p.room) parts)

  -- each part stands behind those before it; so many places stand before these parts
  abbrev pub AreBehind : ℕ → List (RoomPart Y) → Type 0
  AreBehind before [] = Unit {0}
  AreBehind before (p ∷ parts) = (p.before ≡ before) × AreBehind (before + length p.room) parts

  -- a part leaves what it had, but for its room
  abbrev pub FillsAlone : RoomPart Y → RoomPart Y → Type 0
  FillsAlone own left = left ≡ record own { room = left.room }

  -- a part writes copies of the value, whatever it answers
  abbrev pub CopiesOf : Y → RoomPart Y → RoomPart Y → Type 0
  CopiesOf value own left =
      ((status : CvlStatus) × RoomTold (distribute_within most_places value (pos (length own.room))) status own.room left.room)
      × FillsAlone own left

-- a part writes its numbers of the index, whatever it answers
abbrev pub NumbersOf : ℤ → ℤ → RoomPart ℤ → RoomPart ℤ → Type 0
NumbersOf init stride own left =
    ((status : CvlStatus) × Told (numbers_after_of own.before init stride (length own.room)) status own.room left.room)
    × FillsAlone own left
