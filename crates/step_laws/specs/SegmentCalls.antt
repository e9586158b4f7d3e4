-- Calls that go segment by segment, on operands that are cut between segments into parts.
-- Source: CVL's segmented operations; the parts are this library's.
use Rattle.std.specs.Prelude.{◌≡◌, ℤ, unsigned_abs, List, length, map, sum, Result, Ok}
use Rattle.std.specs.List.{All}
use Rattle.cvl_base.specs.declared.fault.Fault.{Fault}
use Rattle.cvl_base.specs.Lists.{joined}
use Rattle.c_calls.specs.Told.{RoomToldOr, ToldOr, done}

-- what a part has of the operands of a call, which are whole segments, and its range of the room
pub record CallPart (I Y : Type 0) : Type 0 where
  pub operands : I
  pub room : List Y

-- the room of the whole
abbrev pub room_of : {I Y : Type 0} → List (CallPart I Y) → List Y
room_of parts = joined (map (λ p. p.room) parts)

module _ {I Y : Type 0} where
  -- a part makes the call on its own operands, and is done
  abbrev pub Makes : (I → Result (List Y) Fault) → CallPart I Y → CallPart I Y → Type 0
  Makes call own left = RoomToldOr (call own.operands) done own.room left.room × (left ≡ record own { room = left.room })

  -- the same of a call that goes on from what stands in its room
  abbrev pub MakesOver : (I → List Y → Result (List Y) Fault) → CallPart I Y → CallPart I Y → Type 0
  MakesOver call own left = ToldOr (call own.operands own.room) done own.room left.room × (left ≡ record own { room = left.room })

-- A call is made of the calls on some parts: it has a value exactly if each of them has one, and its value is theirs, put together.
pub record IsMadeBy {V : Type 0} (together : List V → V) (whole : Result V Fault) (parts : List (Result V Fault)) : Type 0 where
  pub all : (values : List V) → parts ≡ map (λ v. Ok v) values → whole ≡ Ok (together values)
  pub each : (value : V) → whole ≡ Ok value → (values : List V) × (parts ≡ map (λ v. Ok v) values) × (value ≡ together values)

-- the same of lists, whose value is theirs, one behind another
abbrev pub IsMadeOf : {Y : Type 0} → Result (List Y) Fault → List (Result (List Y) Fault) → Type 0
IsMadeOf whole parts = IsMadeBy joined whole parts

module _ {P : Type 0} where
  -- what all parts have, in order
  abbrev pub of_all : {X : Type 0} → (P → List X) → List P → List X
  of_all own parts = joined (map own parts)

  -- each part has the elements of segments with the lengths that it has
  abbrev pub AddUp : {X : Type 0} → (P → List ℤ) → (P → List X) → List P → Type 0
  AddUp lengths own parts = All (λ p. sum (map unsigned_abs (lengths p)) ≡ length (own p)) parts

  -- each part has as many of one as of another
  abbrev pub AsMany : {X Y : Type 0} → (P → List X) → (P → List Y) → List P → Type 0
  AsMany own others parts = All (λ p. length (own p) ≡ length (others p)) parts

-- ---- two rooms

-- what a part has of the operands of a call that writes over two rooms, and its range of each
pub record TwoRoomPart (I Y Z : Type 0) : Type 0 where
  pub operands : I
  pub room : List Y
  pub other : List Z

-- what two rooms hold of which each part has a range, one behind another
abbrev pub both_joined : {Y Z : Type 0} → List (List Y × List Z) → List Y × List Z
both_joined rooms = (joined (map (λ r. r.0) rooms), joined (map (λ r. r.1) rooms))

module _ {Y Z : Type 0} where
  -- A call that gives two lists is made of the calls on some parts: it has both exactly if each of them has, and both are theirs, each one
  -- behind another.
  abbrev pub AreMadeOf : Result (List Y × List Z) Fault → List (Result (List Y × List Z) Fault) → Type 0
  AreMadeOf whole parts = IsMadeBy both_joined whole parts

  module _ {I : Type 0} where
    -- what both rooms of a part hold
    abbrev pub rooms_in : TwoRoomPart I Y Z → List Y × List Z
    rooms_in p = (p.room, p.other)

    -- both rooms of the whole
    abbrev pub rooms_of : List (TwoRoomPart I Y Z) → List Y × List Z
    rooms_of parts = both_joined (map rooms_in parts)

    -- a part makes the call on its own operands, goes on from what stands in its two rooms, and is done
    abbrev pub MakesOverBoth :
        (I → List Y × List Z → Result (List Y × List Z) Fault) → TwoRoomPart I Y Z → TwoRoomPart I Y Z → Type 0
    MakesOverBoth call own left =
        ToldOr (call own.operands (rooms_in own)) done (rooms_in own) (rooms_in left)
        × (left ≡ record own { room = left.room; other = left.other })
