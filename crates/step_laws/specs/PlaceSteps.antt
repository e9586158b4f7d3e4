-- The steps of calls in parts whose result has at each place what is made of the operands there. An element is what the operands have at
-- one place: a number, a pair, or more.
-- Source: CVL's elementwise calls; the parts are this library's.
use Rattle.std.specs.Prelude.{◌≡◌, map, Option, Ok}
use Rattle.cvl_base.specs.declared.fault.FaultNo.{FaultNo}
use Rattle.cvl_base.specs.Elementwise.{values_from}
use Rattle.step_laws.specs.Looks.{Passes}
use Rattle.step_laws.specs.Parts.{FillsAlone, Part}
use Rattle.c_calls.specs.Calls.{in_limit}
use Rattle.c_calls.specs.Told.{RoomTold}
use Rattle.c_calls.specs.declared.status.CvlStatus.{CvlStatus}

module _ {X R Y : Type 0} where
  -- a part looks whether each of its places has a value, and finds no fault
  abbrev pub LooksAtPlaces : FaultNo → (X → Option Y) → Part X R Y → Part X R Y → Type 0
  LooksAtPlaces number value own left =
      Passes (in_limit own.elements (values_from number 0 (map value own.elements))) × (left ≡ own)

  -- a part makes the values of its places, whatever it answers
  abbrev pub FillsPlaces : FaultNo → (X → Option Y) → Part X R Y → Part X R Y → Type 0
  FillsPlaces number value own left =
      ((status : CvlStatus) × RoomTold (in_limit own.elements (values_from number 0 (map value own.elements))) status own.room left.room)
      × FillsAlone own left

  -- the same where each place has a value
  abbrev pub FillsAll : (X → Y) → Part X R Y → Part X R Y → Type 0
  FillsAll value own left =
      ((status : CvlStatus) × RoomTold (in_limit own.elements (Ok (map value own.elements))) status own.room left.room)
      × FillsAlone own left
