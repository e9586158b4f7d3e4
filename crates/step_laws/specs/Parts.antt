-- What the parts of a call have of their own.
-- Source: Blelloch, Prefix Sums and Their Applications, 1990: processors sum up their parts, scan the sums, and scan their parts from
-- there.
use Rattle.std.specs.Prelude.{◌≡◌, List, length, map}
use Rattle.std.specs.List.{All}
use Rattle.cvl_base.specs.Lists.{joined}

-- a part's elements, what a step tells of them, what stands before them, and the part's range of the room
pub record Part (X R Y : Type 0) : Type 0 where
  pub elements : List X
  pub told : R
  pub before : R
  pub room : List Y

module _ {X R Y : Type 0} where
  -- the elements of the whole
  abbrev pub elements_of : List (Part X R Y) → List X
  elements_of parts = joined (map (λ p. p.elements) parts)

  -- its room
  abbrev pub room_of : List (Part X R Y) → List Y
  room_of parts = joined (map (λ p. p.room) parts)

  -- what is told of each part
  abbrev pub told_of : List (Part X R Y) → List R
  told_of parts = map (λ p. p.told) parts

  -- what stands before each part
  abbrev pub befores_of : List (Part X R Y) → List R
  befores_of parts = map (λ p. p.before) parts

  -- each part's room has a place for each of its elements
  abbrev pub HaveRooms : List (Part X R Y) → Type 0
  HaveRooms parts = All (λ p. length p.room ≡ length p.elements) parts

  -- a part leaves what it had, but for what is told of it
  abbrev pub TellsAlone : Part X R Y → Part X R Y → Type 0
  TellsAlone own left = left ≡ record own { told = left.told }

  -- but for what stands before it
  abbrev pub CarriesAlone : Part X R Y → Part X R Y → Type 0
  CarriesAlone own left = left ≡ record own { before = left.before }

  -- but for its room
  abbrev pub FillsAlone : Part X R Y → Part X R Y → Type 0
  FillsAlone own left = left ≡ record own { room = left.room }
