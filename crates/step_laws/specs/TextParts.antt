-- What the parts of a text have of their own, which is written or read in parts: each part first makes something in a memory for all.
-- Source: this library's text and input formats; the parts are this library's.
use Rattle.std.specs.Prelude.{◌≡◌, ◌≢◌, ℕ, IsTrue, List, [], ◌∷◌, length, map, take}
use Rattle.std.specs.List.{All}
use Rattle.call_reader.specs.Inputs.{input_class}
use Rattle.cvl_base.specs.Lists.{joined}
use Rattle.line_reader.specs.Tokens.{begins_with_blank}
use Rattle.step_laws.specs.PackSteps.{ranges_of}

-- a part's items: the elements or the segments of which it writes a text, or the bytes that it reads; what it makes of them, a text or
-- integers, at the front of its range of a memory for all, and how many bytes or integers these are; where they go in the room; and the
-- part's range of the room
pub record TextPart (X Y : Type 0) : Type 0 where
  pub items : List X
  pub own : List Y
  pub count : ℕ
  pub place : ℕ
  pub room : List Y

module _ {X Y : Type 0} where
  -- the items of the whole
  abbrev pub items_of : List (TextPart X Y) → List X
  items_of parts = joined (map (λ p. p.items) parts)

  -- how many bytes or integers each part made
  abbrev pub counts_of : List (TextPart X Y) → List ℕ
  counts_of parts = map (λ p. p.count) parts

  -- each part has the place where its piece of the room begins
  abbrev pub HavePlaces : List ℕ → List (TextPart X Y) → Type 0
  HavePlaces places parts = map (λ p. p.place) parts ≡ take (length parts) places

  -- each part has its range of the room, from its place up to that of the next part
  abbrev pub HaveRanges : List ℕ → List Y → List (TextPart X Y) → Type 0
  HaveRanges places room parts = map (λ p. p.room) parts ≡ ranges_of places room

  -- a part leaves what it had, but for what it made
  abbrev pub MakesAlone : TextPart X Y → TextPart X Y → Type 0
  MakesAlone own left = left ≡ record own { own = left.own; count = left.count }

  -- but for its place and its range of the room
  abbrev pub PlacedAlone : TextPart X Y → TextPart X Y → Type 0
  PlacedAlone own left = left ≡ record own { place = left.place; room = left.room }

  -- but for its room
  abbrev pub FillsAlone : TextPart X Y → TextPart X Y → Type 0
  FillsAlone own left = left ≡ record own { room = left.room }

-- these bytes are none, or begin with white space
abbrev pub BeginsAtWhite : List ℕ → Type 0
BeginsAtWhite bytes = bytes ≢ [] → IsTrue (begins_with_blank input_class bytes)

-- a text is cut at white space, or at its end: each part but the first begins there
abbrev pub AreCutAtWhite : List (List ℕ) → Type 0
AreCutAtWhite [] = Unit {0}
AreCutAtWhite (first ∷ others) = All BeginsAtWhite others
