-- What the parts of a distribute or an index by segments have of their own. The result is cut into parts at any places: a segment may begin
-- in one part and go on in others.
-- Source: CVL's segmented distribute and index; how segments are cut is this library's.
use Rattle.std.specs.Prelude.{◌≡◌, ◌+◌, ◌-◌, ℕ, zero, suc, IsTrue, List, [], ◌∷◌, drop, length, map, sum, take, Ok}
use Rattle.std.specs.List.{All}
use Rattle.call_laws.specs.OverRanks.{together}
use Rattle.cvl_base.specs.Lists.{joined}
use Rattle.cvl_base.specs.Nests.{cut_of, nest}
use Rattle.segment_parts.specs.Reduces.{but_last, is_part}

-- how many of a part's elements, its head, go on from a segment that began before the part, its open one; how many elements the parts
-- before have of that segment; the lengths of the segments that start in the part, the last of which may go on behind it; the values of
-- its segments; and its range of the room
pub record FillPart (X Y : Type 0) : Type 0 where
  pub head : ℕ
  pub done : ℕ
  pub lengths : List ℕ
  pub values : List X
  pub room : List Y

-- how many open segments a part with this head has: one, if its head has elements
abbrev pub opened : ℕ → ℕ
opened zero = 0
opened (suc n) = 1

-- a number for a part with this head that has an open segment, else 0
abbrev pub if_opened : ℕ → ℕ → ℕ
if_opened zero n = 0
if_opened (suc head) n = n

-- how many elements the segment that goes on behind a part has up to there, if the part's open one has so many in the parts before
abbrev pub done_behind : ℕ → ℕ → List ℕ → ℕ → ℕ
done_behind done head [] n = done + n
done_behind done head (l ∷ lengths) n = n - (head + sum (but_last (l ∷ lengths)))

module _ {X Y : Type 0} where
  -- its head, and what it has of the segments that start in it
  abbrev pub segments_in : FillPart X Y → List Y × List (List Y)
  segments_in p = (take p.head p.room, cut_of p.lengths (drop p.head p.room))

  -- the room of the whole
  abbrev pub room_of : List (FillPart X Y) → List Y
  room_of parts = joined (map (λ p. p.room) parts)

  -- Each part has the values of its segments: of the open one, if it has a head, and of those that start in it. They stand side by side
  -- among all values; `first` segments start before these parts.
  abbrev pub HaveValues : List X → ℕ → List (FillPart X Y) → Type 0
  HaveValues values first [] = Unit {0}
  HaveValues values first (p ∷ parts) =
      (p.values ≡ take (opened p.head + length p.lengths) (drop (first - opened p.head) values))
      × HaveValues values (first + length p.lengths) parts

  -- each part has told how many elements the parts before have of its open segment; the one before these parts has `done`
  abbrev pub AreDone : ℕ → List (FillPart X Y) → Type 0
  AreDone done [] = Unit {0}
  AreDone done (p ∷ parts) = (p.done ≡ if_opened p.head done) × AreDone (done_behind done p.head p.lengths (length p.room)) parts

  -- The parts into which a room is cut whose segments have these lengths and values. Each has as many elements as its head and its lengths
  -- say; the lengths are those of all parts, in order; each segment has a value, and each part the values of its segments; and the lengths
  -- cut the room into the segments that the parts have together. No segment began before the first part.
  pub record ArePartsOf (lengths : List ℕ) (values : List X) (parts : List (FillPart X Y)) : Type 0 where
    pub each : All (λ p. IsTrue (is_part p.head p.lengths (length p.room))) parts
    pub in_order : lengths ≡ joined (map (λ p. p.lengths) parts)
    pub one_each : length values ≡ length lengths
    pub have_values : HaveValues values 0 parts
    pub whole : (segments : List (List Y)) × (nest lengths (room_of parts) ≡ Ok segments)
        × (together (map segments_in parts) ≡ ([], segments))

  -- a part leaves what it had, but for its room
  abbrev pub FillsAlone : FillPart X Y → FillPart X Y → Type 0
  FillsAlone own left = left ≡ record own { room = left.room }
