-- What the parts of a call on runs of equal neighbours have of their own. A vector is cut into parts at any places: a segment may begin in
-- one part and go on in others, and so may a run, which belongs to the part in which it begins.
-- Source: reduce_by_key of Thrust over tiles; how segments are cut is this library's.
use Rattle.std.specs.Prelude.{◌≡◌, ◌+◌, ◌<◌, ℕ, ℤ, List, [], ◌∷◌, ◌++◌, length, map, sum}
use Rattle.std.specs.List.{All}
use Rattle.segment_parts.specs.Reduces.{but_last}
use Rattle.step_laws.specs.PackSteps.{ranges_of}
use Rattle.step_laws.specs.ReduceParts.{ArePartsOf, ReducePart}

-- a part of the vector, with its range of the room, and the place where it begins; and of the runs that begin in it the memory for their
-- lengths, the place where the first of them begins, how many they are, and how many elements the last of them has in later parts
pub record RunPart (X : Type 0) : Type 0 where
  pub part : ReducePart X ℤ
  pub from : ℕ
  pub own : List ℤ
  pub begin : ℕ
  pub count : ℕ
  pub behind : ℕ

module _ {X : Type 0} where
  -- the parts of the vector
  abbrev pub parts_of : List (RunPart X) → List (ReducePart X ℤ)
  parts_of parts = map (λ p. p.part) parts

  -- their ranges of the room
  abbrev pub rooms_of : List (RunPart X) → List (List ℤ)
  rooms_of parts = map (λ p. p.part.room) parts

  -- where the parts begin, and at last where the whole ends
  abbrev pub places_of : ℕ → List (RunPart X) → List ℕ
  places_of whole parts = map (λ p. p.from) parts ++ whole ∷ []

  -- each part begins where the one before ends
  abbrev pub AreAt : ℕ → List (RunPart X) → Type 0
  AreAt place [] = Unit {0}
  AreAt place (p ∷ parts) = (p.from ≡ place) × AreAt (place + length p.part.elements) parts

  -- a segment starts in the part that has its first element: if the last one goes on behind the part, the part has some of it
  abbrev pub HasFirsts : ReducePart X ℤ → Type 0
  HasFirsts p = length p.elements < p.head + sum p.lengths → p.head + sum (but_last p.lengths) < length p.elements

  -- the parts into which a vector is cut whose segments have these lengths, at their places
  pub record AreRunPartsOf (lengths : List ℕ) (parts : List (RunPart X)) : Type 0 where
    pub cut : ArePartsOf lengths (parts_of parts)
    pub at : AreAt 0 parts
    pub firsts : All HasFirsts (parts_of parts)

  -- each part has memory for as many lengths as it has elements
  abbrev pub HaveMemory : List (RunPart X) → Type 0
  HaveMemory parts = All (λ p. length p.own ≡ length p.part.elements) parts

  -- a part leaves what it had, but for what it tells of its runs
  abbrev pub TellsAlone : RunPart X → RunPart X → Type 0
  TellsAlone own left = left ≡ record own { own = left.own; begin = left.begin; count = left.count }

  -- but for its range of the room
  abbrev pub FillsAlone : RunPart X → RunPart X → Type 0
  FillsAlone own left = left ≡ record own { part = record own.part { room = left.part.room } }

  -- but for what it has of the vector and of the room
  abbrev pub PartsAlone : RunPart X → RunPart X → Type 0
  PartsAlone own left = left ≡ record own { part = left.part }

  -- but for its range of the room, and how many elements its last run has in later parts
  abbrev pub RangesAlone : RunPart X → RunPart X → Type 0
  RangesAlone own left = left ≡ record own { part = record own.part { room = left.part.room }; behind = left.behind }

  -- each part has its range of the room, from its place up to that of the next part
  abbrev pub HaveRanges : List ℕ → List ℤ → List (RunPart X) → Type 0
  HaveRanges places room parts = rooms_of parts ≡ ranges_of places room

  -- each part knows how many elements its last run has in later parts
  abbrev pub KnowBehinds : List ℕ → List (RunPart X) → Type 0
  KnowBehinds behinds parts = map (λ p. p.behind) parts ≡ behinds
