-- What the parts of a combining permute have of their own: of the elements, and of the room into which these are joined.
-- Source: Blelloch's combining send; the parts are this library's.
use Rattle.std.specs.Prelude.{◌≡◌, ℕ, ◌+◌, ◌≤◌, ℤ, List, [], ◌∷◌, length, map}
use Rattle.std.specs.List.{All}
use Rattle.combine_parts.specs.RoomJoins.{starts_of}
use Rattle.cvl_base.specs.Lists.{joined}
use Rattle.step_laws.specs.PackSteps.{ranges_of}

-- a part's elements, their indices, and its memory for a room of its own
pub record Block (X Y : Type 0) : Type 0 where
  pub elements : List X
  pub index : List ℤ
  pub own : List Y

module _ {X Y : Type 0} where
  -- the elements of the whole
  abbrev pub elements_of : List (Block X Y) → List X
  elements_of blocks = joined (map (λ b. b.elements) blocks)

  -- its index
  abbrev pub index_of : List (Block X Y) → List ℤ
  index_of blocks = joined (map (λ b. b.index) blocks)

  -- each part has an index for each of its elements
  abbrev pub HaveIndices : List (Block X Y) → Type 0
  HaveIndices blocks = All (λ b. length b.elements ≡ length b.index) blocks

  -- the memory of each part is what all their memory has from one boundary up to the next
  abbrev pub HaveMemory : List ℕ → List Y → List (Block X Y) → Type 0
  HaveMemory boundaries memory blocks =
      All (λ b. b ≤ length memory) boundaries × (map (λ b. b.own) blocks ≡ ranges_of boundaries memory)

  -- a part leaves what it had, but for its memory
  abbrev pub OwnAlone : Block X Y → Block X Y → Type 0
  OwnAlone own left = left ≡ record own { own = left.own }

-- the place at which a share of the room begins, what it holds, and memory for sums of its places
pub record Share (Y : Type 0) : Type 0 where
  pub from : ℕ
  pub room : List Y
  pub sums : List ℤ

module _ {Y : Type 0} where
  -- the room of the whole
  abbrev pub room_of : List (Share Y) → List Y
  room_of shares = joined (map (λ s. s.room) shares)

  -- each share begins where the one before ends, and the first at a place
  abbrev pub BeginAt : ℕ → List (Share Y) → Type 0
  BeginAt from [] = Unit {0}
  BeginAt from (s ∷ shares) = (s.from ≡ from) × BeginAt (from + length s.room) shares

  -- the shares of a room are its ranges from one cut up to the next
  abbrev pub HaveRanges : List ℕ → List Y → List (Share Y) → Type 0
  HaveRanges cuts room shares = (map (λ s. s.from) shares ≡ starts_of cuts) × (map (λ s. s.room) shares ≡ ranges_of cuts room)

  -- a share stays what it was, but for what it holds
  abbrev pub RoomAlone : Share Y → Share Y → Type 0
  RoomAlone own left = left ≡ record own { room = left.room }

  -- but for its sums, which stay as many
  abbrev pub SumsAlone : Share Y → Share Y → Type 0
  SumsAlone own left = (left ≡ record own { sums = left.sums }) × (length left.sums ≡ length own.sums)
