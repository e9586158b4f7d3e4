-- The steps of a merge by flags in parts, each by what its export is proved to do.
-- Source: Blelloch, Vector Models for Data-Parallel Computing, 1990, flag-merge; the parts are this library's.
use Rattle.std.specs.Prelude.{◌≡◌, ℕ, ℤ, pos, Bool, List, length, map, Ok}
use Rattle.std.specs.List.{All}
use Rattle.cvl_base.specs.Lists.{joined}
use Rattle.cvl_base.specs.Packs.{count_of}
use Rattle.flag_calls.specs.Flags.{flags_of}
use Rattle.flag_merges.specs.Merges.{merge_of}
use Rattle.part_cuts.specs.Pairs.{remaining_places_of}
use Rattle.part_cuts.specs.Places.{exact_count_places_of, places_of}
use Rattle.step_laws.specs.PackSteps.{ranges_of}
use Rattle.c_calls.specs.Calls.{in_limit}
use Rattle.c_calls.specs.Told.{RoomTold, Told, done}
use Rattle.c_calls.specs.declared.status.CvlStatus.{CvlStatus}

-- a part's flags, what a step tells of them, what the part has of the vector for the true flags and of that for the false ones, and its
-- range of the room
pub record MergePart (X : Type 0) : Type 0 where
  pub flags : List Bool
  pub told : ℤ
  pub trues : List X
  pub falses : List X
  pub room : List X

module _ {X : Type 0} where
  -- the flags of the whole
  abbrev pub flags_in : List (MergePart X) → List Bool
  flags_in parts = joined (map (λ p. p.flags) parts)

  -- its room
  abbrev pub room_of : List (MergePart X) → List X
  room_of parts = joined (map (λ p. p.room) parts)

  -- what is told of each part
  abbrev pub told_of : List (MergePart X) → List ℤ
  told_of parts = map (λ p. p.told) parts

  -- each part's room has a place for each of its flags
  abbrev pub HaveRooms : List (MergePart X) → Type 0
  HaveRooms parts = All (λ p. length p.room ≡ length p.flags) parts

  -- a part counts its true flags, which come as bytes
  abbrev pub CountsTrue : MergePart X → MergePart X → Type 0
  CountsTrue own left =
      ((bytes : List ℕ) × (flags_of bytes ≡ own.flags)
      × Told (in_limit bytes (Ok (pos (count_of (flags_of bytes))))) done own.told left.told)
      × (left ≡ record own { told = left.told })

  -- once: where each part begins in the vector for the true flags, which has so many elements
  abbrev pub CutsTrues : List (MergePart X) → ℕ → CvlStatus → List ℕ → List ℕ → Type 0
  CutsTrues parts len status before now = RoomTold (exact_count_places_of (told_of parts) len) status before now

  -- once: where each part begins in the other vector, by where it begins in the flags and in the first vector
  abbrev pub CutsFalses : List (MergePart X) → List ℕ → ℕ → CvlStatus → List ℕ → List ℕ → Type 0
  CutsFalses parts taken len status before now =
      RoomTold (remaining_places_of (places_of (map (λ p. length p.flags) parts)) taken len) status before now

  -- a part gets what it has of both vectors
  abbrev pub GetsAlone : MergePart X → MergePart X → Type 0
  GetsAlone own left = left ≡ record own { trues = left.trues; falses = left.falses }

  -- each part has its range of both vectors, from its place up to that of the next part
  abbrev pub HaveRanges : List ℕ → List X → List ℕ → List X → List (MergePart X) → Type 0
  HaveRanges places xs rest ys parts = (map (λ p. p.trues) parts ≡ ranges_of places xs) × (map (λ p. p.falses) parts ≡ ranges_of rest ys)

  -- a part merges what it has of both vectors by its flags, whatever it answers
  abbrev pub Merges : MergePart X → MergePart X → Type 0
  Merges own left =
      ((status : CvlStatus) × RoomTold (in_limit own.flags (merge_of own.flags own.trues own.falses)) status own.room left.room)
      × (left ≡ record own { room = left.room })
