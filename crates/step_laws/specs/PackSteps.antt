-- The steps of packs in parts, each by what its export is proved to do. An element is a value beside its flag.
-- Source: Blelloch, Prefix Sums and Their Applications, 1990: a pack puts elements where the scan of the counts says.
use Rattle.std.specs.Prelude.{◌≡◌, ℕ, ◌-◌, ℤ, pos, Bool, List, [], ◌∷◌, drop, length, map, take, Ok}
use Rattle.cvl_base.specs.Packs.{count_of, pack_of}
use Rattle.flag_calls.specs.Flags.{flags_of}
use Rattle.part_records.specs.Places.{Layout, fitted, layout_by, layout_or}
use Rattle.step_laws.specs.Parts.{FillsAlone, Part, TellsAlone, told_of}
use Rattle.c_calls.specs.Calls.{in_limit}
use Rattle.c_calls.specs.Told.{FrontTold, Told, done, front_of}
use Rattle.c_calls.specs.declared.status.CvlStatus.{CvlStatus}

module _ {X : Type 0} where
  -- the values of elements
  abbrev pub values_in : List (X × Bool) → List X
  values_in elements = map (λ e. e.0) elements

  -- and their flags
  abbrev pub flags_in : List (X × Bool) → List Bool
  flags_in elements = map (λ e. e.1) elements

  -- a part counts its true flags, which come as bytes
  abbrev pub CountsKept : Part (X × Bool) ℤ X → Part (X × Bool) ℤ X → Type 0
  CountsKept own left =
      ((bytes : List ℕ) × (flags_of bytes ≡ flags_in own.elements)
      × Told (in_limit bytes (Ok (pos (count_of (flags_of bytes))))) done own.told left.told)
      × TellsAlone own left

  -- once: where the elements of each part go, and how many all parts keep; the answer says whether a room of this length has them
  abbrev pub LaysOut : List (Part (X × Bool) ℤ X) → ℕ → CvlStatus → Layout → Layout → Type 0
  LaysOut parts room status before now =
      Told (fitted room (layout_by (length before.places) (told_of parts))) status tt tt
      × (now ≡ layout_or before (layout_by (length before.places) (told_of parts)))

  -- what a room has from a place up to the next one, and from each of these on
  abbrev pub ranges_on : ℕ → List ℕ → List X → List (List X)
  ranges_on from [] room = []
  ranges_on from (to ∷ places) room = take (to - from) (drop from room) ∷ ranges_on to places room

  -- from each place up to the next one
  abbrev pub ranges_of : List ℕ → List X → List (List X)
  ranges_of [] room = []
  ranges_of (from ∷ places) room = ranges_on from places room

  -- each part has its range of the room, from its place up to that of the next part
  abbrev pub HaveRanges : List ℕ → List X → List (Part (X × Bool) ℤ X) → Type 0
  HaveRanges places room parts = map (λ p. p.room) parts ≡ ranges_of places room

  -- behind all ranges the room is as before
  abbrev pub SameBehind : Layout → List X → List X → Type 0
  SameBehind layout room after = drop layout.total after ≡ drop layout.total room

  -- a part packs its elements into its range, whatever it answers and counts
  abbrev pub Packs : Part (X × Bool) ℤ X → Part (X × Bool) ℤ X → Type 0
  Packs own left =
      ((status : CvlStatus) × (before : ℕ) × (now : ℕ)
      × FrontTold (in_limit (flags_in own.elements) (pack_of (values_in own.elements) (flags_in own.elements))) status
      (front_of own.room before) (front_of left.room now))
      × FillsAlone own left
