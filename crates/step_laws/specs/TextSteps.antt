-- The steps of texts that are written and read in parts, each by what its export is proved to do.
-- Source: this library's text and input formats; the parts are this library's.
use Rattle.std.specs.Prelude.{◌≡◌, ◌≢◌, ◌+◌, ◌<◌, ◌≤◌, ℕ, ℤ, pos, Bool, List, length, map, Result, Ok}
use Rattle.std.specs.List.{AllPass, AllZip}
use Rattle.std.specs.Fmt.{signed_decimal}
use Rattle.cvl_base.specs.declared.fault.Fault.{Fault}
use Rattle.cvl_base.specs.ItemWords.{is_number}
use Rattle.cvl_base.specs.Limits.{most_places}
use Rattle.cvl_base.specs.Lists.{joined}
use Rattle.part_records.specs.Places.{Layout, fitted, layout_or}
use Rattle.part_records.specs.Totals.{total_within}
use Rattle.step_laws.specs.PackSteps.{SameBehind}
use Rattle.step_laws.specs.Steps.{InParts}
use Rattle.step_laws.specs.TextParts.{AreCutAtWhite, FillsAlone, HavePlaces, HaveRanges, MakesAlone, PlacedAlone, TextPart}
use Rattle.step_laws.specs.TextParts.{counts_of, items_of}
use Rattle.text_parts.specs.Pieces.{first_of, put_text_of}
use Rattle.value_texts.specs.Texts.{boolean_text, vector_text}
use Rattle.c_calls.specs.Calls.{by_segments, in_limit}
use Rattle.c_calls.specs.NestedTexts.{segments_text}
use Rattle.c_calls.specs.Told.{FrontTold, FrontToldOr, Told, done, front_of}
use Rattle.c_calls.specs.declared.status.CvlStatus.{CvlStatus}

-- the text of integers, and of booleans, as a call writes it
abbrev pub integers_text : List ℤ → Result (List ℕ) Fault
integers_text xs = in_limit xs (Ok (vector_text signed_decimal xs))

-- and of booleans
abbrev pub booleans_text : List Bool → Result (List ℕ) Fault
booleans_text bs = in_limit bs (Ok (vector_text boolean_text bs))

-- the text of a vector with these segments: the call has the vector, and the lengths of its segments
abbrev pub nested_text : {X : Type 0} → (X → List ℕ) → List (List X) → Result (List ℕ) Fault
nested_text text_of segments = by_segments (map (λ xs. pos (length xs)) segments) (segments_text text_of (joined segments))

module _ {X Y : Type 0} where
  -- a part makes by a call, in its range of the memory, and has no fault
  abbrev pub Makes : (List X → Result (List Y) Fault) → TextPart X Y → TextPart X Y → Type 0
  Makes call own left =
      FrontToldOr (call own.items) done (front_of own.own own.count) (front_of left.own left.count) × MakesAlone own left

  -- once: by what the parts made, where each one's piece goes, and how long all of it is; the answer says whether a room of this length
  -- has it
  abbrev pub LaysOut : (ℕ → List ℕ → Result Layout Fault) → List (TextPart X Y) → ℕ → CvlStatus → Layout → Layout → Type 0
  LaysOut layout_by parts room status before now =
      Told (fitted room (layout_by (length before.places) (counts_of parts))) status tt tt
      × (now ≡ layout_or before (layout_by (length before.places) (counts_of parts)))

  -- a part puts what it made into its range of the room, whatever it answers
  abbrev pub Puts : (TextPart X Y → Result (List Y) Fault) → TextPart X Y → TextPart X Y → Type 0
  Puts piece own left = ((status : CvlStatus) × Told (piece own) status own.room left.room) × FillsAlone own left

-- a part's piece of the text of all
abbrev pub text_piece : {X : Type 0} → TextPart X ℕ → Result (List ℕ) Fault
text_piece own = put_text_of own.place own.count own.own (length own.room)

-- a part's integers
abbrev pub integers_piece : TextPart ℕ ℤ → Result (List ℤ) Fault
integers_piece own = first_of (length own.room) own.own

-- ---- what a call leaves by steps

module _ {X Y : Type 0} (call : List X → Result (List Y) Fault) (layout_by : ℕ → List ℕ → Result Layout Fault)
    (piece : TextPart X Y → Result (List Y) Fault) (Known : List (TextPart X Y) → List (TextPart X Y) → Type 0) where
  -- Each part makes its own; once, it is said where all of it goes; if the room has places for it, each part puts its own into its range of
  -- the room. Then the front of the room is what the call gives for the whole, and what is told is the call's. `Known` says what is known
  -- of the parts before and after the first step.
  abbrev pub IsMadeBySteps : Type 0
  IsMadeBySteps =
      (start made placed end : List (TextPart X Y)) (before now : Layout) (room after : List Y)
      → 0 < length start → length before.places ≡ length start + 1
      → InParts (Makes call) start made → Known start made → LaysOut layout_by made (length room) done before now
      → AllZip PlacedAlone made placed → HavePlaces now.places placed → HaveRanges now.places room placed
      → InParts (Puts piece) placed end → HaveRanges now.places after end → SameBehind now room after
      → FrontTold (call (items_of start)) done (front_of room before.total) (front_of after now.total)

  -- If the room is too short, so are the answer and what is told, and the room is as before.
  abbrev pub IsTooShortBySteps : Type 0
  IsTooShortBySteps =
      (start made : List (TextPart X Y)) (status : CvlStatus) (before now : Layout) (room : List Y)
      → 0 < length start → length before.places ≡ length start + 1
      → InParts (Makes call) start made → Known start made → LaysOut layout_by made (length room) status before now → status ≢ done
      → FrontTold (call (items_of start)) status (front_of room before.total) (front_of room now.total)

-- ---- what is known of the parts

-- the elements of all are those of a vector of integers, and of booleans
abbrev pub OfIntegers : List (TextPart ℤ ℕ) → List (TextPart ℤ ℕ) → Type 0
OfIntegers start made = AllPass is_number (items_of start) × (length (items_of start) ≤ most_places)

-- the same of booleans
abbrev pub OfBooleans : List (TextPart Bool ℕ) → List (TextPart Bool ℕ) → Type 0
OfBooleans start made = length (items_of start) ≤ most_places

-- the segments of all are those of a vector
abbrev pub AreSegments : {X : Type 0} → List (List X) → Type 0
AreSegments segments = (length segments ≤ most_places) × (length (joined segments) ≤ most_places)

-- segments of integers, each whole in a part
abbrev pub OfIntegerSegments : List (TextPart (List ℤ) ℕ) → List (TextPart (List ℤ) ℕ) → Type 0
OfIntegerSegments start made = AllPass is_number (joined (items_of start)) × AreSegments (items_of start)

-- and of booleans
abbrev pub OfBooleanSegments : List (TextPart (List Bool) ℕ) → List (TextPart (List Bool) ℕ) → Type 0
OfBooleanSegments start made = AreSegments (items_of start)

-- the parts of a text are cut at white space, and the numbers of their integers were added up, once: a vector may have so many
abbrev pub OfText : List (TextPart ℕ ℤ) → List (TextPart ℕ ℤ) → Type 0
OfText start made =
    AreCutAtWhite (map (λ p. p.items) start) × (before : ℕ) × (now : ℕ) × Told (total_within (counts_of made)) done before now
