-- The steps of permutes in parts, each by what its export is proved to do.
-- Source: CVL's permutes; the ranges are this library's.
use Rattle.std.specs.Prelude.{◌≡◌, ℕ, ℤ, Bool, List, Result, Ok}
use Rattle.cvl_base.specs.declared.fault.Fault.{Fault}
use Rattle.permute_parts.specs.Marks.{mark_places_of, within_longest}
use Rattle.permute_parts.specs.Ranges.{as_flags_in, part_default_of, part_permute_of, part_select_of}
use Rattle.step_laws.specs.RangeParts.{RangePart, bounds_of}
use Rattle.c_calls.specs.Told.{RoomTold, Told, done}
use Rattle.c_calls.specs.declared.status.CvlStatus.{CvlStatus}

module _ {X : Type 0} where
  -- once: where the words of each part's marks begin, and at last where they end
  abbrev pub PlacesMarks : List (RangePart X) → List ℕ → List ℕ → Type 0
  PlacesMarks parts before places = RoomTold (within_longest (bounds_of parts) (Ok (mark_places_of (bounds_of parts)))) done before places

  -- a part writes, marks and counts its range by a call, whatever it answers
  abbrev pub Writes : (RangePart X → Result (List X × List ℕ × ℕ) Fault) → RangePart X → RangePart X → Type 0
  Writes call own left =
      ((status : CvlStatus) × Told (call own) status (own.room, own.marks, own.count) (left.room, left.marks, left.count))
      × (left ≡ record own { room = left.room; marks = left.marks; count = left.count })

  -- a part's call of a simple permute
  abbrev pub permute_in : List X → List ℤ → RangePart X → Result (List X × List ℕ × ℕ) Fault
  permute_in source index own = part_permute_of source index own.from own.room own.marks

  -- of a select permute
  abbrev pub select_in : List X → List ℤ → List Bool → RangePart X → Result (List X × List ℕ × ℕ) Fault
  select_in source index flags own = part_select_of source index flags own.from own.room own.marks

  -- of a default permute
  abbrev pub default_in : List X → List ℤ → RangePart X → Result (List X × List ℕ × ℕ) Fault
  default_in source index own = part_default_of source index own.from own.defaults own.room own.marks

-- the same of booleans, which come as bytes
abbrev pub flags_by : (RangePart ℕ → Result (List ℕ × List ℕ × ℕ) Fault) → RangePart ℕ → Result (List ℕ × List ℕ × ℕ) Fault
flags_by call own = as_flags_in (call own)
