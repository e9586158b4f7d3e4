-- The steps of first senders and of transposes in parts, each by what its export is proved to do.
-- Source: the least sender of each place, and the transpose of a matrix; the ranges are this library's.
use Rattle.std.specs.Prelude.{◌≡◌, ℕ, ℤ, Bool, List, length, Result}
use Rattle.cvl_base.specs.declared.fault.Fault.{Fault}
use Rattle.part_calls.specs.SenderRanges.{select_senders_range_of, senders_range_of}
use Rattle.part_calls.specs.TransposeRanges.{few_turned_of}
use Rattle.step_laws.specs.RangeParts.{RangePart}
use Rattle.c_calls.specs.Told.{Told}
use Rattle.c_calls.specs.declared.status.CvlStatus.{CvlStatus}

-- a part writes the first senders of its range and counts the indices that name a place of it, whatever it answers
abbrev pub FindsSenders : (RangePart ℤ → Result (List ℤ × ℕ) Fault) → RangePart ℤ → RangePart ℤ → Type 0
FindsSenders call own left =
    ((status : CvlStatus) × Told (call own) status (own.room, own.count) (left.room, left.count))
    × (left ≡ record own { room = left.room; count = left.count })

-- a part's call of first senders
abbrev pub senders_in : List ℤ → RangePart ℤ → Result (List ℤ × ℕ) Fault
senders_in index own = senders_range_of index own.from (length own.room)

-- the same among the places with a true flag
abbrev pub select_senders_in : List ℤ → List Bool → RangePart ℤ → Result (List ℤ × ℕ) Fault
select_senders_in index flags own = select_senders_range_of index flags own.from (length own.room)

-- a part writes its range of a transpose, whatever it answers
abbrev pub Turns : {X : Type 0} → ℕ → ℕ → List X → RangePart X → RangePart X → Type 0
Turns rows columns source own left =
    ((status : CvlStatus) × Told (few_turned_of rows columns own.from (length own.room) source) status own.room left.room)
    × (left ≡ record own { room = left.room })
