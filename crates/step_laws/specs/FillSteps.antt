-- The steps of a distribute and of an index by segments in parts, each by what its export is proved to do.
-- Source: Blelloch, Vector Models for Data-Parallel Computing, 1990, distribute; CVL's index; the parts are this library's.
use Rattle.std.specs.Prelude.{ℤ, pos, List, map}
use Rattle.segment_fills.specs.Calls.{part_distribute_by, part_index_by}
use Rattle.step_laws.specs.FillParts.{FillPart, FillsAlone}
use Rattle.c_calls.specs.Told.{Told}
use Rattle.c_calls.specs.declared.status.CvlStatus.{CvlStatus}

-- a part writes the values of its segments, each as often as it has elements of the segment, whatever it answers
abbrev pub Copies : {X : Type 0} → FillPart X X → FillPart X X → Type 0
Copies own left =
    ((status : CvlStatus) × Told (part_distribute_by own.head (map pos own.lengths) own.values own.room) status own.room left.room)
    × FillsAlone own left

-- the inits of steps, each an init beside a stride
abbrev pub inits_in : List (ℤ × ℤ) → List ℤ
inits_in steps = map (λ s. s.0) steps

-- and their strides
abbrev pub strides_in : List (ℤ × ℤ) → List ℤ
strides_in steps = map (λ s. s.1) steps

-- a part writes the numbers of its segments, whatever it answers
abbrev pub Numbers : FillPart (ℤ × ℤ) ℤ → FillPart (ℤ × ℤ) ℤ → Type 0
Numbers own left =
    ((status : CvlStatus)
    × Told (part_index_by own.done own.head (map pos own.lengths) (inits_in own.values) (strides_in own.values) own.room) status own.room
    left.room)
    × FillsAlone own left
