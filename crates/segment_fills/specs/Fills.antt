-- Copies of each segment's value in a part of a segmented vector that is cut at any place: the segment that is open where the part begins
-- goes on in it, and the last one that starts in it may go on behind it.
-- Source: Blelloch, Vector Models for Data-Parallel Computing, 1990, distribute; the parts are this library's.
use Rattle.std.specs.Prelude.{ℕ, zero, suc, ◌&&◌, ◌==◌, not, Bool, List, ◌∷◌, length, take, Result, Ok}
use Rattle.cvl_base.specs.declared.fault.Fault.{Fault}
use Rattle.cvl_base.specs.declared.fault.FaultNo.TheVariants as no
use Rattle.cvl_base.specs.Faults.{fault}
use Rattle.cvl_base.specs.Gives.{fault_if}
use Rattle.cvl_base.specs.Lists.{joined}
use Rattle.pack_dist.specs.Lists.{copies_of}
use Rattle.segment_parts.specs.Reduces.{is_part}

-- the lengths of a part's segments: what it has of the open one, its head, if it has some of it; and those of the segments that start in it
abbrev pub with_head : ℕ → List ℕ → List ℕ
with_head zero lengths = lengths
with_head (suc n) lengths = suc n ∷ lengths

-- the values of a part's segments, each as often as the segment is long, up to the part's end
abbrev pub copies_in_part : {X : Type 0} → ℕ → List ℕ → List X → ℕ → List X
copies_in_part head lengths values n = take n (joined (copies_of values (with_head head lengths)))

-- whether a part with this head and these lengths may have so many elements, and each of its segments has one of so many values
abbrev pub is_part_with : ℕ → List ℕ → ℕ → ℕ → Bool
is_part_with head lengths values n = is_part head lengths n && (values == length (with_head head lengths))

-- the copies in a part of n elements, or LengthMismatch if no part with this head and these lengths has so many, or there is not one value
-- for each of its segments
abbrev pub part_distribute_of : {X : Type 0} → ℕ → List ℕ → List X → ℕ → Result (List X) Fault
part_distribute_of head lengths values n =
    fault_if (not (is_part_with head lengths (length values) n)) (fault no.LengthMismatch) (Ok (copies_in_part head lengths values n))
