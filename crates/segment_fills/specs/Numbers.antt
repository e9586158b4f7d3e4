-- The numbers of each segment, from a first one on in equal steps, in a part of a segmented vector that is cut at any place: the segment
-- that is open where the part begins goes on in it, and the last one that starts in it may go on behind it.
-- Source: CVL's index; the parts are this library's.
use Rattle.std.specs.Prelude.{ℕ, zero, suc, ◌+◌, ◌&&◌, ◌==◌, nat_lt, not, ℤ, List, ◌∷◌, drop, length, take, Result, Ok}
use Rattle.cvl_base.specs.declared.fault.Fault.{Fault}
use Rattle.cvl_base.specs.declared.fault.FaultNo.TheVariants as no
use Rattle.cvl_base.specs.Faults.{fault}
use Rattle.cvl_base.specs.Gives.{fault_if}
use Rattle.cvl_base.specs.Limits.{most_places}
use Rattle.cvl_base.specs.Lists.{joined}
use Rattle.pack_dist.specs.Lists.{progressions_of}
use Rattle.pack_dist.specs.Progressions.{numbers_from}
use Rattle.segment_fills.specs.Fills.{is_part_with}

-- n numbers of an index, behind its first `before`; or TooLong if these are together more than 2,147,483,647
abbrev pub numbers_after_of : ℕ → ℤ → ℤ → ℕ → Result (List ℤ) Fault
numbers_after_of before init stride n =
    fault_if (nat_lt most_places (before + n)) (fault no.TooLong) (Ok (numbers_from init stride before n))

-- the numbers of a part's segments, up to the part's end. If the part has a head, the open segment is as long as what it has up to there,
-- and its first `done` numbers stand before the part
abbrev pub numbers_in_part : ℕ → ℕ → List ℕ → List ℤ → List ℤ → ℕ → List ℤ
numbers_in_part done zero lengths inits strides n = take n (joined (progressions_of inits strides lengths))
numbers_in_part done (suc h) lengths inits strides n =
    take n (drop done (joined (progressions_of inits strides ((done + suc h) ∷ lengths))))

-- the numbers in a part of n elements; or TooLong if its open segment has more than 2,147,483,647 elements; or LengthMismatch if no part
-- with this head and these lengths has so many elements, or there are not one init and one stride for each of its segments
abbrev pub part_index_of : ℕ → ℕ → List ℕ → List ℤ → List ℤ → ℕ → Result (List ℤ) Fault
part_index_of done head lengths inits strides n =
    fault_if (nat_lt most_places (done + head)) (fault no.TooLong)
    (fault_if (not (is_part_with head lengths (length inits) n && (length strides == length inits))) (fault no.LengthMismatch)
    (Ok (numbers_in_part done head lengths inits strides n)))
