-- Copies and numbers in a part whose segments are given as their lengths.
-- Source: CVL's segmented distribute and index, in this library's profile of calls for callers of another language.
use Rattle.std.specs.Prelude.{ℕ, ℤ, List, length, Result}
use Rattle.cvl_base.specs.declared.fault.Fault.{Fault}
use Rattle.c_calls.specs.Calls.{by_segments, in_limit}
use Rattle.segment_fills.specs.Fills.{part_distribute_of}
use Rattle.segment_fills.specs.Numbers.{part_index_of}

-- copies of the values of a part's segments, in a part as long as its room
abbrev pub part_distribute_by : {X : Type 0} → ℕ → List ℤ → List X → List X → Result (List X) Fault
part_distribute_by head lengths values room =
    in_limit room (by_segments lengths (λ segments. part_distribute_of head segments values (length room)))

-- the numbers of a part's segments, in a part as long as its room
abbrev pub part_index_by : ℕ → ℕ → List ℤ → List ℤ → List ℤ → List ℤ → Result (List ℤ) Fault
part_index_by done head lengths inits strides room =
    in_limit room (by_segments lengths (λ segments. part_index_of done head segments inits strides (length room)))
