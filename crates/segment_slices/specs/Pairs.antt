-- The segments of one vector, each followed by the segment of another with the same number.
-- Source: the concatenation of lists, on each segment as CVL's segmented calls.
use Rattle.std.specs.Prelude.{ℕ, List, ◌++◌, map, Result, Ok}
use Rattle.std.specs.List.{zip}
use Rattle.cvl_base.specs.declared.fault.Fault.{Fault}
use Rattle.cvl_base.specs.Gives.{◌>>=◌}
use Rattle.cvl_base.specs.Lists.{joined}
use Rattle.cvl_base.specs.Nests.{cut_of, nest}
use Rattle.cvl_base.specs.Segmented.{beside, of_two}

-- the pairs of segments, in order
abbrev pub pairs_of : {X : Type 0} → List X → List ℕ → List X → List ℕ → List X
pairs_of xs lengths ys other_lengths = joined (map (of_two ◌++◌) (zip (cut_of lengths xs) (cut_of other_lengths ys)))

-- the same, or the fault if lengths do not add up to their vector, or both do not have as many segments
abbrev pub append_segments_of : {X : Type 0} → List X → List ℕ → List X → List ℕ → Result (List X) Fault
append_segments_of xs lengths ys other_lengths =
    beside (nest lengths xs) (nest other_lengths ys) >>= λ segments. Ok (joined (map (of_two ◌++◌) segments))
