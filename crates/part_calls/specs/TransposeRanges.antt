-- A transpose by ranges of its places: a range's owner takes its elements from the whole matrix.
-- Source: the transpose of the whole; the ranges are this library's.
use Rattle.std.specs.Prelude.{ℕ, List, length, Result}
use Rattle.cvl_base.specs.declared.fault.Fault.{Fault}
use Rattle.part_calls.specs.Limits.{range_within}
use Rattle.transposes.specs.Transposes.{transpose_range_of}

-- n places of the transpose from place `low` on, of a matrix and a range no longer than a vector may be
abbrev pub few_turned_of : {X : Type 0} → ℕ → ℕ → ℕ → ℕ → List X → Result (List X) Fault
few_turned_of rows columns low n xs = range_within (length xs) low n (transpose_range_of rows columns low n xs)
