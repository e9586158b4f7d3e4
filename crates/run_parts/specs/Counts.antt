-- How many runs of equal neighbours begin in a part of a segmented vector, which is cut at any places.
-- Source: reduce_by_key of Thrust over tiles: a tile has the runs that begin in it.
use Rattle.std.specs.Prelude.{ℕ, ◌+◌, nat_lt, not, Bool, ℤ, pos, List, drop, length, map, Result, Ok}
use Rattle.cvl_base.specs.declared.fault.Fault.{Fault}
use Rattle.cvl_base.specs.declared.fault.FaultNo.TheVariants as no
use Rattle.cvl_base.specs.Faults.{fault}
use Rattle.cvl_base.specs.Gives.{fault_if}
use Rattle.cvl_base.specs.Integers.{sum_of}
use Rattle.cvl_base.specs.Nests.{cut_of}
use Rattle.run_lengths.specs.Runs.{run_count_of}
use Rattle.run_parts.specs.Runs.{in_front_of, range_of, runs_behind}
use Rattle.segment_parts.specs.Reduces.{is_part, join_last}

module _ {X : Type 0} (differ : X → X → Bool) where
  -- how many runs begin in a part's head, which has `head` elements from a place on, or LengthMismatch if the vector has not so many
  abbrev pub run_fronts_of : ℕ → ℕ → List X → Result ℤ Fault
  run_fronts_of from head xs =
      fault_if (nat_lt (length xs) (from + head)) (fault no.LengthMismatch)
      (Ok (pos (length (runs_behind differ (in_front_of from xs) (range_of from head xs)))))

  -- how many runs each segment has that starts in a part, the last one with those that begin in it behind the part; or LengthMismatch if
  -- no part with this head and these lengths has so many elements
  abbrev pub part_run_counts_of : ℤ → ℕ → List ℕ → List X → Result (List ℤ) Fault
  part_run_counts_of behind head lengths xs =
      fault_if (not (is_part head lengths (length xs))) (fault no.LengthMismatch)
      (Ok (join_last sum_of (map (run_count_of differ) (cut_of lengths (drop head xs))) behind))
