-- Runs in parts whose segments are given as their lengths, of a vector with at most 2,147,483,647 elements.
-- Source: this library's profile of calls for callers of another language.
use Rattle.std.specs.Prelude.{ℕ, Bool, ℤ, List, Result}
use Rattle.c_calls.specs.Calls.{by_segments, in_limit}
use Rattle.cvl_base.specs.declared.fault.Fault.{Fault}
use Rattle.run_parts.specs.Counts.{part_run_counts_of, run_fronts_of}
use Rattle.run_parts.specs.Runs.{part_runs_of}

module _ {X : Type 0} (differ : X → X → Bool) where
  -- the runs that begin in the part of a vector that has n elements from a place on
  abbrev pub part_runs_by : ℕ → ℕ → ℕ → List ℤ → List X → Result (List (List X)) Fault
  part_runs_by from n head lengths xs =
      in_limit xs (by_segments lengths (λ segments. part_runs_of differ from n head segments xs))

  -- how many runs begin in a part's head
  abbrev pub run_fronts_by : ℕ → ℕ → List X → Result ℤ Fault
  run_fronts_by from head xs = in_limit xs (run_fronts_of differ from head xs)

  -- how many runs each segment has that starts in a part
  abbrev pub part_run_counts_by : ℤ → ℕ → List ℤ → List X → Result (List ℤ) Fault
  part_run_counts_by behind head lengths xs =
      in_limit xs (by_segments lengths (λ segments. part_run_counts_of differ behind head segments xs))
