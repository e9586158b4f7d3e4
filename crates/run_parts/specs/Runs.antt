-- The runs of equal neighbours that begin in a part of a segmented vector, which is cut at any places: the last may go on behind the part.
-- Source: reduce_by_key of Thrust over tiles: a tile has the runs that begin in it, and the last of them goes on in later tiles.
use Rattle.std.specs.Prelude.{ℕ, zero, suc, ◌+◌, ◌-◌, ◌||◌, nat_lt, not, Bool, ℤ, pos, Option, None, Some, slice_get}
use Rattle.std.specs.Prelude.{List, ◌∷◌, ◌++◌, drop, length, map, take, Result, Ok, Err}
use Rattle.cvl_base.specs.declared.fault.Fault.{Fault}
use Rattle.cvl_base.specs.declared.fault.FaultNo.TheVariants as no
use Rattle.cvl_base.specs.Faults.{fault}
use Rattle.cvl_base.specs.Gives.{◌>>=◌, fault_if}
use Rattle.cvl_base.specs.Lists.{joined}
use Rattle.cvl_base.specs.Nests.{cut_of}
use Rattle.run_lengths.specs.Runs.{runs_in, runs_of}
use Rattle.segment_parts.specs.Reduces.{is_part}

-- the element in front of a place, if there is one
abbrev pub in_front_of : {X : Type 0} → ℕ → List X → Option X
in_front_of zero xs = None
in_front_of (suc place) xs = slice_get xs place

-- the n elements from a place on
abbrev pub range_of : {X : Type 0} → ℕ → ℕ → List X → List X
range_of from n xs = take n (drop from xs)

module _ {X : Type 0} (differ : X → X → Bool) where
  -- the runs that begin in a list: all, if no element is in front of it; else those of that element and the list, but for the first one,
  -- which begins with that element
  abbrev pub runs_behind : Option X → List X → List (List X)
  runs_behind None xs = runs_of differ xs
  runs_behind (Some x) xs = drop 1 (runs_of differ (x ∷ xs))

  -- the runs that begin in a part, each as far as the part goes: in its head, the elements that go on from a segment before the part; and
  -- in each segment that starts in the part
  abbrev pub runs_in_part : Option X → ℕ → List ℕ → List X → List (List X)
  runs_in_part front head lengths xs = runs_behind front (take head xs) ++ runs_in differ (cut_of lengths (drop head xs))

  -- those of the part of a vector that has n elements from a place on, or LengthMismatch if the vector has not so many, or no part with
  -- this head and these lengths has
  abbrev pub part_runs_of : ℕ → ℕ → ℕ → List ℕ → List X → Result (List (List X)) Fault
  part_runs_of from n head lengths xs =
      fault_if (nat_lt (length xs) (from + n) || not (is_part head lengths n)) (fault no.LengthMismatch)
      (Ok (runs_in_part (in_front_of from xs) head lengths (range_of from n xs)))

module _ {X : Type 0} where
  -- how long each run is
  abbrev pub lengths_of_runs : List (List X) → List ℤ
  lengths_of_runs runs = map (λ run. pos (length run)) runs

  -- the same of runs that may have a fault
  abbrev pub run_lengths_of : Result (List (List X)) Fault → Result (List ℤ) Fault
  run_lengths_of meaning = meaning >>= λ runs. Ok (lengths_of_runs runs)

  -- where the first of some runs begins that end at a place, or that place if there is none; or what was told before, if there is a fault
  abbrev pub begin_or : ℕ → ℕ → Result (List (List X)) Fault → ℕ
  begin_or before end (Ok runs) = end - length (joined runs)
  begin_or before end (Err f) = before
