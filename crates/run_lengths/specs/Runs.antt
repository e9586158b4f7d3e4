-- Runs of neighbours that do not differ: each is as long as possible.
-- Source: Data.List.group of Haskell's base, by a test; reduce_by_key and unique_by_key of Thrust; the faults are this library's profile.
use Rattle.std.specs.Prelude.{ℕ, ◌+◌, ℤ, pos, Bool, if◌then◌else◌, List, [], ◌∷◌, length, map, Result, Ok}
use Rattle.cvl_base.specs.declared.fault.Fault.{Fault}
use Rattle.cvl_base.specs.Gives.{◌>>=◌}
use Rattle.cvl_base.specs.Lists.{joined}
use Rattle.cvl_base.specs.Nests.{nest}

-- an element in front of the first of some lists
abbrev pub onto_first : {X : Type 0} → X → List (List X) → List (List X)
onto_first x [] = []
onto_first x (run ∷ runs) = (x ∷ run) ∷ runs

-- the runs of x and the elements behind it: x is a run of its own, or belongs to the run of the next element
abbrev pub runs_from : {X : Type 0} → (X → X → Bool) → X → List X → List (List X)
runs_from differ x [] = (x ∷ []) ∷ []
runs_from differ x (y ∷ ys) = if differ x y then (x ∷ []) ∷ runs_from differ y ys else onto_first x (runs_from differ y ys)

-- the runs of a list, in order
abbrev pub runs_of : {X : Type 0} → (X → X → Bool) → List X → List (List X)
runs_of differ [] = []
runs_of differ (x ∷ xs) = runs_from differ x xs

-- a number for each run, by the place where it begins and by its length; the first run begins at the place given
abbrev pub numbers_from : {X : Type 0} → (ℕ → ℕ → ℤ) → ℕ → List (List X) → List ℤ
numbers_from number place [] = []
numbers_from number place (run ∷ runs) = number place (length run) ∷ numbers_from number (place + length run) runs

-- the length of a run
abbrev pub its_length : ℕ → ℕ → ℤ
its_length first n = pos n

-- the place where it begins
abbrev pub its_start : ℕ → ℕ → ℤ
its_start first n = pos first

-- a number for each run of a whole list
abbrev pub run_numbers_of : {X : Type 0} → (ℕ → ℕ → ℤ) → (X → X → Bool) → List X → List ℤ
run_numbers_of number differ xs = numbers_from number 0 (runs_of differ xs)

-- the runs of each segment, one segment after another: no run goes on behind the end of a segment
abbrev pub runs_in : {X : Type 0} → (X → X → Bool) → List (List X) → List (List X)
runs_in differ segments = joined (map (runs_of differ) segments)

-- a number for each run of each segment; places are those of the whole list
abbrev pub seg_run_numbers_of : {X : Type 0} → (ℕ → ℕ → ℤ) → (X → X → Bool) → List X → List ℕ → Result (List ℤ) Fault
seg_run_numbers_of number differ xs lengths = nest lengths xs >>= λ segments. Ok (numbers_from number 0 (runs_in differ segments))

-- how many runs a segment has
abbrev pub run_count_of : {X : Type 0} → (X → X → Bool) → List X → ℤ
run_count_of differ segment = pos (length (runs_of differ segment))
