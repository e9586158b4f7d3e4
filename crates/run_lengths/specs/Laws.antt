-- What it means to be the runs of a list.
-- Source: groupBy of Haskell's Data.List, for a test of neighbours.
use Rattle.std.specs.Prelude.{◌≡◌, ◌&&◌, Bool, true, false, not, List, [], ◌∷◌}
use Rattle.std.specs.List.{list_all}
use Rattle.cvl_base.specs.Lists.{joined}

-- whether there is an element, and no two neighbours differ
abbrev pub is_run : {X : Type 0} → (X → X → Bool) → List X → Bool
is_run differ [] = false
is_run differ (x ∷ []) = true
is_run differ (x ∷ y ∷ ys) = not (differ x y) && is_run differ (y ∷ ys)

-- whether the last element of one list differs from the first one of another
abbrev pub do_part : {X : Type 0} → (X → X → Bool) → List X → List X → Bool
do_part differ [] ys = false
do_part differ (x ∷ []) [] = false
do_part differ (x ∷ []) (y ∷ ys) = differ x y
do_part differ (x ∷ z ∷ xs) ys = do_part differ (z ∷ xs) ys

-- whether each list parts from the next one
abbrev pub are_apart : {X : Type 0} → (X → X → Bool) → List (List X) → Bool
are_apart differ [] = true
are_apart differ (run ∷ []) = true
are_apart differ (run ∷ next ∷ runs) = do_part differ run next && are_apart differ (next ∷ runs)

-- one after another they are the list, each is a run, and none could be longer
pub record AreRuns {X : Type 0} (differ : X → X → Bool) (xs : List X) (runs : List (List X)) : Type 0 where
  pub whole : joined runs ≡ xs
  pub each : list_all (is_run differ) runs ≡ true
  pub longest : are_apart differ runs ≡ true
