-- What the runs of a list are.
use Rattle.std.proofs.Common.{◌≡◌, ◌∙◌, ◌&&◌, Bool, true, false, not, List, [], ◌∷◌, refl, ap}
use Rattle.std.specs.List.{list_all}
use Rattle.std.proofs.lemmas.Bool.{and_from, and_parts}
use Rattle.run_lengths.specs.Laws.{AreRuns, are_apart, is_run}
use Rattle.run_lengths.specs.Runs.{onto_first, runs_from, runs_of}
use Rattle.run_lengths.proofs.Counted.{begun, joined_runs}

module _ {X : Type 0} (differ : X → X → Bool) where
  -- runs that begin with x
  record BeginWith (x : X) (runs : List (List X)) : Type 0 where
    others : List X
    rest : List (List X)
    are : runs ≡ (x ∷ others) ∷ rest
    each : list_all (is_run differ) ((x ∷ others) ∷ rest) ≡ true
    longest : are_apart differ ((x ∷ others) ∷ rest) ≡ true

  -- a longer run parts from the next one where it did
  still_apart : (x y : X) (ys : List X) (rest : List (List X)) → are_apart differ ((y ∷ ys) ∷ rest) ≡ true → are_apart differ ((x ∷ y ∷ ys) ∷ rest) ≡ true
  still_apart x y ys [] is = refl
  still_apart x y ys (next ∷ rest) is = is

  more_by : (b : Bool) (x y : X) (runs : List (List X)) → differ x y ≡ b → BeginWith y runs → BeginWith x (begun b x runs)
  more_by true x y runs is of = record {
    others = [];
    rest = (y ∷ of.others) ∷ of.rest;
    are = ap (λ rs. (x ∷ []) ∷ rs) of.are;
    each = of.each;
    longest = and_from (differ x y) (are_apart differ ((y ∷ of.others) ∷ of.rest)) is of.longest;
  }
  more_by false x y runs is of = record {
    others = y ∷ of.others;
    rest = of.rest;
    are = ap (onto_first x) of.are;
    each = and_from (not (differ x y) && is_run differ (y ∷ of.others)) (list_all (is_run differ) of.rest)
        (and_from (not (differ x y)) (is_run differ (y ∷ of.others)) (ap not is) (and_parts (is_run differ (y ∷ of.others)) (list_all (is_run differ) of.rest) of.each).0)
        (and_parts (is_run differ (y ∷ of.others)) (list_all (is_run differ) of.rest) of.each).1;
    longest = still_apart x y of.others of.rest of.longest;
  }

  begin_with : (x : X) (xs : List X) → BeginWith x (runs_from differ x xs)
  begin_with x [] = record { others = []; rest = []; are = refl; each = refl; longest = refl }
  begin_with x (y ∷ ys) = more_by (differ x y) x y (runs_from differ y ys) refl (begin_with y ys)

  pub are_runs : (xs : List X) → AreRuns differ xs (runs_of differ xs)
  are_runs [] = record { whole = refl; each = refl; longest = refl }
  are_runs (x ∷ xs) =
      let of = begin_with x xs in
      record {
        whole = joined_runs differ (x ∷ xs);
        each = ap (list_all (is_run differ)) of.are ∙ of.each;
        longest = ap (are_apart differ) of.are ∙ of.longest;
      }
