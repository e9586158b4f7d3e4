-- Runs of equal neighbours of a list that comes in parts.
-- Source: reduce_by_key of Thrust over tiles: a tile has the runs that begin in it, and the last of them goes on in later tiles.
use Rattle.std.specs.Prelude.{List, [], ◌∷◌, ◌++◌}

-- runs of which the last has elements more
abbrev pub onto_last : {X : Type 0} → List (List X) → List X → List (List X)
onto_last [] more = []
onto_last (run ∷ []) more = (run ++ more) ∷ []
onto_last (run ∷ next ∷ runs) more = run ∷ onto_last (next ∷ runs) more
