-- Lists of lists.
-- Source: the concatenation of lists.
use Rattle.std.specs.Prelude.{List}
use Rattle.std.specs.List.{flat_map}

-- the lists one after another
abbrev pub joined : {X : Type 0} → List (List X) → List X
joined lists = flat_map (λ xs. xs) lists
