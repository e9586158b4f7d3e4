-- What the segments of a distribute and of an index hold: a list each.
-- Source: CVL's segmented distribute and index.
use Rattle.std.specs.Prelude.{ℕ, ℤ, List, map, replicate}
use Rattle.std.specs.List.{zip}
use Rattle.pack_dist.specs.Progressions.{progression}

-- as many copies of each value as its segment is long
abbrev pub copies_of : {X : Type 0} → List X → List ℕ → List (List X)
copies_of values lengths = map (λ p. replicate p.1 p.0) (zip values lengths)

-- as many numbers, in steps of each stride from each first number on, as its segment is long
abbrev pub progressions_of : List ℤ → List ℤ → List ℕ → List (List ℤ)
progressions_of inits strides lengths = map (λ p. progression p.0.0 p.0.1 p.1) (zip (zip inits strides) lengths)
