-- A list in parts, each of which is counted before it is written.
use Rattle.std.specs.Prelude.{ℕ, ◌+◌, List, [], ◌∷◌, length, map, Option, None}
use Rattle.std.specs.Option.{option_or}

module _ {P X : Type 0} (items : P → List X) where
  -- how many items each part has
  abbrev pub item_counts : List P → List ℕ
  item_counts parts = map (λ part. length (items part)) parts

  -- the first place whose item has no value; a part gives its first one, and the first item of all has the place given
  abbrev pub found_in : (P → ℕ → Option ℕ) → List P → ℕ → Option ℕ
  found_in found [] first = None
  found_in found (part ∷ parts) first = option_or (found part first) (found_in found parts (first + length (items part)))
