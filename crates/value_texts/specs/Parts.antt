-- A whole that is cut into parts, one for each thread that writes.
use Rattle.std.specs.Prelude.{◌≡◌, ℕ, ◌+◌, ◌<◌, ◌≤◌, ℤ, List, [], ◌∷◌, Option, length, map, sum, take, unsigned_abs}
use Rattle.std.specs.List.{flat_map}
use Rattle.fresh.specs.Counted.{found_in}

-- the parts have the items of the whole, one part after another, and the first item without a value is that of the whole
pub record AreParts {P X : Type 0} (items : P → List X) (found : P → ℕ → Option ℕ) (parts : List P) (whole : P) : Type 0 where
  pub items_are : flat_map items parts ≡ items whole
  pub found_is : (first : ℕ) → found_in items found parts first ≡ found whole first

module _ {P : Type 0} (IsCut : P → ℕ → P → P → Type 0) where
  -- the first part is cut off the whole for one of as many threads as there are parts, the next off what is left, and so on
  abbrev pub AreCutInTurn : P → List P → Type 0
  AreCutInTurn whole [] = ⊥
  AreCutInTurn whole (last ∷ []) = last ≡ whole
  AreCutInTurn whole (front ∷ next ∷ parts) = (others : P) × IsCut whole (length parts + 2) front others
      × AreCutInTurn others (next ∷ parts)

-- the first n segments take at least this much to write, or are all, and one fewer take less: a segment takes its elements and one more
pub record AreFewest (lengths : List ℤ) (least n : ℕ) : Type 0 where
  pub enough : n < length lengths → least ≤ sum (map unsigned_abs (take n lengths)) + n
  pub fewer : (k : ℕ) → k + 1 ≡ n → sum (map unsigned_abs (take k lengths)) + k < least
