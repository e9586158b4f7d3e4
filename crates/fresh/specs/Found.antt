-- The first of some items that has no value.
use Rattle.std.specs.Prelude.{ℕ, ◌+◌, List, [], ◌∷◌, Option, Some, None}

module _ {X : Type 0} where
  -- its place; the first item of all has the place given
  abbrev pub first_without : ℕ → List (Option X) → Option ℕ
  first_without place [] = None
  first_without place (None ∷ vs) = Some place
  first_without place (Some x ∷ vs) = first_without (place + 1) vs
