-- What a crew makes of the tiles that were given to its workers.
-- Source: this library.
use Rattle.std.specs.Prelude.{◌≡◌, ℕ, ◌<◌, ◌==◌, List}
use Rattle.std.specs.List.{All, count_by, sum_by}
use Rattle.boards.specs.Passes.{times}

-- how often tile t was given to the seats
abbrev pub given_to : {Seat : Type 0} → (Seat → List ℕ) → List Seat → ℕ → ℕ
given_to given seats t = sum_by (λ seat. times t (given seat)) seats

-- each tile has as many pieces as it was given times, each piece is of a tile of the work, and it has the items of its tile
pub record ArePiecesOf {Item : Type 0} (count : ℕ) (items : ℕ → List Item) (given : ℕ → ℕ) (pieces : List (ℕ × List Item)) : Type 0 where
  pub one_each : (t : ℕ) → count_by (λ p. p.0 == t) pieces ≡ given t
  pub of_work : All (λ p. p.0 < count) pieces
  pub as_meant : All (λ p. p.1 ≡ items p.0) pieces
