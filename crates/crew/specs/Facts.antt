-- What a work has each worker do for the others, tile by tile.
-- Source: this library.
use Rattle.std.specs.Prelude.{ℕ, ◌≤◌, List}
use Rattle.boards.specs.Passes.{times}

-- the seat has the fact of each tile that was given to it
abbrev pub HasFacts : {Seat : Type 0} → (Seat → ℕ → Type 0) → (Seat → List ℕ) → Seat → Type 0
HasFacts HasFact given seat = (t : ℕ) → 1 ≤ times t (given seat) → HasFact seat t
