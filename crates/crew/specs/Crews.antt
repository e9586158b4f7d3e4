-- The seats that a crew is handed, and what it gives when all its workers have ended.
-- Source: this library.
use Rattle.std.specs.Prelude.{◌≡◌, ℕ, ◌≤◌, Bool, IsTrue, List, [], length}
use Rattle.std.specs.List.{All}
use Rattle.crew.specs.Facts.{HasFacts}
use Rattle.crew.specs.Pieces.{ArePiecesOf, given_to}

-- at least one seat of one board, none of which was given a tile
pub record AreNewSeats {Seat : Type 0} (IsSeat : Seat → Type 0) (given : Seat → List ℕ) (seats : List Seat) : Type 0 where
  pub some : 1 ≤ length seats
  pub of_board : All IsSeat seats
  pub fresh : All (λ seat. given seat ≡ []) seats

-- as many seats of that board as there were workers, each of which has the answer that no tile is left, and the facts of the tiles given to
-- it, and the pieces of these tiles if they are kept
pub record IsCrewed {Seat Item : Type 0} (count : ℕ) (items : ℕ → List Item)
    (IsSeat : Seat → Type 0) (HasFact : Seat → ℕ → Type 0) (given : Seat → List ℕ) (is_done : Seat → Bool)
    (workers : ℕ) (with_pieces : Bool) (seats : List Seat) (pieces : List (ℕ × List Item)) : Type 0 where
  pub as_many : length seats ≡ workers
  pub of_board : All IsSeat seats
  pub done : All (λ seat. IsTrue (is_done seat)) seats
  pub facts : All (HasFacts HasFact given) seats
  pub of_tiles : IsTrue with_pieces → ArePiecesOf count items (given_to given seats) pieces
