-- A scan board and a seat at it, as plain data.
-- Source: the claim word and the status words of Merrill and Garland, Single-pass Parallel Prefix Scan with Decoupled Look-back, 2016.
use Rattle.std.specs.Prelude.{◌≡◌, ℕ, Bool, false, List}
use Rattle.atomic_table.specs.Seated.{TableId}
use Rattle.status_word.specs.declared.pass.Hand.{Hand}
use Rattle.status_word.specs.declared.pass.Pass.{Pass}
use Rattle.status_word.specs.Passes.{new_pass}
pub use Rattle.least_boards.specs.Seats.{Seated, with_pass}

-- which board it is, the sum of each tile, and for how many workers it was made
pub record Board (Item : Type 0) : Type 0 where
  pub id : TableId
  pub sums : List (Bool × Item)
  pub workers : ℕ

-- a pass of a scan board that changes only in its hand
abbrev pub on_hand : {Item : Type 0} → (Hand → Hand) → Pass Item → Pass Item
on_hand change p = record p { hand = change p.hand }

-- a seat at a scan board
abbrev pub ScanSeated : Type 0 → Type 0
ScanSeated Item = Seated (Pass Item)

-- the seat is one of the board's
abbrev pub IsSeatOf : {Item : Type 0} → Board Item → Seated (Pass Item) → Type 0
IsSeatOf board seat = (seat.id ≡ board.id) × (seat.pass.sums ≡ board.sums)

-- a seat whose worker did nothing yet
abbrev pub new_seat : {Item : Type 0} → Board Item → Seated (Pass Item)
new_seat board = record { id = board.id; pass = new_pass board.sums; is_done = false }
