-- A least board and a seat at it, as plain data, and what its calls promise.
-- Source: the priority write of a parallel machine with concurrent writes; the claim counter is that of Merrill and Garland, Single-pass
-- Parallel Prefix Scan with Decoupled Look-back, 2016.
use Rattle.std.specs.Prelude.{◌≡◌, ℕ, ◌<◌, ◌≤◌, false, List, length, replicate, slice_index_or, Option, Some, None}
use Rattle.atomic_table.specs.Seated.{TableId}
use Rattle.least_boards.specs.declared.least_pass.LeastPass.{LeastPass}
use Rattle.least_boards.specs.Seats.{Seated}
pub use Rattle.least_boards.specs.Claims.{AreGivenOnce}
use Rattle.least_boards.specs.LeastPasses.{lowered_in, lowest_of, new_least_pass, seen_in, word_of_place}

-- which board it is, the slot of each place, how many slots and tiles there are, and for how many workers it was made
pub record LeastView : Type 0 where
  pub id : TableId
  pub targets : List (Option ℕ)
  pub slots : ℕ
  pub tiles : ℕ
  pub workers : ℕ

-- the seat is one of the board's
abbrev pub IsLeastSeatOf : LeastView → Seated LeastPass → Type 0
IsLeastSeatOf board seat = (seat.id ≡ board.id) × (seat.pass.targets ≡ board.targets) × (seat.pass.tiles ≡ board.tiles)

-- a seat whose worker did nothing yet
abbrev pub new_least_seat : LeastView → Seated LeastPass
new_least_seat board = record { id = board.id; pass = new_least_pass board.targets board.tiles; is_done = false }

-- a new board over these targets, and its seats
pub record IsNewLeast (targets : List (Option ℕ)) (slots tiles workers : ℕ)
    (board : LeastView) (seats : List (Seated LeastPass)) : Type 0 where
  pub of_targets : board.targets ≡ targets
  pub of_slots : board.slots ≡ slots
  pub of_tiles : board.tiles ≡ tiles
  pub as_many : board.workers ≡ workers
  pub seats_new : seats ≡ replicate workers (new_least_seat board)

-- What the seats of a board did in all, once it is closed, and its answer for each slot.
pub record IsLeastEnd (board : LeastView) (seats : List (Seated LeastPass)) (leasts : List (Option ℕ)) : Type 0 where
  pub given : AreGivenOnce (λ p. p.hand) board.tiles seats
  pub as_many : length leasts ≡ board.slots
  -- the least place that any seat lowered there, or none if none did
  pub least : (s : ℕ) → s < board.slots → word_of_place (slice_index_or leasts s None) ≡ lowest_of (λ seat. lowered_in s seat.pass) seats
  -- it is a place of that slot
  pub of_slot : (s place : ℕ) → s < board.slots → slice_index_or leasts s None ≡ Some place →
      slice_index_or board.targets place None ≡ Some s
  -- and no seat ever saw a lesser one
  pub seen : (s : ℕ) → s < board.slots →
      word_of_place (slice_index_or leasts s None) ≤ lowest_of (λ seat. seen_in s seat.pass) seats
