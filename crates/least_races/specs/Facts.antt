-- What each worker of a race for least places has done by the time it finishes a tile.
-- Source: the priority write of a parallel machine with concurrent writes; that a later place of a slot may be skipped is this library's.
use Rattle.std.specs.Prelude.{◌≡◌, ℕ, ◌+◌, ◌<◌, ◌≤◌, ◌⊎◌, List, ◌++◌, slice_index_or, length, Option, Some, None}
use Rattle.std.specs.List.{All}
use Rattle.tile_plan.specs.Ranges.{Tiling, range_of, tile_count}
use Rattle.least_boards.specs.declared.least_pass.LeastPass.{LeastPass}
use Rattle.least_boards.specs.declared.least_pass.Low.{Low}
use Rattle.least_boards.specs.Seats.{Seated}
use Rattle.least_boards.specs.LeastBoards.{LeastView}
use Rattle.least_boards.specs.LeastPasses.{lowered_in, seen_in}

-- the board's places are cut into tiles by this plan
pub record IsCutInto (board : LeastView) (plan : Tiling) : Type 0 where
  pub whole : plan.len ≡ length board.targets
  pub cut : board.tiles ≡ tile_count plan.len plan.tile

-- the board is one over these targets
pub record IsOver (board : LeastView) (targets : List (Option ℕ)) (slots : ℕ) : Type 0 where
  pub of_targets : board.targets ≡ targets
  pub of_slots : board.slots ≡ slots

-- the worker lowered that place of the slot or a lesser one, or saw a lesser one there
abbrev pub IsAnswered : LeastPass → ℕ → ℕ → Type 0
IsAnswered pass slot place = (lowered_in slot pass ≤ place) ⊎ (seen_in slot pass < place)

-- the fact of a tile: it did so for each place of the tile that has a slot
abbrev pub HasAnswered : LeastView → Tiling → Seated LeastPass → ℕ → Type 0
HasAnswered board plan seat t = (place slot : ℕ) → (range_of plan.len plan.tile t).0 ≤ place → place < (range_of plan.len plan.tile t).1 →
    slot < board.slots → slice_index_or board.targets place None ≡ Some slot → IsAnswered seat.pass slot place

-- from one time to a later one a worker claimed nothing, and did and saw no less
pub record HasGoneOn (old new : Seated LeastPass) : Type 0 where
  pub hand : new.pass.hand ≡ old.pass.hand
  pub done : new.is_done ≡ old.is_done
  pub lowered : (slot : ℕ) → lowered_in slot new.pass ≤ lowered_in slot old.pass
  pub seen : (slot : ℕ) → seen_in slot new.pass ≤ seen_in slot old.pass

-- from one time to a later one the worker lowered only places of this range, and no more of them than it has
pub record HasLowered (from to : ℕ) (old new : LeastPass) : Type 0 where
  pub added : List Low
  pub lowered : new.lowered ≡ added ++ old.lowered
  pub within : All (λ low. (from ≤ low.place) × (low.place < to)) added
  pub few : length added + from ≤ to
