-- What a worker tells the others about a tile that was given to it.
-- Source: the decoupled look-back of Merrill and Garland, Single-pass Parallel Prefix Scan with Decoupled Look-back, 2016.
use Rattle.std.specs.Prelude.{ℕ, ◌<◌, ◌≤◌}
use Rattle.boards.specs.Boards.{ScanSeated}
use Rattle.boards.specs.Passes.{WasTold}

-- Its worker told the sum of tile t, then looked back from the tile, and then told the tile's prefix, which is what the tiles up to it join
-- to. So nobody else has to add up the tile while it looks back, and another's look-back ends at the tile.
pub record HasToldAround {Item : Type 0} (seat : ScanSeated Item) (t : ℕ) : Type 0 where
  -- the numbers of looks before the one and before the other
  pub summed : ℕ
  pub done : ℕ
  pub sum : WasTold t 1 summed seat.pass
  pub prefix : WasTold t 2 done seat.pass
  pub looked : 1 ≤ t → summed < done
