-- Scans and reduces that are written in runs, from tile to tile.
-- Source: the tiles of Merrill and Garland, Single-pass Parallel Prefix Scan with Decoupled Look-back, 2016.
use Rattle.std.specs.Prelude.{◌≡◌, ℕ, ◌+◌, ◌≤◌, Bool, List, length, map}
use Rattle.std.specs.List.{range_with_len}
use Rattle.cvl_base.specs.TileSums.{before_tile}
use Rattle.fresh.specs.Parts.{part}
use Rattle.fresh.specs.Places.{Stretch, with_items}

-- the place of the run's next item
abbrev pub next_of : {X : Type 0} → Stretch X → ℕ
next_of run = run.first + length run.items

-- the run after n more of its places were written; each holds what the whole has there
abbrev pub written_on : {X : Type 0} → List X → ℕ → Stretch X → Stretch X
written_on whole n run = with_items run (part whole (next_of run) n)

-- some more of the run's places were written so, at least one
pub record IsWrittenOn {X : Type 0} (whole : List X) (old now : Stretch X) : Type 0 where
  pub count : ℕ
  pub some : 1 ≤ count
  pub fits : count ≤ old.room
  pub is : now ≡ written_on whole count old

-- what stands before each tile, since the last start of a segment
abbrev pub befores_of : {Item : Type 0} → (Item → Item → Item) → Item → List (Bool × Item) → List Item
befores_of join unit sums = map (λ t. (before_tile join unit sums t).1) (range_with_len 0 (length sums))
