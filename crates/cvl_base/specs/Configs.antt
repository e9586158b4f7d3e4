-- Which tile lengths and numbers of workers a configuration takes.
-- Source: this library's profile.
use Rattle.std.specs.Prelude.{ℕ, Result, Ok, Err, Bool, nat_le, ◌&&◌, if◌then◌else◌}
use Rattle.cvl_base.specs.Limits.{longest_tile, most_workers}
use Rattle.cvl_base.specs.declared.config.BadConfig.{BadConfig}
use Rattle.cvl_base.specs.declared.config.BadConfig.TheVariants.{Tile, Workers}

-- the length of tiles, in elements, and a number of workers
pub record TilesAndWorkers : Type 0 where
  pub tile : ℕ
  pub workers : ℕ

-- a number from 1 to the greatest
abbrev pub is_from_one_to : ℕ → ℕ → Bool
is_from_one_to greatest n = nat_le 1 n && nat_le n greatest

-- the tile's range is checked first
abbrev pub config_of : ℕ → ℕ → Result TilesAndWorkers BadConfig
config_of tile workers =
    if is_from_one_to longest_tile tile
    then (if is_from_one_to most_workers workers then Ok (record { tile = tile; workers = workers }) else Err Workers)
    else Err Tile
