-- The tile and the workers of a race, or none if one thread walks all elements at once. No result depends on it.
-- What you ask for is a tile and a number of workers, too.
-- Source: this library's profile.
use Rattle.std.specs.Prelude.{ℕ, ◌*◌, ◌/◌, ◌==◌, ◌||◌, Bool, false, max, min, nat_le, nat_lt, if◌then◌else◌, Option, Some, None}
use Rattle.cvl_base.specs.Configs.{TilesAndWorkers}
use Rattle.cvl_base.specs.Limits.{longest_tile, most_elements}
use Rattle.sharing.specs.Thresholds.{least_raced, least_reduced, least_scanned, least_searched, long_tile, tiles_each}

-- a race of so many workers, at least two, in tiles that are long, but leave some to each worker
abbrev pub race_in_long_tiles : ℕ → ℕ → ℕ → Option TilesAndWorkers
race_in_long_tiles tile workers elements =
    if nat_lt workers 2 then None else
    Some (record { tile = max (min (elements / (workers * tiles_each)) longest_tile) tile; workers = workers })

-- what you ask for if its tile is short; else, if a race pays, a race of workers who have enough elements each
abbrev pub race_of : Bool → TilesAndWorkers → ℕ → Option TilesAndWorkers
race_of pays asked elements =
    if (elements == 0) || nat_lt most_elements elements then None else
    (if nat_lt asked.tile long_tile then Some asked else
    (if pays then race_in_long_tiles asked.tile (min (elements / least_raced) asked.workers) elements else None))

-- a scan, a reduce of elements of so many bytes in all, and the search for a fault
abbrev pub scan_race : TilesAndWorkers → ℕ → Option TilesAndWorkers
scan_race asked elements = race_of (nat_le least_scanned elements) asked elements

-- the race of a reduce over so many elements of so many bytes together
abbrev pub reduce_race : TilesAndWorkers → ℕ → ℕ → Option TilesAndWorkers
reduce_race asked elements bytes = race_of (nat_le least_reduced bytes) asked elements

-- the race for a first fault among so many elements
abbrev pub search_race : TilesAndWorkers → ℕ → Option TilesAndWorkers
search_race asked elements = race_of (nat_le least_searched elements) asked elements

-- a permute of so many indices into so many places, which is raced for only in short tiles
abbrev pub permute_race : TilesAndWorkers → ℕ → ℕ → Option TilesAndWorkers
permute_race asked indices places =
    if nat_lt most_elements places || nat_le long_tile asked.tile then None else race_of false asked indices
