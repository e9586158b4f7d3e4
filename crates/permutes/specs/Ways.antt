-- The ways to make a permute. The result is the same.
-- Source: this library's profile.
use Rattle.std.specs.Prelude.{ℕ, ◌/◌, ◌≤◌, ◌&&◌, nat_le, if◌then◌else◌, IfSome, Option, Some, None}
use Rattle.cvl_base.specs.Configs.{TilesAndWorkers}
use Rattle.cvl_base.specs.Limits.{most_elements}
use Rattle.sharing.specs.Races.{permute_race, search_race}
use Rattle.sharing.specs.Shares.{writing_threads}
use Rattle.sharing.specs.Thresholds.{least_shared}
use Rattle.permutes.specs.declared.ways.Way.{Way}
use Rattle.permutes.specs.declared.ways.Way.TheVariants as way

-- the race, if workers race, else the other way
abbrev pub race_or : Option TilesAndWorkers → Way → Way
race_or (Some pace) other = way.Race pace
race_or None other = other

-- a flat permute of so many indices into so many places: one walk if the result is long, and then a search for the first bad place as for
-- any fault
abbrev pub flat_way : TilesAndWorkers → ℕ → ℕ → Way
flat_way asked indices places = race_or (permute_race asked indices places)
    (if nat_le least_shared places && nat_le places most_elements
    then way.OneWalk (writing_threads asked.workers places) (search_race asked indices) else way.Alone)

-- a permute by segments, the longest of which has at most so many places: one walk if no segment is longer than a thread's share
abbrev pub segment_way : TilesAndWorkers → ℕ → ℕ → ℕ → Way
segment_way asked indices places widest = race_or (permute_race asked indices places)
    (if nat_le widest (places / writing_threads asked.workers places)
    then way.OneWalk (writing_threads asked.workers places) None else way.Alone)

-- the pace of the race for the senders, if there may be one
abbrev pub pace_of : Way → Option TilesAndWorkers
pace_of (way.Race pace) = Some pace
pace_of (way.OneWalk threads search) = search
pace_of way.Alone = None

-- if workers race for the senders, the places of the result fit a board
abbrev pub RacesWithin : ℕ → Way → Type 0
RacesWithin places w = IfSome (pace_of w) (λ _. places ≤ most_elements)

-- a result that is made in one walk has at most as many places
abbrev pub WalksWithin : ℕ → Way → Type 0
WalksWithin places (way.Race pace) = Unit {0}
WalksWithin places (way.OneWalk threads search) = places ≤ most_elements
WalksWithin places way.Alone = Unit {0}
