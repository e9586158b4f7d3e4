-- Where the share of some threads ends among segments, none of which is cut.
-- Source: this library's profile.
use Rattle.std.specs.Prelude.{ℕ, ◌+◌, ◌-◌, ◌<◌, ◌≤◌, List}
use Rattle.sharing.specs.Shares.{share_of_first}
use Rattle.segdes.specs.Starts.{start_of}

-- the place where the share of the first few threads would end, among the places of the segments from `begin` up to before `end`
abbrev pub place_of_share : List ℕ → ℕ → ℕ → ℕ → ℕ → ℕ
place_of_share lengths begin end few threads =
    start_of lengths begin + share_of_first few threads (start_of lengths end - start_of lengths begin)

-- of these segments the threads have those before `middle`, which are the ones that start before that place
pub record IsShareEnd (lengths : List ℕ) (begin end few threads middle : ℕ) : Type 0 where
  pub in_order : begin ≤ middle
  pub within : middle ≤ end
  pub front : (s : ℕ) → begin ≤ s → s < middle → start_of lengths s < place_of_share lengths begin end few threads
  pub back : (s : ℕ) → middle ≤ s → s < end → place_of_share lengths begin end few threads ≤ start_of lengths s
