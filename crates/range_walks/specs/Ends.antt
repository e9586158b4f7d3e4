-- Where segments end, counted at each place.
-- Source: Blelloch's segmented scans (Vector Models for Data-Parallel Computing, 1990), with segment numbers in place of flags.
use Rattle.std.specs.Prelude.{ℕ, ◌+◌, ◌<◌, ◌≤◌, List, take, sum}
use Rattle.segdes.specs.Starts.{start_of}

-- segment s holds the place
abbrev pub IsIn : List ℕ → ℕ → ℕ → Type 0
IsIn lengths s place = (start_of lengths s ≤ place) × (place < start_of lengths (s + 1))

-- as many segments end up to each place as end before the segment that holds it, so that their count is its number
abbrev pub AreEnds : List ℕ → List ℕ → Type 0
AreEnds lengths ends = (place : ℕ) → place < sum lengths → IsIn lengths (sum (take (place + 1) ends)) place
