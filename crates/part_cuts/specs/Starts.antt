-- Which segment is the first that starts in a part, or behind it.
-- Source: Blelloch, Vector Models for Data-Parallel Computing, 1990: where segments start, as the sums of the lengths before them.
use Rattle.std.specs.Prelude.{◌≡◌, ℕ, suc, ◌+◌, ◌-◌, ◌<◌, ◌≤◌, ◌^◌, nat_lt, ℤ, pos, List, [], ◌∷◌, if◌then◌else◌, length, map, sum, take}
use Rattle.part_cuts.specs.Evenly.{even_places}

-- how many of the segments with these lengths start before a place, if the first of them starts at `start`
abbrev pub starts_before : ℕ → ℕ → List ℕ → ℕ
starts_before place start [] = 0
starts_before place start (l ∷ lengths) = if nat_lt start place then suc (starts_before place (start + l) lengths) else 0

-- the number of the first segment that starts at a place or behind it; all segments, if each starts before
abbrev pub first_start : ℕ → List ℕ → ℕ
first_start place lengths = starts_before place 0 lengths

-- where a segment starts, at last where all segments end
abbrev pub start_of : List ℕ → ℕ → ℕ
start_of lengths segment = sum (take segment lengths)

-- where the segments with some numbers start
abbrev pub starts_at : List ℕ → List ℕ → List ℕ
starts_at lengths segments = map (start_of lengths) segments

-- how many segments start before a place, if the first of them starts at `start`, and where the next one starts, at last where all end
abbrev pub start_behind : ℕ → ℕ → List ℕ → ℕ × ℕ
start_behind place start lengths = let before = starts_before place start lengths in (before, start + start_of lengths before)

-- The numbers are the lengths of segments, which are cut evenly into shares, at least one; `places` says where the first segment of each
-- share starts, at last where all segments end; and each place has 64 bits.
pub record AreShareStarts (numbers : List ℤ) (lengths places : List ℕ) : Type 0 where
  pub are_lengths : numbers ≡ map pos lengths
  pub some_share : 2 ≤ length places
  pub starts : places ≡ starts_at lengths (even_places (length lengths) (length places - 1))
  pub fits : sum lengths < 2 ^ 64
