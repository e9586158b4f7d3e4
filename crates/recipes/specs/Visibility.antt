-- Line of sight: which places of a line of altitudes an observer at place 0 sees. A place is visible if the slope from the observer to it
-- is greater than that to each place between them.
-- Source: Blelloch, Vector Models for Data-Parallel Computing, 1990, line of sight. Slopes are compared as fractions, by
-- products of whole numbers.
use Rattle.std.specs.Prelude.{◌≤◌, ℕ, ◌-◌, ℤ, pos, ◌-ℤ◌, ◌*ℤ◌, int_lt, Bool, not, ◌&&◌, List, length, map, unwrap_or, slice_get}
use Rattle.std.specs.Int.{is_negative}
use Rattle.std.specs.List.{list_all, range_with_len, AllPass}

-- how far place k lies above the observer
abbrev pub rise : List ℤ → ℕ → ℤ
rise altitudes k = unwrap_or (slice_get altitudes k) (pos 0) -ℤ unwrap_or (slice_get altitudes 0) (pos 0)

-- the slope to place i, rise / i, is greater than that to place j
abbrev pub is_steeper : List ℤ → ℕ → ℕ → Bool
is_steeper altitudes i j = int_lt (rise altitudes j *ℤ pos i) (rise altitudes i *ℤ pos j)

-- the slope to place i is greater than that to each place from 1 to i - 1; none is before place 0 or 1
abbrev pub is_visible : List ℤ → ℕ → Bool
is_visible altitudes i = list_all (is_steeper altitudes i) (range_with_len 1 (i - 1))

-- for each place, whether it is visible
abbrev pub visible_of : List ℤ → List Bool
visible_of altitudes = map (is_visible altitudes) (range_with_len 0 (length altitudes))

-- the altitudes over which slopes in 32 bits tell visibility exactly: 1 to 256 of them, of 0 to 32767
abbrev pub is_altitude : ℤ → Bool
is_altitude altitude = not (is_negative altitude) && int_lt altitude (pos 32768)

-- the altitudes over which the script of the recipe is exact
pub record AreExact (altitudes : List ℤ) : Type 0 where
  pub some : 1 ≤ length altitudes
  pub few : length altitudes ≤ 256
  pub low : AllPass is_altitude altitudes
