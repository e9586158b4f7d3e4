-- Ranges of the places of a segmented vector, in which segments may start anywhere, and scans over them.
-- Source: Blelloch's segmented scans (Vector Models for Data-Parallel Computing, 1990).
use Rattle.std.specs.Prelude.{◌≡◌, ℕ, ◌+◌, ◌≤◌, Bool, true, false, if◌then◌else◌, List, [], ◌∷◌, map, take, drop, slice_range}
use Rattle.std.specs.List.{flat_map}
use Rattle.cvl_base.specs.Folds.{fold_of, scan_of}
use Rattle.cvl_base.specs.Lists.{joined}
use Rattle.cvl_base.specs.Nests.{cut_of}
use Rattle.segdes.specs.Starts.{start_of}

-- the elements of a segment, each with whether the segment starts at it
abbrev pub started : {Item : Type 0} → List Item → List (Bool × Item)
started [] = []
started (x ∷ xs) = (true, x) ∷ map (λ y. (false, y)) xs

-- elements at which no segment starts
abbrev pub continued : {Item : Type 0} → List Item → List (Bool × Item)
continued xs = map (λ x. (false, x)) xs

-- the elements of a segmented vector, each with whether a segment starts at it
abbrev pub with_starts : {Item : Type 0} → List ℕ → List Item → List (Bool × Item)
with_starts lengths xs = flat_map started (cut_of lengths xs)

-- of those before place `to`, the ones from place `from` on
abbrev pub range_between : {Item : Type 0} → List ℕ → List Item → ℕ → ℕ → List (Bool × Item)
range_between lengths xs from to = drop from (with_starts lengths (take to xs))

-- the scan of a range after what stands before it: the unit where a segment starts, else what the elements since the last
-- start join to
abbrev pub range_scan_of : {Item : Type 0} → (Item → Item → Item) → Item → Item → List (Bool × Item) → List Item
range_scan_of join unit before [] = []
range_scan_of join unit before ((starts, x) ∷ range) =
    (if starts then unit else before) ∷ range_scan_of join unit (if starts then x else join before x) range

-- the scans of the segments, one after another
abbrev pub scans_of : {Item : Type 0} → (Item → Item → Item) → Item → List ℕ → List Item → List Item
scans_of join unit lengths xs = joined (map (scan_of join unit) (cut_of lengths xs))

-- the reduces of the segments
abbrev pub reduces_of : {Item : Type 0} → (Item → Item → Item) → Item → List ℕ → List Item → List Item
reduces_of join unit lengths xs = map (fold_of join unit) (cut_of lengths xs)

-- segment s holds the place, or ends or starts there, and its elements before the place join to this
pub record IsOpenAt {Item : Type 0} (join : Item → Item → Item) (unit : Item) (lengths : List ℕ) (xs : List Item) (s place : ℕ)
    (before : Item) : Type 0 where
  pub begun : start_of lengths s ≤ place
  pub not_past : place ≤ start_of lengths (s + 1)
  pub before_is : before ≡ fold_of join unit (slice_range xs (start_of lengths s) place)
