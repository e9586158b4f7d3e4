-- The monoid on runs of a segmented vector: whether a segment starts in the run, and what the run's elements join to since the last start.
-- Source: the pair operator of Blelloch's segmented scans (Vector Models for Data-Parallel Computing, 1990).
use Rattle.std.specs.Prelude.{Bool, false, if◌then◌else◌}
use Rattle.operators.specs.Booleans.{either}

-- a pair is an item if its value is
abbrev pub is_seg_item : {Item : Type 0} → (Item → Bool) → Bool × Item → Bool
is_seg_item is_item (starts, value) = is_item value

-- no start, and nothing joined
abbrev pub seg_unit : {Item : Type 0} → Item → Bool × Item
seg_unit unit = (false, unit)

-- a later run with a start hides what stands before it; otherwise the two values are joined
abbrev pub seg_join : {Item : Type 0} → (Item → Item → Item) → Bool × Item → Bool × Item → Bool × Item
seg_join join (f, v) (g, w) = (either f g, if g then w else join v w)
