-- First senders by ranges of their result: a range's owner reads all indices, writes the first senders of the range, and counts the indices
-- that name a place of it.
-- Source: the least sender of each place, as in the whole; the ranges are this library's.
use Rattle.std.specs.Prelude.{ℕ, ◌+◌, ℤ, Bool, List, count_by, length, Option, Result, Ok}
use Rattle.cvl_base.specs.declared.fault.Fault.{Fault}
use Rattle.cvl_base.specs.Elementwise.{if_as_long}
use Rattle.cvl_base.specs.Permutes.{all_destinations, flagged_destinations}
use Rattle.first_senders.specs.FirstSenders.{first_senders}
use Rattle.permute_walks.specs.Senders.{is_between}
use Rattle.part_calls.specs.Limits.{range_within}

-- the first senders of the n places from `low` on, and how many places that take part name one of them
abbrev pub counted_senders : List (Option ℤ) → ℕ → ℕ → List ℤ × ℕ
counted_senders destinations low n = (first_senders destinations low n, count_by (is_between low (low + n)) destinations)

-- the first senders of the n places from `low` on, and how many indices name one of these
abbrev pub senders_range_of : List ℤ → ℕ → ℕ → Result (List ℤ × ℕ) Fault
senders_range_of index low n =
    range_within (length index) low n (Ok (counted_senders (all_destinations index) low n))

-- the same among the places with a true flag
abbrev pub select_senders_range_of : List ℤ → List Bool → ℕ → ℕ → Result (List ℤ × ℕ) Fault
select_senders_range_of index flags low n =
    range_within (length index) low n
    (if_as_long index flags (Ok (counted_senders (flagged_destinations index flags) low n)))
