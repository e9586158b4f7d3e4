-- The sort of a vector whose keys lie on ranks, each with its place in the whole. Each rank sorts its own, and all cut what they sorted at
-- the same splitters; what lies between two of these goes to one rank, in the order of the senders, and that rank sorts it. A splitter is a
-- key with a place, so that equal keys are cut too.
-- Source: Blelloch, Leiserson, Maggs, Plaxton, Smith and Zagha, A Comparison of Sorting Algorithms for the Connection Machine CM-2, 1991,
-- sample sort; Cheng, Shah, Gilbert and Edelman, A Novel Parallel Sorting Algorithm for Contemporary Architectures, 2007, splitters that
-- cut exactly.
use Rattle.std.specs.Prelude.{ℕ, ◌+◌, ◌-◌, min, ℤ, Bool, int_lt, not, ◌&&◌, ◌||◌, nat_lt, List, [], ◌∷◌, count_by, drop, length, map, take}
use Rattle.std.specs.List.{enumerate_from}
use Rattle.std.specs.Ordering.{int_eq}
use Rattle.operators.specs.Lists.{joined}
use Rattle.orders.specs.Orders.{has_lesser_key}
use Rattle.orders.specs.StableSorts.{stably_sorted}

-- the keys of each rank, with their places in the whole, the first of which is n
abbrev pub with_places : ℕ → List (List ℤ) → List (List (ℕ × ℤ))
with_places n [] = []
with_places n (keys ∷ others) = enumerate_from n keys ∷ with_places (n + length keys) others

-- whether a key goes before a splitter: it is less, or neither is and its place is earlier
abbrev pub goes_before : ℕ × ℤ → ℕ × ℤ → Bool
goes_before splitter p = has_lesser_key p splitter || (not (has_lesser_key splitter p) && nat_lt p.0 splitter.0)

-- sorted keys up to a splitter, and from it on
abbrev pub up_to : ℕ × ℤ → List (ℕ × ℤ) → List (ℕ × ℤ)
up_to splitter sorted = take (count_by (goes_before splitter) sorted) sorted

-- the sorted keys that a splitter does not leave behind
abbrev pub from_on : ℕ × ℤ → List (ℕ × ℤ) → List (ℕ × ℤ)
from_on splitter sorted = drop (count_by (goes_before splitter) sorted) sorted

-- sorted keys, cut at splitters
abbrev pub cut_at : List (ℕ × ℤ) → List (ℕ × ℤ) → List (List (ℕ × ℤ))
cut_at [] sorted = sorted ∷ []
cut_at (splitter ∷ others) sorted = up_to splitter sorted ∷ cut_at others (from_on splitter sorted)

-- what each rank has in the end, if these are the sorted keys of each
abbrev pub exchanged_at : List (ℕ × ℤ) → List (List (ℕ × ℤ)) → List (List (ℕ × ℤ))
exchanged_at [] pieces = stably_sorted has_lesser_key (joined pieces) ∷ []
exchanged_at (splitter ∷ others) pieces =
    stably_sorted has_lesser_key (joined (map (up_to splitter) pieces)) ∷ exchanged_at others (map (from_on splitter) pieces)

-- what each rank has once all have sorted, exchanged and sorted again
abbrev pub sorted_over_ranks : List (ℕ × ℤ) → List (List ℤ) → List (List (ℕ × ℤ))
sorted_over_ranks splitters parts = exchanged_at splitters (map (stably_sorted has_lesser_key) (with_places 0 parts))

-- ---- where a rank cuts its own keys

-- how many keys are less than another, and how many equal it
abbrev pub lesser_keys : ℤ → List ℤ → ℕ
lesser_keys k keys = count_by (λ key. int_lt key k) keys

-- how many keys are equal to k
abbrev pub equal_keys : ℤ → List ℤ → ℕ
equal_keys k keys = count_by (λ key. int_eq key k) keys

-- how many of a rank's own keys go before a splitter with the key k, before which n of the whole go: the lesser ones, and the equal ones
-- that the ranks before leave
abbrev pub cut_in_rank_order : ℤ → ℕ → List ℤ → List ℤ → List ℤ → ℕ
cut_in_rank_order k n whole before own = lesser_keys k own + min (equal_keys k own) (n - lesser_keys k whole - equal_keys k before)
