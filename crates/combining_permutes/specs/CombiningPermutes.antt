-- Combining permutes: what stands at each place of a room, joined with every element that is sent there.
-- Source: the combining send of Blelloch, Vector Models for Data-Parallel Computing, 1990 (the Connection Machine's send with an operator):
-- of the pairs of CVL's permute, d[i[k]] = s[k], all that name one place are joined. The room, the order and the faults are this library's
-- profile.
use Rattle.std.specs.Prelude.{ℕ, ◌+◌, ℤ, pos, Bool, List, Some, count_by, length, map, Result, Ok}
use Rattle.std.specs.List.{enumerate_from, filter, range_with_len, zip}
use Rattle.std.specs.Ordering.{int_eq}
use Rattle.cvl_base.specs.declared.fault.Fault.{Fault}
use Rattle.cvl_base.specs.Elementwise.{if_as_long}
use Rattle.cvl_base.specs.Gives.{unless}
use Rattle.cvl_base.specs.Nests.{nest}
use Rattle.cvl_base.specs.Segmented.{beside, end_to_end, in_vector, of_three, of_two}
use Rattle.cvl_base.specs.Folds.{fold_of}
use Rattle.permute_walks.specs.Indices.{first_outside}
use Rattle.permute_walks.specs.Senders.{is_between}

-- whether an index names place d
abbrev pub names : ℕ → ℤ → Bool
names d i = int_eq i (pos d)

-- ---- joined elements

-- the elements that are sent to place d, in the order in which they stand; each stands beside its index
abbrev pub sent_there : {X : Type 0} → List (ℤ × X) → ℕ → List X
sent_there sends d = map (λ p. p.1) (filter (λ p. names d p.0) sends)

-- what stood at each of the places from `lowest` on, joined from left to right with the elements that are sent there
abbrev pub combined : {X : Type 0} → (X → X → X) → List (ℤ × X) → ℕ → List X → List X
combined join sends lowest before = map (λ p. fold_of join p.1 (sent_there sends p.0)) (enumerate_from lowest before)

-- a room, after the elements were sent to it, or the fault of the first index that is none of its places
abbrev pub combine_of : {X : Type 0} → (X → X → X) → List X → List ℤ → List X → Result (List X) Fault
combine_of join source index before =
    if_as_long source index (unless (first_outside 0 (length before) index) (Ok (combined join (zip index source) 0 before)))

-- the same of each segment, which has a segment of the room: an index counts from the start of that
abbrev pub seg_combine_of : {X : Type 0} → (X → X → X) → List X → List ℤ → List ℕ → List ℕ → List X → Result (List X) Fault
seg_combine_of join source index lengths room_lengths before =
    end_to_end (in_vector lengths) (of_three (combine_of join))
    (beside (beside (nest lengths source) (nest lengths index)) (nest room_lengths before))

-- ---- how many name a place

-- how many indices name one of the n places from `low` on
abbrev pub named_between : List ℤ → ℕ → ℕ → ℕ
named_between index low n = count_by (λ i. is_between low (low + n) (Some i)) index

-- how many indices name each of the n places from `lowest` on
abbrev pub place_counts : List ℤ → ℕ → ℕ → List ℤ
place_counts index lowest n = map (λ d. pos (count_by (names d) index)) (range_with_len lowest n)

-- how many name each of the places 0 to m - 1, or the fault of the first that names none of them
abbrev pub place_counts_of : List ℤ → ℕ → Result (List ℤ) Fault
place_counts_of index m = unless (first_outside 0 m index) (Ok (place_counts index 0 m))

-- the counts of indices in each segment, by the places of that segment of the room
abbrev pub seg_place_counts_of : List ℤ → List ℕ → List ℕ → Result (List ℤ) Fault
seg_place_counts_of index lengths room_lengths =
    end_to_end (in_vector lengths) (of_two place_counts_of) (beside (nest lengths index) (Ok room_lengths))
