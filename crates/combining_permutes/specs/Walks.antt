-- What the walks of combining permutes tell: through the segments the fault of the first index that is no place of its segment of the room,
-- and what stands in the room afterwards; and over one range which elements are sent there.
-- Source: CVL's segmented vectors, whose segments lie one after another.
use Rattle.std.specs.Prelude.{ℕ, ◌+◌, ℤ, pos, List, [], ◌∷◌, ◌++◌, drop, get_or, take, Option, Some, None}
use Rattle.std.specs.List.{filter, range_with_len, zip}
use Rattle.std.specs.Option.{option_or}
use Rattle.cvl_base.specs.declared.fault.Fault.{Fault}
use Rattle.combining_permutes.specs.CombiningPermutes.{combined}
use Rattle.permute_walks.specs.Indices.{first_outside}
use Rattle.permute_walks.specs.Senders.{is_between}

-- the fault of the first index that is no place of its segment of the room, where the first of all stands at the place given
abbrev pub outside_by : ℕ → List ℕ → List ℕ → List ℤ → Option Fault
outside_by place [] ms index = None
outside_by place (n ∷ ns) [] index = None
outside_by place (n ∷ ns) (m ∷ ms) index = option_or (first_outside place m (take n index)) (outside_by (place + n) ns ms (drop n index))

-- what each segment of the room is joined to, one segment after another
abbrev pub combined_by : {X : Type 0} → (X → X → X) → List ℕ → List ℕ → List ℤ → List X → List X → List X
combined_by join [] ms index source before = []
combined_by join (n ∷ ns) [] index source before = []
combined_by join (n ∷ ns) (m ∷ ms) index source before =
    combined join (zip (take n index) (take n source)) 0 (take m before)
    ++ combined_by join ns ms (drop n index) (drop n source) (drop m before)

-- which of so many indices, from the one at `first` on, name one of the places from `lowest` on and before `end`
abbrev pub those_between : List ℤ → ℕ → ℕ → ℕ → ℕ → List ℕ
those_between index lowest end first many = filter (λ k. is_between lowest end (Some (get_or index k (pos 0)))) (range_with_len first many)
