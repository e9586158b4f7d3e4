-- The first senders of segments, by two walks: the fault of the first destination that is none of its segment, and the senders.
-- Source: CVL's segmented vectors, whose segments lie one after another.
use Rattle.std.specs.Prelude.{ℕ, ◌+◌, ℤ, List, [], ◌∷◌, ◌++◌, drop, map, take, Option, None}
use Rattle.std.specs.Option.{option_or}
use Rattle.cvl_base.specs.declared.fault.Fault.{Fault}
use Rattle.cvl_base.specs.Permutes.{first_fault}
use Rattle.first_senders.specs.FirstSenders.{first_senders, wrong_in}

-- the fault of the first destination that is no place of its segment of the result; the first of all stands at the place given
abbrev pub fault_by : ℕ → List ℕ → List ℕ → List (Option ℤ) → Option Fault
fault_by place [] ms destinations = None
fault_by place (n ∷ ns) [] destinations = None
fault_by place (n ∷ ns) (m ∷ ms) destinations =
    option_or (first_fault place (map (wrong_in m) (take n destinations))) (fault_by (place + n) ns ms (drop n destinations))

-- the first senders of each segment, in order
abbrev pub senders_by : List ℕ → List ℕ → List (Option ℤ) → List ℤ
senders_by [] ms destinations = []
senders_by (n ∷ ns) [] destinations = []
senders_by (n ∷ ns) (m ∷ ms) destinations = first_senders (take n destinations) 0 m ++ senders_by ns ms (drop n destinations)
