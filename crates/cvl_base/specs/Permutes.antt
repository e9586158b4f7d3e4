-- Permutes as sets of pairs: in the pair (d, k) element k of the source goes to place d of the result.
-- Source: CVL's permute and back permute; select, default and the faults are this library's profile.
use Rattle.std.specs.Prelude.{ℕ, ◌+◌, ℤ, pos, negsuc, Bool, true, false, not, nat_lt, if◌then◌else◌, List, [], ◌∷◌, length, map, find}
use Rattle.std.specs.Prelude.{filter_map, unsigned_abs, Option, Some, None, unwrap_or, option_map, Result, Ok}
use Rattle.std.specs.List.{zip, list_any, range_with_len, enumerate_from}
use Rattle.std.specs.Ordering.{int_eq}
use Rattle.cvl_base.specs.declared.fault.Fault.{Fault}
use Rattle.cvl_base.specs.declared.fault.FaultNo.{FaultNo}
use Rattle.cvl_base.specs.declared.fault.FaultNo.TheVariants.{IndexOutOfRange, IndexRepeated}
use Rattle.cvl_base.specs.Elementwise.{if_as_long, values_from}
use Rattle.cvl_base.specs.Extracts.{element_at}
use Rattle.cvl_base.specs.Faults.{fault_at}
use Rattle.operators.specs.Folds.{fronts}
use Rattle.cvl_base.specs.Gives.{unless}
use Rattle.cvl_base.specs.Packs.{count_of}

-- ---- the pairs: the destination of a place k is its index if k takes part, and then (index, k) is a pair

-- the destinations if every place takes part
abbrev pub all_destinations : List ℤ → List (Option ℤ)
all_destinations index = map (λ i. Some i) index

-- the destination of a place that takes part if its flag is true
abbrev pub destination_if : ℤ → Bool → Option ℤ
destination_if i true = Some i
destination_if i false = None

-- the destinations if the places with a true flag take part
abbrev pub flagged_destinations : List ℤ → List Bool → List (Option ℤ)
flagged_destinations index flags = map (λ p. destination_if p.0 p.1) (zip index flags)

-- whether a place of the result is the destination
abbrev pub is_destination : ℤ → Option ℤ → Bool
is_destination d None = false
is_destination d (Some i) = int_eq i d

-- ---- bad places

-- whether it is one of the places 0 to m - 1
abbrev pub is_place : ℕ → ℤ → Bool
is_place m (pos d) = nat_lt d m
is_place m (negsuc d) = false

-- the place that an index names among m, if it is one of them
abbrev pub place_among : ℕ → ℤ → Option ℕ
place_among m i = if is_place m i then Some (unsigned_abs i) else None

-- what is wrong with a place's destination if the result has m places and the earlier places have those destinations
abbrev pub wrong_at : ℕ → List (Option ℤ) → Option ℤ → Option FaultNo
wrong_at m earlier None = None
wrong_at m earlier (Some i) =
    if not (is_place m i) then Some IndexOutOfRange else if list_any (is_destination i) earlier then Some IndexRepeated else None

-- what is wrong with each place
abbrev pub wrongs : ℕ → List (Option ℤ) → List (Option FaultNo)
wrongs m destinations = map (λ p. wrong_at m p.0 p.1) (zip (fronts destinations) destinations)

-- the fault of the first bad place; the first of all stands at the place given
abbrev pub first_fault : ℕ → List (Option FaultNo) → Option Fault
first_fault place [] = None
first_fault place (None ∷ others) = first_fault (place + 1) others
first_fault place (Some number ∷ others) = Some (fault_at number place)

-- ---- the results

-- the source's element k of the pair (d, k), if there is such a pair
abbrev pub sent_to : {X : Type 0} → List X → List (Option ℤ) → ℕ → Option X
sent_to source destinations d = option_map (λ p. p.1) (find (λ p. is_destination (pos d) p.0) (zip destinations source))

-- what was sent to the places 0 to m - 1
abbrev pub sent_to_all : {X : Type 0} → List X → List (Option ℤ) → ℕ → Result (List X) Fault
sent_to_all source destinations m = unless (first_fault 0 (wrongs m destinations))
    (Ok (filter_map (sent_to source destinations) (range_with_len 0 m)))

-- what was sent to each place, or the default there
abbrev pub sent_over : {X : Type 0} → List X → List (Option ℤ) → List X → Result (List X) Fault
sent_over source destinations defaults =
    unless (first_fault 0 (wrongs (length defaults) destinations))
    (Ok (map (λ p. unwrap_or (sent_to source destinations p.0) p.1) (enumerate_from 0 defaults)))

-- a simple permute: element k goes to place index k of a result as long as the source
abbrev pub simple_of : {X : Type 0} → List X → List ℤ → Result (List X) Fault
simple_of source index = if_as_long source index (sent_to_all source (all_destinations index) (length index))

-- a select permute: the elements with a true flag go to their indices, and the result has as many places as flags are true
abbrev pub select_of : {X : Type 0} → List X → List ℤ → List Bool → Result (List X) Fault
select_of source index flags =
    if_as_long source index (if_as_long index flags (sent_to_all source (flagged_destinations index flags) (count_of flags)))

-- a default permute: a simple one whose places without a sender keep their default
abbrev pub default_of : {X : Type 0} → List X → List ℤ → List X → Result (List X) Fault
default_of source index defaults = if_as_long source index (sent_over source (all_destinations index) defaults)

-- each place takes the source's element at its index
abbrev pub back_of : {X : Type 0} → List X → List ℤ → Result (List X) Fault
back_of source index = values_from IndexOutOfRange 0 (map (element_at source) index)
