-- What the owner of some places of a permute's result is sent: the pairs of a destination that it owns and an element, in the order of the
-- senders; and what is found wrong there and where the index stands. The permute's fault is the one at the least place.
-- Source: CVL's permute, d[i[k]] = s[k], between processors that own ranges of the result; the owners are this library's.
use Rattle.std.specs.Prelude.{◌≡◌, ℕ, ◌<◌, ℤ, pos, Bool, true, ◌&&◌, nat_lt, if◌then◌else◌, List, map, Option, Some, None, unwrap_or}
use Rattle.std.specs.List.{filter, fold, list_any, zip}
use Rattle.cvl_base.specs.declared.fault.Fault.{Fault}
use Rattle.cvl_base.specs.declared.fault.FaultNo.{FaultNo}
use Rattle.cvl_base.specs.declared.fault.FaultNo.TheVariants.{IndexOutOfRange, IndexRepeated}
use Rattle.cvl_base.specs.Permutes.{first_fault, is_destination, is_place}
use Rattle.operators.specs.Folds.{fronts}

-- whether the owner has a place: its test is passed by each destination that is the place
abbrev pub HasPlace : (Option ℤ → Bool) → ℤ → Type 0
HasPlace owns d = (t : Option ℤ) → is_destination d t ≡ true → owns t ≡ true

-- the pairs that it is sent
abbrev pub owned_pairs : {X : Type 0} → (Option ℤ → Bool) → List X → List (Option ℤ) → List (Option ℤ × X)
owned_pairs owns source destinations = filter (λ p. owns p.0) (zip destinations source)

-- the destinations among them
abbrev pub owned_destinations : (Option ℤ → Bool) → List (Option ℤ) → List (Option ℤ)
owned_destinations owns destinations = filter owns destinations

-- the elements that it is sent, each beside its index
abbrev pub owned_sends : {X : Type 0} → (ℤ → Bool) → List (ℤ × X) → List (ℤ × X)
owned_sends owns sends = filter (λ p. owns p.0) sends

-- each of m places has an owner
abbrev pub HaveOwners : List (Option ℤ → Bool) → ℕ → Type 0
HaveOwners owners m = (d : ℕ) → d < m → list_any (λ owns. owns (Some (pos d))) owners ≡ true

-- ---- the first fault

-- what a sender finds wrong with its destination, if the result has m places
abbrev pub found_by_sender : ℕ → Option ℤ → Option FaultNo
found_by_sender m None = None
found_by_sender m (Some i) = if is_place m i then None else Some IndexOutOfRange

-- what an owner finds wrong with a destination that it is sent after these: that it has been sent it before
abbrev pub found_by_owner : (Option ℤ → Bool) → List (Option ℤ) → Option ℤ → Option FaultNo
found_by_owner owns earlier None = None
found_by_owner owns earlier (Some i) =
    if owns (Some i) && list_any (is_destination i) (owned_destinations owns earlier) then Some IndexRepeated else None

-- the first fault that senders find, and the first that an owner finds, each at its sender's place
abbrev pub first_of_senders : ℕ → List (Option ℤ) → Option Fault
first_of_senders m destinations = first_fault 0 (map (found_by_sender m) destinations)

-- the first fault that an owner finds, at its sender's place
abbrev pub first_of_owner : List (Option ℤ) → (Option ℤ → Bool) → Option Fault
first_of_owner destinations owns = first_fault 0 (map (λ p. found_by_owner owns p.0 p.1) (zip (fronts destinations) destinations))

-- the fault at the lesser place of two, the first of two at one place
abbrev pub earlier_fault : Option Fault → Option Fault → Option Fault
earlier_fault None g = g
earlier_fault (Some f) None = Some f
earlier_fault (Some f) (Some g) = if nat_lt (unwrap_or g.place 0) (unwrap_or f.place 0) then Some g else Some f

-- the fault that ranks agree on
abbrev pub agreed_fault : List (Option ℤ → Bool) → ℕ → List (Option ℤ) → Option Fault
agreed_fault owners m destinations = fold earlier_fault (first_of_senders m destinations) (map (first_of_owner destinations) owners)
