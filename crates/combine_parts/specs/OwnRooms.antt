-- A combining permute whose parts each join their elements in a room of their own: where these rooms begin, and what each comes to hold.
-- Source: Blelloch's combining send, and his reduce in parts at each place of it; the rooms are this library's.
use Rattle.std.specs.Prelude.{◌≡◌, ◌≢◌, ℕ, ◌+◌, ◌*◌, ◌/◌, ◌==◌, nat_lt, not, ℤ, List, drop, length, map, replicate, take}
use Rattle.std.specs.Prelude.{MatchResult, Result, Ok, Err}
use Rattle.std.specs.List.{range_with_len}
use Rattle.c_calls.specs.declared.status.CvlStatus.{CvlStatus}
use Rattle.c_calls.specs.Told.{done, status_of_fault}
use Rattle.combining_permutes.specs.CombiningPermutes.{combine_of, place_counts_of}
use Rattle.cvl_base.specs.declared.fault.Fault.{Fault}
use Rattle.cvl_base.specs.declared.fault.FaultNo.TheVariants as no
use Rattle.cvl_base.specs.Faults.{fault}
use Rattle.cvl_base.specs.Gives.{◌>>=◌, fault_if}
use Rattle.part_calls.specs.Limits.{few_enough}

-- ---- where the rooms begin

-- how far a room with so many places lies behind the one before: so far that no two parts write to one line of a cache
abbrev pub padded : ℕ → ℕ
padded places = (places + 255) / 128 * 128

-- where each of so many rooms begins
abbrev pub room_starts : ℕ → ℕ → List ℕ
room_starts places rooms = map (λ k. k * padded places) (range_with_len 0 rooms)

-- the same, if there are neither too many places nor too many rooms
abbrev pub own_rooms_of : ℕ → ℕ → Result (List ℕ) Fault
own_rooms_of places rooms = few_enough places (few_enough rooms (Ok (room_starts places rooms)))

-- ---- what a room comes to hold

-- whether a part with so many elements and indices may have a room of so many places in its memory, which is so long
abbrev pub may_own : ℕ → ℕ → ℕ → ℕ → Result (Unit {0}) Fault
may_own places elements indices memory =
    few_enough indices (few_enough places
    (fault_if (not (elements == indices)) (fault no.LengthMismatch)
    (fault_if (nat_lt memory places) (fault no.LengthMismatch) (Ok tt))))

-- the room of a part: what the operator gives of nothing, joined at each place with the elements that are sent there
abbrev pub own_room_of : {X : Type 0} → (X → X → X) → X → ℕ → ℕ → List X → List ℤ → Result (List X) Fault
own_room_of join unit places memory source index =
    may_own places (length source) (length index) memory >>= λ _. combine_of join source index (replicate places unit)

-- the same of counts: how many of the part's indices name each place
abbrev pub own_counts_of : ℕ → ℕ → List ℤ → Result (List ℤ) Fault
own_counts_of places memory index = may_own places (length index) (length index) memory >>= λ _. place_counts_of index places

-- ---- answers

-- The first places of a part's memory are its room, or there is a fault. What is behind them is as before; and so is all, unless an index
-- is out of range.
abbrev pub MakesOwn : {X : Type 0} → ℕ → Result (List X) Fault → Result (Unit {0}) Fault → List X → List X → Type 0
MakesOwn places meaning answer before now =
    MatchResult answer (λ _. meaning ≡ Ok (take places now))
    (λ f. (meaning ≡ Err f) × (f.number ≢ no.IndexOutOfRange → now ≡ before))
    × (drop places now ≡ drop places before)

-- The same of an export.
abbrev pub OwnTold : {X : Type 0} → ℕ → Result (List X) Fault → CvlStatus → List X → List X → Type 0
OwnTold places (Ok room) status before now =
    (status ≡ done) × (take places now ≡ room) × (drop places now ≡ drop places before)
OwnTold places (Err f) status before now =
    (status ≡ status_of_fault f) × (f.number ≢ no.IndexOutOfRange → now ≡ before) × (drop places now ≡ drop places before)
