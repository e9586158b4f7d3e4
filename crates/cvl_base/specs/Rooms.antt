-- A call that writes its result into its caller's room.
-- Source: this library's profile: which answers a call may give.
use Rattle.std.specs.Prelude.{◌≡◌, ℕ, ◌==◌, nat_lt, not, List, ◌++◌, drop, length, Result, Ok, Err, IfErr, MatchResult}
use Rattle.cvl_base.specs.declared.fault.Fault.{Fault}
use Rattle.cvl_base.specs.declared.fault.FaultNo.TheVariants as no
use Rattle.cvl_base.specs.Faults.{fault}
use Rattle.cvl_base.specs.declared.refused.Refused.{Refused}
use Rattle.cvl_base.specs.Gives.{◌>>=◌, Gives, fault_if}

-- a list that fills a room of this length, else the fault of lengths that differ
abbrev pub in_room : {X : Type 0} → ℕ → Result (List X) Fault → Result (List X) Fault
in_room room meaning = meaning >>= λ xs. fault_if (not (length xs == room)) (fault no.LengthMismatch) (Ok xs)

-- The room holds the list that the definition gives, or there is a fault and the room is as it was.
abbrev pub Overwrites : {X : Type 0} → Result (List X) Fault → Result (Unit {0}) Fault → List X → List X → Type 0
Overwrites meaning answer before now = MatchResult answer (λ _. meaning ≡ Ok now) (λ f. (meaning ≡ Err f) × (now ≡ before))

-- The same for a call that takes memory: it may be out of memory, and the room is then as it was, too.
abbrev pub OverwritesOr : {X : Type 0} → Result (List X) Fault → Result (Unit {0}) Refused → List X → List X → Type 0
OverwritesOr meaning answer before now = Gives (λ _. now) answer meaning × IfErr answer (λ _. now ≡ before)

-- these items at the front of a room, whose rest is as before, else the fault of lengths that differ
abbrev pub at_front : {X : Type 0} → List X → List X → Result (List X) Fault
at_front room xs = fault_if (nat_lt (length room) (length xs)) (fault no.LengthMismatch) (Ok (xs ++ drop (length xs) room))

-- how many items there are, else what the count was before
abbrev pub count_or : {X : Type 0} → ℕ → Result (List X) Fault → ℕ
count_or before (Ok xs) = length xs
count_or before (Err f) = before

-- The list, whose length the caller may not know, stands at the front of the room, or the room is too short and as before; in both cases
-- the count is its length. Or there is a fault, and room and count are as they were.
abbrev pub OverwritesFront : {X : Type 0} → Result (List X) Fault → Result (Unit {0}) Fault → List X → List X → ℕ → ℕ → Type 0
OverwritesFront meaning answer before now count counted =
    Overwrites (meaning >>= at_front before) answer before now × (counted ≡ count_or count meaning)
