-- How the answer of a call relates to its definition, and how definitions that may have a fault are chained.
-- Source: this library's profile: which answers a call may give.
use Rattle.std.specs.Prelude.{◌≡◌, Result, Ok, Err, Option, Some, None, Bool, true, false, List, ◌++◌}
use Rattle.cvl_base.specs.declared.fault.Fault.{Fault}
use Rattle.cvl_base.specs.declared.refused.Refused.{Refused}
use Rattle.cvl_base.specs.declared.refused.Refused.TheVariants as refused

-- The call gave the value that the definition gives, seen by `view`, or exactly its fault, or was out of memory.
abbrev pub Gives : {X Y : Type 0} → (X → Y) → Result X Refused → Result Y Fault → Type 0
Gives view (Ok x) meaning = meaning ≡ Ok (view x)
Gives view (Err (refused.Fault f)) meaning = meaning ≡ Err f
Gives view (Err refused.NoResources) meaning = Unit {0}

infixl 20 ◌>>=◌
-- the next definition at the value, or the first fault: `?`
abbrev pub ◌>>=◌ : {X Y : Type 0} → Result X Fault → (X → Result Y Fault) → Result Y Fault
Ok x >>= next = next x
Err e >>= next = Err e

-- what is done, and after it what the others give, or their fault
abbrev pub after : {X : Type 0} → List X → Result (List X) Fault → Result (List X) Fault
after done others = others >>= λ xs. Ok (done ++ xs)

-- the fault if there is one, else what follows
abbrev pub unless : {Y : Type 0} → Option Fault → Result Y Fault → Result Y Fault
unless (Some f) rest = Err f
unless None rest = rest

-- the fault if the test holds, else what follows
abbrev pub fault_if : {Y : Type 0} → Bool → Fault → Result Y Fault → Result Y Fault
fault_if true f rest = Err f
fault_if false f rest = rest
