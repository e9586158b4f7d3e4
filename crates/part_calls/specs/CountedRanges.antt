-- A range of a result that is written and counted.
-- Source: this library's calls in parts.
use Rattle.std.specs.Prelude.{◌≡◌, ℕ, List, MatchResult, Result, Ok, Err}
use Rattle.cvl_base.specs.declared.fault.Fault.{Fault}

-- The room holds what the definition gives, and the answer is its count; or there is a fault, and the room is as it was.
abbrev pub WritesCounted : {X : Type 0} → Result (List X × ℕ) Fault → Result ℕ Fault → List X → List X → Type 0
WritesCounted meaning answer before now =
    MatchResult answer (λ count. meaning ≡ Ok (now, count)) (λ f. (meaning ≡ Err f) × (now ≡ before))
