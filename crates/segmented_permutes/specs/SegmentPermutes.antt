-- What a permute by segments means: the places of each segment are sent to destinations, over what stands in the result before.
-- Source: CVL's segmented permutes, each of which permutes every segment by itself.
use Rattle.std.specs.Prelude.{◌≡◌, ℕ, ℤ, IfOk, IfSome, List, Option, Result, Ok}
use Rattle.cvl_base.specs.declared.fault.Fault.{Fault}
use Rattle.permute_walks.specs.declared.before.Before.{Before}
use Rattle.permute_walks.specs.Before.{IsPermuted}
use Rattle.segment_sends.specs.SegmentDestinations.{fault_from, senders_from}

-- the permute of a source, the segments of which are sent to these destinations, over what stands before means this
abbrev pub IsSegmentPermute : {X : Type 0} → List X → List (ℕ × List (Option ℤ)) → Before X → Result (List X) Fault → Type 0
IsSegmentPermute source segments before meaning = IsPermuted source before meaning (fault_from 0 segments) (senders_from 0 segments)

-- these elements are what the permute means
abbrev pub AreMeant : {X : Type 0} → List X → List (ℕ × List (Option ℤ)) → Before X → List X → Type 0
AreMeant {X} source segments before elements =
    (meaning : Result (List X) Fault) → IsSegmentPermute source segments before meaning → meaning ≡ Ok elements

-- the elements are such, if there was memory and one walk made them; the way of the permute stands beside them
abbrev pub IfMadeInOne : {V W E : Type 0} → Result (Option V × W) E → (V → Type 0) → Type 0
IfMadeInOne result are = IfOk result (λ made. IfSome made.0 are)
