-- What a flat permute means: its places are sent to destinations, over what stands in the result before.
-- Source: CVL's permutes, d[i[k]] = s[k].
use Rattle.std.specs.Prelude.{ℤ, List, length, Option, Result}
use Rattle.cvl_base.specs.declared.fault.Fault.{Fault}
use Rattle.cvl_base.specs.Permutes.{first_fault, wrongs}
use Rattle.permute_walks.specs.declared.before.Before.{Before}
use Rattle.permute_walks.specs.Before.{IsPermuted, values_of}
use Rattle.permute_walks.specs.Senders.{senders_of}

-- the permute of a source, whose elements are sent to these destinations, over what stands before means this
abbrev pub IsFlatPermute : {X : Type 0} → List X → List (Option ℤ) → Before X → Result (List X) Fault → Type 0
IsFlatPermute source destinations before meaning = IsPermuted source before meaning
    (first_fault 0 (wrongs (length (values_of before)) destinations)) (senders_of 0 destinations (length (values_of before)))
