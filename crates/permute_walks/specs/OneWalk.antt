-- What one walk over all places makes of a permute: the elements, or none if a place is bad.
-- Source: CVL's permutes, which have elements only if no index is outside or repeated.
use Rattle.std.specs.Prelude.{IfOk, IfSome, Option, Result}

-- the elements are such, if the walk had memory and made some
abbrev pub IfMade : {V E : Type 0} → Result (Option V) E → (V → Type 0) → Type 0
IfMade result are = IfOk result (λ made. IfSome made are)
