-- A `&` to a deed holds nothing. Assumes `Logic`.
use Rattle.fresh.proofs.Cited.{RattleType, RawPtr, Laws, copy_shared, nothing_shr_laws, field_copy, of_Lends, Lends-nothing, Ghosts}
use Rattle.core.specs.contracts.marker.PhantomData as marker
use Rattle.fresh.specs.contracts.block.Deed as C
use Rattle.fresh.proofs.block.Deed.TheLaw.Statement.{statement}

pub shares : (K A : RattleType) (g : Ghosts A.Denot) (L : Laws K) (P : Laws A) → statement K A g L P
shares K A g L P =
    of_Lends (C.struct K A g) (C.the_codes K.Denot A.Denot K.coded A.coded (marker.the_row RawPtr).coded) (C.the_heap K A g) (C.the_lent K A g) (λ d p. nothing_shr_laws)
    (copy_shared (marker.the_field RawPtr) (field_copy (marker.the_type RawPtr) tt), tt) (λ M 𝓤 𝓛 d p. Lends-nothing 𝓛 (C.the_heap K A g d) (C.the_row K A g).lives)
