-- A `&` to the places holds nothing. Assumes `Logic`.
use Rattle.fresh.proofs.Cited.{RattleType, RawPtr, Laws, copy_shared, nothing_shr_laws, field_copy, of_Lends, Lends-nothing}
use Rattle.core.specs.contracts.marker.PhantomData as marker
use Rattle.fresh.specs.contracts.cells.Cells as C
use Rattle.fresh.proofs.cells.Cells.TheLaw.Statement.{statement}

pub shares : (R : RattleType) (L : Laws R) → statement R L
shares R L =
    of_Lends (C.struct R) (C.the_codes R.Denot R.coded (marker.the_row RawPtr).coded) (C.the_heap R) (C.the_lent R) (λ d p. nothing_shr_laws)
    (copy_shared (marker.the_field RawPtr) (field_copy (marker.the_type RawPtr) tt), tt) (λ M 𝓤 𝓛 d p. Lends-nothing 𝓛 (C.the_heap R d) (C.the_row R).lives)
