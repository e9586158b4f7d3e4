use Rattle.call_laws.proofs.Cited.{◌≡◌, ◌+◌, ◌∷◌, ℕ, zero, suc, true, false, List, [], length, map, refl, ap, arith, ℤ, pos, negsuc, slice_get, Some, None, Err, false≢true, ltb-true, ltb-false}
use Rattle.call_laws.proofs.Cited.{none-some, same_Some, values_from, element_at, fault_at, is_place, element, slice_get_past, IndexOutOfRange, AreWithin}
use Rattle.call_laws.proofs.permuted.back_fault_law.Goals as goal

element-within : {X : Type 0} (source : List X) (i : ℤ) → is_place (length source) i ≡ true → (x : X) × (element_at source i ≡ Some x)
element-within source (pos d) inside = element source d (ltb-true d (length source) inside)
element-within source (negsuc d) inside = absurd (false≢true inside)

element-outside : {X : Type 0} (source : List X) (i : ℤ) → is_place (length source) i ≡ false → element_at source i ≡ None
element-outside source (pos d) out = slice_get_past source d (ltb-false d (length source) out)
element-outside source (negsuc d) out = refl

-- the fault of a list of values is at the first that is missing
missing_at : {X : Type 0} (source : List X) (place : ℕ) (index : List ℤ) (k : ℕ) (i : ℤ) → AreWithin (length source) index k → slice_get index k ≡ Some i → is_place (length source) i ≡ false
    → values_from IndexOutOfRange place (map (element_at source) index) ≡ Err (fault_at IndexOutOfRange (place + k))
missing_at source place [] k i within here out = absurd (none-some i here)
missing_at source place (e ∷ index) zero i within here out =
    rw (same_Some e i here, element-outside source i out) (ap (λ n. Err (fault_at IndexOutOfRange n)) (omega arith))
missing_at source place (e ∷ index) (suc k) i within here out =
    let first = element-within source e (within 0 e (omega arith) refl) in
    rw (first.1, missing_at source (place + 1) index k i (λ j e below there. within (suc j) e (omega arith) there) here out)
    (ap (λ n. Err (fault_at IndexOutOfRange n)) (omega arith))

pub returns : goal.returns
returns g c = λ source index k i within here out. rw (missing_at source 0 index k i within here out) (ap (λ n. Err (fault_at IndexOutOfRange n)) (omega arith))
