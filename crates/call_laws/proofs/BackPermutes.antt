-- What a back permute gives.
use Rattle.call_laws.proofs.Cited.{◌≡◌, ◌∙◌, ◌↔◌, List, length, map, sym, ap, arith, ℤ, slice_get, option_map, Some, None, Ok, Option, length-map, slice_get-map, element_at, back_of, element}
use Rattle.call_laws.proofs.Cited.{IndexOutOfRange, IsBackPermute}
use Rattle.call_laws.proofs.LeastFaults.{values-meaning}
use Rattle.call_laws.proofs.Places.{same_elements}

unmapped : {X : Type 0} (o p : Option X) → Some p ≡ option_map (λ x. Some x) o → o ≡ p
unmapped None p same = cc
unmapped (Some x) p same = cc

pub back-meaning : {X : Type 0} (source : List X) (index : List ℤ) (result : List X) → (back_of source index ≡ Ok result) ↔ IsBackPermute source index result
back-meaning {X = X} source index result =
    let values = values-meaning IndexOutOfRange 0 (map (element_at source) index) result in
    let some = λ (x : X). Some x in
    let read = length-map index (element_at source) in
    let made = length-map result some in (
      λ p.
          let same = values.0 p in
          record {
            as_long = omega (arith, ap length same);
            taken = λ k i here. unmapped (slice_get result k) (element_at source i)
                (sym (slice_get-map (element_at source) index k ∙ ap (option_map (element_at source)) here) ∙ ap (λ vs. slice_get vs k) same ∙ slice_get-map some result k);
          },
      λ is. values.1 (same_elements (map (element_at source) index) (map some result) (omega (arith, is.as_long)) (λ k within.
          let i = element index k (omega arith) in
          let x = element result k (omega (arith, is.as_long)) in
          rw (slice_get-map (element_at source) index k, slice_get-map some result k, i.1, x.1, ← is.taken k i.0 i.1, x.1))),
    )
