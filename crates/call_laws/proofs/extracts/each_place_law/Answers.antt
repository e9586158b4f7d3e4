use Rattle.call_laws.proofs.Cited.{◌≡◌, ◌<◌, ◌∙◌, ◌+ℤ◌, ◌*ℤ◌, ◌↔◌, ℕ, List, length, map, replicate, sym, ap, arith, pos, slice_get, Some, Ok, Result, range_with_len, length-replicate}
use Rattle.call_laws.proofs.Cited.{get_or-map-range_with_len, length-map-range_with_len, slice_get-get_or, distribute_of, index_of, wrap, as_length-fits, get_or-replicate, Fault}
use Rattle.call_laws.proofs.Places.{same_elements}
use Rattle.call_laws.proofs.extracts.each_place_law.Goals as goal

-- a list of n elements, told by its places
abbrev IsEachPlace : {X : Type 0} → ℕ → (ℕ → X) → List X → Type 0
IsEachPlace n value result = (length result ≡ n) × ((k : ℕ) → k < n → slice_get result k ≡ Some (value k))

only-made : {X : Type 0} (n : ℕ) (value : ℕ → X) (answer : Result (List X) Fault) (made result : List X) → answer ≡ Ok made → IsEachPlace n value made
    → (answer ≡ Ok result) ↔ IsEachPlace n value result
only-made n value answer made result gives is = (
  λ p. let same : made ≡ result = cc in (ap length (sym same) ∙ is.0, λ k below. ap (λ ys. slice_get ys k) (sym same) ∙ is.1 k below),
  λ other.
      let same : made ≡ result = same_elements made result (is.0 ∙ sym other.0) (λ k below. is.1 k (omega (arith, is.0)) ∙ sym (other.1 k (omega (arith, is.0)))) in
      gives ∙ ap Ok same,
)

pub returns : goal.returns
returns g c = record {
  distribute = λ value n result few.
      let made = replicate n value in
      only-made n (λ k. value) (distribute_of value (pos n)) made result (rw (as_length-fits n few)) (
        length-replicate n value,
        λ k below. slice_get-get_or made k value (omega (arith, length-replicate n value)) ∙ ap Some (get_or-replicate n k value value below),
      );
  index = λ init stride n result few.
      let value = λ (k : ℕ). wrap (init +ℤ pos k *ℤ stride) in
      let made = map value (range_with_len 0 n) in
      let long = length-map-range_with_len value 0 n in
      only-made n value (index_of init stride (pos n)) made result (rw (as_length-fits n few)) (
        long,
        λ k below. slice_get-get_or made k init (omega (arith, long)) ∙ ap Some (get_or-map-range_with_len value 0 n k k init below (omega arith)),
      );
}
