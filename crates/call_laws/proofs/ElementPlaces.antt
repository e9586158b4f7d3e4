-- Extracts and replaces, place by place.
use Rattle.call_laws.proofs.Cited.{◌≡◌, ◌≢◌, ◌<◌, ◌∷◌, ◌∙◌, if◌then◌else◌, ◌↔◌, ℕ, zero, suc, Bool, true, false, List, [], length, refl, sym, ap, arith, inl, inr, pos, lt-ltb, nat_lt, slice_get}
use Rattle.call_laws.proofs.Cited.{Some, None, Ok, Option, ok_or, ltb-true, eqb_tells, slice_get_within, extract_of, replace_of, fault_at, slice_set, get_or-set_same, length-set, slice_get_read}
use Rattle.call_laws.proofs.Cited.{Fault}
use Rattle.cvl_base.specs.declared.fault.FaultNo.TheVariants as no
use Rattle.call_laws.proofs.Places.{same_elements}

-- ---- extract

from-Some : {X : Type 0} (o : Option X) (f : Fault) (x : X) → ok_or o f ≡ Ok x → o ≡ Some x
from-Some None f x p = cc
from-Some (Some y) f x p = let e : y ≡ x = cc in ap Some e

pub extract-meaning : {X : Type 0} (xs : List X) (k : ℕ) (x : X) → (extract_of xs (pos k) ≡ Ok x) ↔ (slice_get xs k ≡ Some x)
extract-meaning xs k x = (from-Some (slice_get xs k) (fault_at no.IndexOutOfRange 0) x, ap (λ o. ok_or o (fault_at no.IndexOutOfRange 0)))

-- ---- replace

pub get-set_same : {X : Type 0} (xs : List X) (k : ℕ) (x : X) → k < length xs → slice_get (slice_set xs k x) k ≡ Some x
get-set_same xs k x within = slice_get_read (slice_set xs k x) (length xs) k x (sym (length-set xs k x)) within (sym (get_or-set_same xs k x x within))

pub get-set_other : {X : Type 0} (xs : List X) (k : ℕ) (x : X) (j : ℕ) → j ≢ k → slice_get (slice_set xs k x) j ≡ slice_get xs j
get-set_other [] k x j other = refl
get-set_other (y ∷ xs) zero x zero other = absurd (other refl)
get-set_other (y ∷ xs) zero x (suc j) other = refl
get-set_other (y ∷ xs) (suc k) x zero other = refl
get-set_other (y ∷ xs) (suc k) x (suc j) other = get-set_other xs k x j (λ same. other (ap suc same))

-- the vector with another element at a place, told by its places
abbrev pub IsReplaced : {X : Type 0} → List X → ℕ → X → List X → Type 0
IsReplaced xs k x result = (length result ≡ length xs) × (slice_get result k ≡ Some x) × ((j : ℕ) → j ≢ k → slice_get result j ≡ slice_get xs j)

pub replace-inside : {X : Type 0} (xs : List X) (k : ℕ) (x : X) → k < length xs → replace_of xs (pos k) x ≡ Ok (slice_set xs k x)
replace-inside xs k x within = rw (lt-ltb k (length xs) within)

-- a replace that has a result took a place of the vector
kept_if : {X : Type 0} (b : Bool) (f : Fault) (made result : X) → ok_or (if b then Some made else None) f ≡ Ok result → (b ≡ true) × (made ≡ result)
kept_if true f made result p = (refl, cc)
kept_if false f made result p = cc

replace-from : {X : Type 0} (xs : List X) (k : ℕ) (x : X) (result : List X) → replace_of xs (pos k) x ≡ Ok result → IsReplaced xs k x result
replace-from xs k x result p =
    let parts = kept_if (nat_lt k (length xs)) (fault_at no.IndexOutOfRange 0) (slice_set xs k x) result p in
    let within : k < length xs = ltb-true k (length xs) parts.0 in
    let made = sym parts.1 in
    (ap length made ∙ length-set xs k x, ap (λ ys. slice_get ys k) made ∙ get-set_same xs k x within, λ j other. ap (λ ys. slice_get ys j) made ∙ get-set_other xs k x j other)

replace-to : {X : Type 0} (xs : List X) (k : ℕ) (x : X) (result : List X) → IsReplaced xs k x result → replace_of xs (pos k) x ≡ Ok result
replace-to xs k x result is =
    let long : length result ≡ length xs = is.0 in
    let set : length (slice_set xs k x) ≡ length xs = length-set xs k x in
    let below : k < length result = slice_get_within result k x is.1 in
    let within : k < length xs = omega arith in
    replace-inside xs k x within
    ∙ ap Ok (same_elements (slice_set xs k x) result (omega arith) (λ j below.
    elim (eqb_tells j k) [
      | inl t ↦ ap (slice_get (slice_set xs k x)) t.1 ∙ get-set_same xs k x within ∙ sym is.1 ∙ ap (slice_get result) (sym t.1)
      | inr t ↦ get-set_other xs k x j t.1 ∙ sym (is.2 j t.1)
    ]))

pub replace-meaning : {X : Type 0} (xs : List X) (k : ℕ) (x : X) (result : List X) → (replace_of xs (pos k) x ≡ Ok result) ↔ IsReplaced xs k x result
replace-meaning xs k x result = (replace-from xs k x result, replace-to xs k x result)
