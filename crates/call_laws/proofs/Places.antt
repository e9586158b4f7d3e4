-- Elements of lists by their places.
use Rattle.call_laws.proofs.Cited.{◌≡◌, ◌∙◌, ◌<◌, ◌∷◌, ℕ, zero, suc, List, [], length, take, refl, sym, ap, arith, slice_get, unwrap_or, Some, none-some, same_lists, unwrap_or-slice_get}

pub slice_get-take : {A : Type 0} (xs : List A) (n k : ℕ) → k < n → slice_get (take n xs) k ≡ slice_get xs k
slice_get-take xs zero k below = absurd (omega arith)
slice_get-take [] (suc n) k below = refl
slice_get-take (x ∷ xs) (suc n) zero below = refl
slice_get-take (x ∷ xs) (suc n) (suc k) below = slice_get-take xs n k (omega arith)

-- what a front has at a place stands below its length, and in the list
pub slice_get_in_front : {A : Type 0} (xs : List A) (n k : ℕ) (x : A) → slice_get (take n xs) k ≡ Some x → (k < n) × (slice_get xs k ≡ Some x)
slice_get_in_front xs zero k x p = absurd (none-some x p)
slice_get_in_front [] (suc n) k x p = absurd (none-some x p)
slice_get_in_front (a ∷ xs) (suc n) zero x p = (omega arith, p)
slice_get_in_front (a ∷ xs) (suc n) (suc k) x p = let rest = slice_get_in_front xs n k x p in (omega arith, rest.1)

pub same_elements : {A : Type 0} (xs ys : List A) → length xs ≡ length ys → ((k : ℕ) → k < length xs → slice_get xs k ≡ slice_get ys k) → xs ≡ ys
same_elements xs ys long same =
    same_lists xs ys long (λ k d within. sym (unwrap_or-slice_get xs k d) ∙ ap (λ o. unwrap_or o d) (same k within) ∙ unwrap_or-slice_get ys k d)
