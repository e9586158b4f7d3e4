-- Elements and sums of lists.
use Rattle.std.proofs.Common.{◌≡◌, ◌∙◌, ℕ, ◌+◌, ◌<◌, Bool, true, false, cond, List, [], ◌∷◌, length, drop, get_or, sym, ap, refl, arith, slice_get, Some, None}
use Rattle.std.specs.Prelude.{sum}
use Rattle.std.proofs.lemmas.List.{drop_more}
use Rattle.std.proofs.lemmas.List.Sums.{sum_by-cons}
use Rattle.std.proofs.lemmas.Option.{slice_get-get_or}

pub sum-cons : (n : ℕ) (ns : List ℕ) → sum (n ∷ ns) ≡ n + sum ns
sum-cons n ns = sum_by-cons (λ x. x) n ns

-- what is left of a list from a place on, where an element stands there
pub uncons : {X : Type 0} (xs : List X) (k : ℕ) (x : X) → k < length xs → x ≡ get_or xs k x → drop k xs ≡ x ∷ drop (k + 1) xs
uncons xs k x lt is = drop_more xs k x lt ∙ ap (λ y. y ∷ drop (k + 1) xs) (sym is)

-- there is an element at each place
pub element : {X : Type 0} (xs : List X) (k : ℕ) → k < length xs → (x : X) × (slice_get xs k ≡ Some x)
element [] k lt = absurd (omega arith)
element (x ∷ xs) k lt = (get_or (x ∷ xs) k x, slice_get-get_or (x ∷ xs) k x lt)

-- a test that gave nothing failed
pub not_found : (b : Bool) (n : ℕ) → cond b (Some n) None ≡ None → b ≡ false
not_found true n e = cc
not_found false n e = refl
