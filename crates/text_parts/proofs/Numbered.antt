-- Lists whose elements are made of those of another list and their places.
use Rattle.std.proofs.Common.{◌≡◌, ◌∙◌, ◌+◌, ◌<◌, ◌++◌, ◌∷◌, [], ℕ, List, ap, arith, get_or, length, map, take}
use Rattle.std.proofs.lemmas.List.{get_or-map, length-map, take_more}
use Rattle.std.proofs.lemmas.List.FromFn.{get_or-enumerate_from, length-enumerate_from}
use Rattle.std.specs.List.{enumerate_from}

module _ {X : Type 0} (f : ℕ × X → ℕ) (xs : List X) where
  pub length-numbered : length (map f (enumerate_from 0 xs)) ≡ length xs
  length-numbered = length-map (enumerate_from 0 xs) f ∙ length-enumerate_from 0 xs

  pub numbered-more : (k : ℕ) (d : X) → k < length xs
      → take (k + 1) (map f (enumerate_from 0 xs)) ≡ take k (map f (enumerate_from 0 xs)) ++ f (k, get_or xs k d) ∷ []
  numbered-more k d within =
      let es = enumerate_from 0 xs in
      let at : 0 + k ≡ k = omega arith in
      take_more (map f es) k 0 (omega (arith, within, length-numbered))
      ∙ ap (λ n. take k (map f es) ++ n ∷ [])
      (get_or-map f es k (0, d) 0 (omega (arith, within, length-enumerate_from 0 xs)) ∙ ap f (get_or-enumerate_from 0 xs k (0, d) within) ∙ ap (λ m. f (m, get_or xs k d)) at)
