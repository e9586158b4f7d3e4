-- Lists one after another, the last of which the end of a room cuts short.
use Rattle.std.proofs.Common.{◌≡◌, ◌++◌, ◌+◌, ◌-◌, ◌<◌, ◌∙◌, ℕ, zero, suc, List, [], ◌∷◌, length, take, drop, get_or, min, replicate, sym, ap, arith}
use Rattle.std.proofs.lemmas.List.{drop_more, length-replicate, take-replicate, take_min}
use Rattle.cvl_base.proofs.Lists.{uncons}
use Rattle.cvl_base.specs.Lists.{joined}
use Rattle.pack_dist.specs.Lists.{copies_of}

module _ {X : Type 0} where
  pub take-both : (n : ℕ) (xs more : List X) → take n (xs ++ more) ≡ take n xs ++ take (n - length xs) more
  take-both zero xs more = let none : 0 - length xs ≡ 0 = omega arith in sym (ap (λ k. take k more) none)
  take-both (suc n) [] more = let same : suc n - 0 ≡ suc n = omega arith in sym (ap (λ k. take k more) same)
  take-both (suc n) (x ∷ xs) more =
      let same : suc n - length (x ∷ xs) ≡ n - length xs = omega arith in
      ap (λ ys. x ∷ ys) (take-both n xs more) ∙ sym (ap (λ k. (x ∷ take n xs) ++ take k more) same)

  -- copies as far as there is room
  pub copies-cut : (room n count : ℕ) (value : X) → count ≡ min n room → replicate count value ≡ take room (replicate n value)
  copies-cut room n count value is =
      let few : min room (length (replicate n value)) ≡ count = omega (arith, is, length-replicate n value) in
      sym (take-replicate count n value (omega (arith, is))) ∙ ap (λ k. take k (replicate n value)) (sym few) ∙ take_min room (replicate n value)

  -- the copies of one more segment
  pub copies-more : (values : List X) (lengths : List ℕ) (s : ℕ) (value : X) → s < length values → s < length lengths → value ≡ get_or values s value
      → joined (copies_of (drop s values) (drop s lengths)) ≡ replicate (get_or lengths s 0) value ++ joined (copies_of (drop (s + 1) values) (drop (s + 1) lengths))
  copies-more values lengths s value here also is =
      let v : drop s values ≡ value ∷ drop (s + 1) values = uncons values s value here is in
      let n : drop s lengths ≡ get_or lengths s 0 ∷ drop (s + 1) lengths = drop_more lengths s 0 also in
      λ i. joined (copies_of (v i) (n i))
