-- What the parts up to one take, and what that one takes.
use Rattle.std.proofs.Common.{◌≡◌, ◌∙◌, ◌+◌, ◌<◌, ◌≤◌, ◌++◌, ◌∷◌, [], ℕ, List, ap, arith, get_or, length, map, sum, sym, take}
use Rattle.std.proofs.lemmas.List.{length-map, take-map}
use Rattle.std.proofs.lemmas.List.Sums.{sum-map, sum_by_from, sum_by_more, sum_by_more_le}
use Rattle.operators.proofs.FoldLaws.{scan_of_more}
use Rattle.cvl_base.specs.Folds.{fold_of, scan_of}

module _ (f : ℕ → ℕ) (xs : List ℕ) (k : ℕ) (within : k < length xs) where
  pub taken-more : sum (map f (take (k + 1) xs)) ≡ sum (map f (take k xs)) + f (get_or xs k 0)
  taken-more = omega (arith, sum_by_more f xs k 0 within, sum-map f (take (k + 1) xs), sum-map f (take k xs))

  pub taken-within : sum (map f (take k xs)) + f (get_or xs k 0) ≤ sum (map f xs)
  taken-within = omega (arith, sum_by_more_le f xs k 0 within, sum-map f xs, sum-map f (take k xs))

  pub scan-more : scan_of ◌+◌ 0 (map f (take (k + 1) xs)) ≡ scan_of ◌+◌ 0 (map f (take k xs)) ++ sum (map f (take k xs)) ∷ []
  scan-more =
      let ns = map f xs in
      let folded : fold_of ◌+◌ 0 (take k ns) ≡ 0 + sum (take k ns) = sum_by_from (λ n. n) 0 (take k ns) in
      let so_far : fold_of ◌+◌ 0 (take k ns) ≡ sum (take k ns) = omega (arith, folded) in
      ap (scan_of ◌+◌ 0) (sym (take-map f (k + 1) xs)) ∙ scan_of_more ◌+◌ 0 ns k (omega (arith, within, length-map xs f))
      ∙ (λ i. scan_of ◌+◌ 0 (take-map f k xs i) ++ so_far i ∷ []) ∙ ap (λ ms. scan_of ◌+◌ 0 (map f (take k xs)) ++ sum ms ∷ []) (take-map f k xs)
