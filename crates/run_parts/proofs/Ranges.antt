-- Ranges of a vector: their lengths, and what is left of them.
use Rattle.std.proofs.Common.{◌≡◌, ◌∙◌, ℕ, ◌+◌, ◌-◌, ◌≤◌, List, length, take, drop, ap, arith, sym, take_at}
use Rattle.std.proofs.lemmas.List.{drop-drop, drop-take, length-drop, length-take-le}
use Rattle.std.proofs.Math.Seq.{take-add}
use Rattle.run_parts.specs.Runs.{range_of}

module _ {X : Type 0} where
  pub length-range : (from n : ℕ) (xs : List X) → from + n ≤ length xs → length (range_of from n xs) ≡ n
  length-range from n xs there = length-take-le n (drop from xs) (omega (arith, there, length-drop from xs))

  -- the elements of a range but for its first ones
  pub later-range : (from n more : ℕ) (xs : List X) → more ≤ n → drop more (range_of from n xs) ≡ range_of (from + more) (n - more) xs
  later-range from n more xs some =
      let whole : n ≡ more + (n - more) = omega (arith, some) in
      ap (λ k. drop more (take k (drop from xs))) whole ∙ drop-take more (n - more) (drop from xs) ∙ ap (take (n - more)) (drop-drop more from xs)

  -- the first elements of a range
  pub first-range : (from n less : ℕ) (xs : List X) → less ≤ n → from + n ≤ length xs → take less (range_of from n xs) ≡ range_of from less xs
  first-range from n less xs some there =
      let ys = drop from xs in
      let whole : n ≡ less + (n - less) = omega (arith, some) in
      let long : length (take less ys) ≡ less = length-range from less xs (omega (arith, some, there)) in
      ap (λ k. take less (take k ys)) whole ∙ ap (take less) (take-add less (n - less) ys) ∙ take_at (take less ys) (take (n - less) (drop less ys)) less long

  -- a range by the places of its ends
  pub by-ends : (from n more : ℕ) (xs : List X) → more ≤ n → range_of (from + more) (from + n - (from + more)) xs ≡ drop more (range_of from n xs)
  by-ends from n more xs some = ap (λ k. take k (drop (from + more) xs)) (omega (arith, some)) ∙ sym (later-range from n more xs some)
