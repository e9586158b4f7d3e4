-- Even places ascend, from 0 to the number of elements.
use Rattle.std.proofs.Common.{◌≡◌, ◌∙◌, ◌+◌, ◌/◌, ◌<◌, ◌≤◌, ℕ, zero, suc, map, length, sym, ap, arith, subst, le-div_iff_mul-le}
use Rattle.std.proofs.lemmas.List.FromFn.{length-map-range_with_len}
use Rattle.std.specs.List.{range_with_len}
use Rattle.part_cuts.specs.Evenly.{even_place, even_places}
use Rattle.step_laws.specs.CutSegments.{AscendFrom, CutIntoParts}

module _ (f : ℕ → ℕ) (len : ℕ) where
  -- what a function that ascends gives of numbers in order
  ascend-on : (k n : ℕ) → ((j : ℕ) → j < k + n → f j < f (j + 1)) → f (k + n) ≡ len → AscendFrom (f k) (map f (range_with_len (k + 1) n)) len
  ascend-on k zero up last = let none : k ≡ k + zero = omega arith in ap f none ∙ last
  ascend-on k (suc n) up last =
      let next : (k + 1) + n ≡ k + suc n = omega arith in
      (up k (omega arith), ascend-on (k + 1) n (λ j less. up j (omega (arith, less))) (ap f next ∙ last))

module _ (len parts : ℕ) where
  pub many-places : length (even_places len parts) ≡ parts + 1
  many-places = length-map-range_with_len (even_place len parts) 0 (parts + 1)

  pub first-place : even_place len parts 0 ≡ 0
  first-place = omega arith

  pub last-place : 1 ≤ parts → even_place len parts parts ≡ len
  last-place some = omega arith

  pub next-place : 1 ≤ parts → parts ≤ len → (k : ℕ) → even_place len parts k < even_place len parts (k + 1)
  next-place some few k =
      let enough : 1 ≤ len / parts = (le-div_iff_mul-le some).1 (omega (arith, few)) in
      omega (arith, enough)

  pub even-cut : 1 ≤ parts → parts ≤ len → CutIntoParts (even_places len parts) len
  even-cut some few =
      let more : parts + 1 ≡ suc parts = omega arith in
      let last : even_place len parts (0 + parts) ≡ len = let same : 0 + parts ≡ parts = omega arith in ap (even_place len parts) same ∙ last-place some in
      subst (λ n. CutIntoParts (map (even_place len parts) (range_with_len 0 n)) len) (sym more)
      (first-place, omega (arith, some, few), ascend-on (even_place len parts) len 0 parts (λ j less. next-place some few j) last)
