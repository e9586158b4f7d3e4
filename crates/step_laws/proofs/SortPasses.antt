-- Passes of a sort by steps, of which those by a digit that all keys have in common are left out.
use Rattle.std.proofs.Common.{◌≡◌, ◌∙◌, ℕ, ◌<◌, ◌≤◌, ℤ, Bool, true, false, cond, All, FitsSigned, List, [], ◌∷◌, ap, arith, length, refl, sym, w32, ◌*◌}
use Rattle.std.specs.List.{AllByRecursion, filter}
use Rattle.std.proofs.lemmas.List.Sorted.{All-permutation, length_permutation}
use Rattle.std.specs.List.Sorted.{IsPermutation}
use Rattle.cvl_base.specs.Limits.{most_places}
use Rattle.orders.proofs.Ranks.{IsPermutation-stably_sorted}
use Rattle.orders.proofs.TwoOrders.{less_number}
use Rattle.stable_sorts.proofs.Alike.{alike_stay}
use Rattle.stable_sorts.proofs.InParts.{three_passes}
use Rattle.stable_sorts.specs.Keys.{sorted_by_key}
use Rattle.stable_sorts.specs.Passes.{by_digit}
use Rattle.stable_sorts.specs.Steps.{digit_of_pass}
use Rattle.step_laws.proofs.SortPass.{pass_is}
use Rattle.step_laws.specs.SortParts.{result_of, whole_of}
use Rattle.step_laws.specs.SortSteps.{ByPasses}

-- the numbers of passes
abbrev pub ArePasses : List ℕ → Type 0
ArePasses passes = AllByRecursion (λ pass. pass < 3) passes

some_passes : (made : ℕ → Bool) (passes : List ℕ) → ArePasses passes → ArePasses (filter made passes)
some_passes made [] small = tt
some_passes made (pass ∷ passes) (below, small) = choose (made pass) (some_passes made passes small) where
  choose : (b : Bool) → ArePasses (filter made passes) → ArePasses (cond b (pass ∷ filter made passes) (filter made passes))
  choose true rest = (below, rest)
  choose false rest = rest

module _ {X : Type 0} (key : X → ℤ) where
  abbrev by_pass : ℕ → List X → List X
  by_pass pass xs = by_digit (λ x. digit_of_pass pass (key x)) xs

  -- by the digit of each pass in turn
  abbrev by_passes : List ℕ → List X → List X
  by_passes [] xs = xs
  by_passes (pass ∷ passes) xs = by_passes passes (by_pass pass xs)

  permuted : (pass : ℕ) (xs : List X) → IsPermutation xs (by_pass pass xs)
  permuted pass xs = IsPermutation-stably_sorted (less_number (λ x. digit_of_pass pass (key x))) xs

  -- what passes by steps leave
  run : (passes : List ℕ) → ArePasses passes → (xs after : List X) → length xs ≤ most_places → ByPasses key passes xs after → after ≡ by_passes passes xs
  run [] small xs after few is = is
  run (pass ∷ passes) (below, small) xs after few (start, end, whole, steps, others) =
      let fewer : length (whole_of start) ≤ most_places = omega (arith, ap length whole, few) in
      let made : result_of end ≡ by_pass pass xs = pass_is key pass below start end fewer steps ∙ ap (by_pass pass) whole in
      let long : length (result_of end) ≤ most_places = omega (arith, ap length made, length_permutation xs (by_pass pass xs) (permuted pass xs), few) in
      run passes small (result_of end) after long others ∙ ap (by_passes passes) made

  -- a pass by a digit that all keys have in common may be left out
  abbrev HaveCommon : (ℕ → Bool) → (ℕ → ℕ) → List X → Type 0
  HaveCommon made common xs = (pass : ℕ) → pass < 3 → made pass ≡ false → All (λ x. digit_of_pass pass (key x) ≡ common pass) xs

  left_out : (made : ℕ → Bool) (common : ℕ → ℕ) → ((pass : ℕ) → common pass < 2048) → (passes : List ℕ) → ArePasses passes → (xs : List X)
      → HaveCommon made common xs → by_passes (filter made passes) xs ≡ by_passes passes xs
  left_out made common digits [] small xs shared = refl
  left_out made common digits (pass ∷ passes) (below, small) xs shared =
      choose (made pass) refl
      (left_out made common digits passes small (by_pass pass xs)
      (λ other in_passes not_made. All-permutation (λ x. digit_of_pass other (key x) ≡ common other) xs (by_pass pass xs) (permuted pass xs) (shared other in_passes not_made)))
      (left_out made common digits passes small xs shared) where
        choose : (b : Bool) → made pass ≡ b → by_passes (filter made passes) (by_pass pass xs) ≡ by_passes passes (by_pass pass xs)
            → by_passes (filter made passes) xs ≡ by_passes passes xs → by_passes (filter made (pass ∷ passes)) xs ≡ by_passes (pass ∷ passes) xs
        choose true is moved stays = ap (λ t. by_passes (cond t (pass ∷ filter made passes) (filter made passes)) xs) is ∙ moved
        choose false is moved stays =
            ap (λ t. by_passes (cond t (pass ∷ filter made passes) (filter made passes)) xs) is ∙ stays
            ∙ ap (by_passes passes) (sym (alike_stay key (11 * pass) 11 (common pass) xs (digits pass) (shared pass below is)))

  pub passes_sort : (made : ℕ → Bool) (common : ℕ → ℕ) → ((pass : ℕ) → common pass < 2048) → (xs after : List X) → length xs ≤ most_places
      → All (λ x. FitsSigned w32 (key x)) xs → HaveCommon made common xs → ByPasses key (filter made (0 ∷ 1 ∷ 2 ∷ [])) xs after → after ≡ sorted_by_key key xs
  passes_sort made common digits xs after few fit shared passes =
      let all : ArePasses (0 ∷ 1 ∷ 2 ∷ []) = (omega arith, (omega arith, (omega arith, tt))) in
      run (filter made (0 ∷ 1 ∷ 2 ∷ [])) (some_passes made (0 ∷ 1 ∷ 2 ∷ []) all) xs after few passes
      ∙ left_out made common digits (0 ∷ 1 ∷ 2 ∷ []) all xs shared ∙ three_passes key xs fit
