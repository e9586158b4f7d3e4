use Rattle.std.proofs.Common.{◌≡◌, ℕ, ◌+◌, ◌-◌, ◌<◌, ◌≤◌, Bool, true, ℤ, sym, ap, ◌∙◌, arith}
use Rattle.std.specs.Prelude.{◌<ℤ◌, int_lt}
use Rattle.std.specs.List.{list_all, range_with_len}
use Rattle.std.proofs.lemmas.Int.{ints}
use Rattle.std.proofs.lemmas.List.FromFn.{get_or-range_with_len, length-range_with_len}
use Rattle.std.proofs.lemmas.List.Sums.{AllPass-from_list_all, list_all-from_AllPass}
use Rattle.recipes.specs.Visibility.{is_steeper}
use Rattle.recipes.proofs.Greatest.{less_true}
use Rattle.recipes.proofs.recipe_laws.visibility_law.Goals as goal

true_less : (a b : ℤ) → int_lt a b ≡ true → a <ℤ b
true_less a b h = grind (arith, ints)

each_passes : (p : ℕ → Bool) (s n : ℕ) → list_all p (range_with_len s n) ≡ true → (j : ℕ) → s ≤ j → j < s + n → p j ≡ true
each_passes p s n all j above below =
    let there : s + (j - s) ≡ j = omega arith in
    ap p (sym (get_or-range_with_len s n (j - s) 0 (omega arith) ∙ there)) ∙ AllPass-from_list_all p (range_with_len s n) all (j - s) 0 (omega (arith, length-range_with_len s n))

all_pass : (p : ℕ → Bool) (s n : ℕ) → ((j : ℕ) → s ≤ j → j < s + n → p j ≡ true) → list_all p (range_with_len s n) ≡ true
all_pass p s n each = list_all-from_AllPass p (range_with_len s n) (λ k d below.
    let within : k < n = omega (arith, length-range_with_len s n) in ap p (get_or-range_with_len s n k d within) ∙ each (s + k) (omega arith) (omega arith))

pub returns : goal.returns
returns c altitudes i = (
  λ visible j above below. true_less _ _ (each_passes (is_steeper altitudes i) 1 (i - 1) visible j above (omega arith)),
  λ each. all_pass (is_steeper altitudes i) 1 (i - 1) (λ j above below. less_true _ _ (each j above (omega arith))),
)
