-- In whatever order the parts of a step are run, each leaves what `does` says of what it had before the step.
use Rattle.std.proofs.Common.{◌≡◌, ◌≢◌, ◌==◌, ◌+◌, ◌∙◌, ℕ, suc, true, false, List, [], ◌∷◌, length, slice_get, slice_set, Some, refl, sym, ap, arith, eqb, count_by, cond, subst, length-set}
use Rattle.std.proofs.Common.{⊎_elim}
use Rattle.std.proofs.lemmas.Bool.Decides.{eqb_tells}
use Rattle.std.proofs.lemmas.List.Sums.{sum_by-cons}
use Rattle.std.proofs.lemmas.Option.{same_Some, slice_get_within}
use Rattle.std.specs.List.{AllZip}
use Rattle.call_laws.proofs.ElementPlaces.{get-set_other, get-set_same}
use Rattle.step_laws.specs.Steps.{InParts, RunIn}

-- how often a number stands in an order that begins with another
counted : (j k : ℕ) (order : List ℕ) → count_by (λ i. i == k) (j ∷ order) ≡ cond (eqb j k) 1 0 + count_by (λ i. i == k) order
counted j k order = sum_by-cons (λ i. cond (i == k) 1 0) j order

module _ {S : Type 0} (does : S → S → Type 0) where
  -- a part that is not named stays as it was
  never : (order : List ℕ) (before after : List S) (k : ℕ) → count_by (λ j. j == k) order ≡ 0 → RunIn does order before after
      → slice_get after k ≡ slice_get before k
  never [] before after k none run = ap (λ xs. slice_get xs k) run
  never (j ∷ order) before after k none run =
      ⊎_elim
      (λ (is : (eqb j k ≡ true) × (j ≡ k)). let more : 1 + count_by (λ i. i == k) order ≡ 0 = rw (counted j k order, is.0) at none in absurd (omega (arith, more)))
      (λ (is : (eqb j k ≡ false) × (j ≢ k)). let rest : 0 + count_by (λ i. i == k) order ≡ 0 = rw (counted j k order, is.0) at none in
      never order (slice_set before j run.1) after k (omega (arith, rest)) run.4 ∙ get-set_other before j run.1 k (λ e. is.1 (sym e)))
      (eqb_tells j k)

  -- one that is named once leaves what it does
  once : (order : List ℕ) (before after : List S) (k : ℕ) (own : S) → slice_get before k ≡ Some own
      → count_by (λ j. j == k) order ≡ 1 → RunIn does order before after → (left : S) × does own left × (slice_get after k ≡ Some left)
  once [] before after k own here one run = absurd (omega (arith, one))
  once (j ∷ order) before after k own here one run =
      ⊎_elim
      (λ (is : (eqb j k ≡ true) × (j ≡ k)). let more : 1 + count_by (λ i. i == k) order ≡ 1 = rw (counted j k order, is.0) at one in
      let there : slice_get before k ≡ Some run.0 = subst (λ i. slice_get before i ≡ Some run.0) is.1 run.2 in
      let same : run.0 ≡ own = same_Some run.0 own (sym there ∙ here) in
      let set = get-set_same before j run.1 (slice_get_within before j run.0 run.2) in
      let now : slice_get (slice_set before j run.1) k ≡ Some run.1 = subst (λ i. slice_get (slice_set before j run.1) i ≡ Some run.1) is.1 set in
      (run.1, subst (λ x. does x run.1) same run.3, never order (slice_set before j run.1) after k (omega (arith, more)) run.4 ∙ now))
      (λ (is : (eqb j k ≡ false) × (j ≢ k)). let rest : 0 + count_by (λ i. i == k) order ≡ 1 = rw (counted j k order, is.0) at one in
      once order (slice_set before j run.1) after k own (get-set_other before j run.1 k (λ e. is.1 (sym e)) ∙ here) (omega (arith, rest)) run.4)
      (eqb_tells j k)

  as_long : (order : List ℕ) (before after : List S) → RunIn does order before after → length after ≡ length before
  as_long [] before after run = ap length run
  as_long (k ∷ order) before after run = as_long order (slice_set before k run.1) after run.4 ∙ length-set before k run.1

  each : (before after : List S) → length after ≡ length before
      → ((k : ℕ) (own : S) → slice_get before k ≡ Some own → (left : S) × does own left × (slice_get after k ≡ Some left)) → AllZip does before after
  each [] [] long at = tt
  each [] (y ∷ after) long at = absurd (omega (arith, long))
  each (x ∷ before) [] long at = absurd (omega (arith, long))
  each (x ∷ before) (y ∷ after) long at =
      let first = at 0 x refl in
      (subst (λ z. does x z) (sym (same_Some y first.0 first.2)) first.1, each before after (omega (arith, long)) (λ k own here. at (suc k) own here))

  pub in_any_order : (before after : List S) → InParts does before after → AllZip does before after
  in_any_order before after (order, all, run) =
      each before after (as_long order before after run)
      (λ k own here. once order before after k own here (all k (slice_get_within before k own here)) run)
