use Rattle.std.proofs.Common.{◌≡◌, ◌+◌, ◌≤◌, ◌∙◌, ℕ, ℤ, pos, List, map, sum, Ok, refl, sym, ap, arith, subst}
use mathlib.Core.List.{map-map}
use Rattle.call_table.specs.declared.families.IntMonoid.TheVariants.{Add}
use Rattle.cvl_base.specs.Folds.{fold_of}
use Rattle.cvl_base.specs.Integers.{sum_of}
use Rattle.cvl_base.specs.Limits.{most_places}
use Rattle.cvl_base.specs.Packs.{count_of}
use Rattle.cvl_base.specs.Scans.{int_join_of, int_unit_of}
use Rattle.step_laws.proofs.AnyOrder.{in_any_order}
use Rattle.step_laws.proofs.Answered.{is_given, past_limit, within}
use Rattle.step_laws.proofs.Counted.{added, counted-parts, no-more}
use Rattle.step_laws.proofs.Operators.{int_laws}
use Rattle.step_laws.proofs.Parted.{alike}
use Rattle.step_laws.proofs.Scanned.{told-sum}
use Rattle.step_laws.specs.CountSteps.{Counts}
use Rattle.step_laws.specs.Parts.{Part, elements_of, told_of}
use Rattle.c_calls.specs.Numbers.{int_monoid}
use Rattle.c_calls.specs.Told.{Told, done}
use Rattle.flag_calls.specs.Flags.{flags_of}
use Rattle.step_laws.proofs.counts.counts_by_steps.Goals as goal

pub returns : goal.returns
returns c = λ op start counted before now is_add few first joins.
    let parts : List (List ℕ) = map (λ (p : Part ℕ ℤ ℤ). p.elements) start in
    let tells : told_of counted ≡ map (λ (p : Part ℕ ℤ ℤ). pos (count_of (flags_of p.elements))) start =
    alike Counts (λ (p : Part ℕ ℤ ℤ). pos (count_of (flags_of p.elements))) (λ (p : Part ℕ ℤ ℤ). p.told)
    (λ own left does. sym (past_limit _ _ (pos (count_of (flags_of own.elements))) left.told (is_given _ own.told left.told does.0)))
    start counted (in_any_order Counts start counted first) in
    let counts : List ℕ = map (λ bytes. count_of (flags_of bytes)) parts in
    let listed : map (λ (p : Part ℕ ℤ ℤ). pos (count_of (flags_of p.elements))) start ≡ map pos counts =
    sym (ap (map pos) (map-map (λ bytes. count_of (flags_of bytes)) (λ (p : Part ℕ ℤ ℤ). p.elements) start)
    ∙ map-map pos (λ (p : Part ℕ ℤ ℤ). count_of (flags_of p.elements)) start) in
    let total : count_of (flags_of (elements_of start)) ≡ sum counts = counted-parts parts in
    let few_counted : 0 + sum counts ≤ most_places = omega (arith, total, no-more (elements_of start), few) in
    let sum_is : fold_of sum_of (pos 0) (told_of counted) ≡ now = told-sum int_unit_of int_join_of int_laws (int_monoid op) Add is_add (told_of counted) before now joins in
    let whole : now ≡ pos (count_of (flags_of (elements_of start))) =
    sym sum_is ∙ ap (fold_of sum_of (pos 0)) (tells ∙ listed) ∙ added 0 counts few_counted ∙ ap pos (omega (arith, total)) in
    subst (λ m. Told m done before now) (sym (within (elements_of start) (Ok (pos (count_of (flags_of (elements_of start))))) few)) (refl, whole)
