-- The sums of tiles are folds of the runs of a list.
use Rattle.std.proofs.Common.{◌≡◌, refl, sym, ap, ◌∙◌, subst, ℕ, suc, ◌+◌, ◌-◌, ◌<◌, ◌≤◌, Bool, true, List, length, take, drop, get_or, IsTrue, arith, take-add, ⊎_elim}
use Rattle.std.proofs.lemmas.Bool.{cases_lt}
use Rattle.std.proofs.lemmas.List.{drop_more, get_or_past}
use Rattle.std.specs.List.{fold, AllPass}
use Rattle.std.proofs.lemmas.List.Elements.{All-take, All-drop}
use Rattle.std.proofs.lemmas.List.Sums.{fold_more}
use Rattle.operators.specs.Folds.{fold_of}
use Rattle.operators.specs.Monoid.{MonoidLaws}
use Rattle.operators.specs.SegmentMonoidLaws.{seg_laws}
use Rattle.operators.proofs.FoldLaws.{fold_from, fold_of_is_item, fold_of-append}
use Rattle.operators.proofs.tile_sums.know_sums.Goals as goal

module _ {S : Type 0} {is_sum : S → Bool} {e : S} {op : S → S → S} (laws : MonoidLaws is_sum e op) (sums : List S) (items : AllPass is_sum sums) where
  element_is_sum : (t : ℕ) → IsTrue (is_sum (get_or sums t e))
  element_is_sum t =
      ⊎_elim (λ (below : t < length sums). items t e below)
      (λ (past : length sums ≤ t). subst (λ x. IsTrue (is_sum x)) (sym (get_or_past sums t e past)) laws.unit_is_item)
      (cases_lt t (length sums))

  run_passes : (first n : ℕ) → AllPass is_sum (take n (drop first sums))
  run_passes first n = All-take (λ x. is_sum x ≡ true) n (drop first sums) (All-drop (λ x. is_sum x ≡ true) first sums items)

  -- one more at the front
  run_more : (first t : ℕ) → first < t → t ≤ length sums → fold_of op e (take (t - first) (drop first sums)) ≡ op (get_or sums first e) (fold_of op e (take (t - (first + 1)) (drop (first + 1) sums)))
  run_more first t below within =
      let n = t - (first + 1) in
      let one_more : t - first ≡ suc n = omega arith in
      ap (λ k. fold_of op e (take k (drop first sums))) one_more
      ∙ ap (λ xs. fold_of op e (take (suc n) xs)) (drop_more sums first e (omega arith))
      ∙ ap (λ b. fold op b (take n (drop (first + 1) sums))) (laws.left_unit (get_or sums first e) (element_is_sum first))
      ∙ fold_from laws (get_or sums first e) (take n (drop (first + 1) sums)) (element_is_sum first) (run_passes (first + 1) n)

  -- a front, and the run after it
  front_split : (first t : ℕ) → first ≤ t → op (fold_of op e (take first sums)) (fold_of op e (take (t - first) (drop first sums))) ≡ fold_of op e (take t sums)
  front_split first t within =
      let n = t - first in
      let whole : t ≡ first + n = omega arith in
      sym (ap (λ k. fold_of op e (take k sums)) whole
      ∙ ap (fold_of op e) (take-add first n sums)
      ∙ fold_of-append laws (take first sums) (take n (drop first sums)) (run_passes 0 first) (run_passes first n))

  run_none : (t : ℕ) → fold_of op e (take (t - t) (drop t sums)) ≡ e
  run_none t = let none : t - t ≡ 0 = omega arith in ap (λ k. fold_of op e (take k (drop t sums))) none

  run_all : (t : ℕ) → fold_of op e (take (t - 0) sums) ≡ fold_of op e (take t sums)
  run_all t = let all : t - 0 ≡ t = omega arith in ap (λ k. fold_of op e (take k sums)) all

pub returns : goal.returns
returns g c = λ sums items.
    let laws = seg_laws g.met.M.Monoid.laws in
    record {
      own = element_is_sum laws sums items;
      exclusive = λ t. fold_of_is_item laws (take t sums) (run_passes laws sums items 0 t);
      middle = λ first t. fold_of_is_item laws (take (t - first) (drop first sums)) (run_passes laws sums items first (t - first));
      none_before = refl;
      before_next = λ t below. fold_more _ _ sums t _ below;
      none_between = run_none laws sums items;
      one_more = run_more laws sums items;
      met = front_split laws sums items;
      all_between = run_all laws sums items;
    }
