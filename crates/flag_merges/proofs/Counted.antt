-- The counts of flags, whether they fit two vectors, and what a merge then gives.
use Rattle.std.proofs.Common.{◌≡◌, ◌≢◌, ◌∙◌, ℕ, suc, ◌+◌, ◌&&◌, Bool, true, false, cond, not, List, [], ◌∷◌, ◌++◌, length, map, refl, ap, arith, eq-eqb, eqb, Ok, Err}
use Rattle.std.proofs.lemmas.Bool.{and_parts, eqb-true, ne_eqb}
use Rattle.std.proofs.lemmas.List.{map-append}
use Rattle.std.proofs.lemmas.List.Sums.{sum_by-append}
use Rattle.cvl_base.specs.declared.fault.Fault.{Fault}
use Rattle.cvl_base.specs.Gives.{fault_if}
use Rattle.cvl_base.specs.Packs.{count_of}
use Rattle.cvl_base.proofs.Packs.{count-cons}
use Rattle.flag_merges.specs.Merges.{are_counts, merge_or, merged}

one_of_both : (flag : Bool) → cond flag 1 0 + cond (not flag) 1 0 ≡ 1
one_of_both true = refl
one_of_both false = refl

-- each flag is true or false
pub counts_both : (flags : List Bool) → count_of flags + count_of (map not flags) ≡ length flags
counts_both [] = refl
counts_both (flag ∷ flags) = omega (arith, count-cons flag flags, count-cons (not flag) (map not flags), one_of_both flag, counts_both flags)

pub count-append : (flags others : List Bool) → count_of (flags ++ others) ≡ count_of flags + count_of others
count-append flags others = sum_by-append (λ (f : Bool). cond f 1 0) flags others

pub count-append-not : (flags others : List Bool) → count_of (map not (flags ++ others)) ≡ count_of (map not flags) + count_of (map not others)
count-append-not flags others = ap count_of (map-append not flags others) ∙ count-append (map not flags) (map not others)

module _ (flags : List Bool) (trues falses : ℕ) where
  pub are_fitting : count_of flags ≡ trues → count_of (map not flags) ≡ falses → are_counts flags trues falses ≡ true
  are_fitting t f = λ i. eq-eqb (count_of flags) trues t i && eq-eqb (count_of (map not flags)) falses f i

  pub others_false : count_of flags ≡ trues → count_of (map not flags) ≢ falses → are_counts flags trues falses ≡ false
  others_false t f = λ i. eq-eqb (count_of flags) trues t i && ne_eqb (count_of (map not flags)) falses f i

  pub trues_fit : are_counts flags trues falses ≡ true → count_of flags ≡ trues
  trues_fit is = eqb-true (count_of flags) trues (and_parts (eqb (count_of flags) trues) (eqb (count_of (map not flags)) falses) is).0

  pub falses_fit : are_counts flags trues falses ≡ true → count_of (map not flags) ≡ falses
  falses_fit is = eqb-true (count_of (map not flags)) falses (and_parts (eqb (count_of flags) trues) (eqb (count_of (map not flags)) falses) is).1

module _ {X : Type 0} (f : Fault) (flags : List Bool) (xs ys : List X) where
  pub merge_right : are_counts flags (length xs) (length ys) ≡ true → merge_or f flags xs ys ≡ Ok (merged flags xs ys)
  merge_right is = ap (λ b. fault_if (not b) f (Ok (merged flags xs ys))) is

  pub merge_fails : are_counts flags (length xs) (length ys) ≡ false → merge_or f flags xs ys ≡ Err f
  merge_fails is = ap (λ b. fault_if (not b) f (Ok (merged flags xs ys))) is

-- one element for each flag
pub merged_long : {X : Type 0} (flags : List Bool) (xs ys : List X) → count_of flags ≡ length xs → count_of (map not flags) ≡ length ys → length (merged flags xs ys) ≡ length flags
merged_long [] xs ys t f = refl
merged_long (true ∷ flags) [] ys t f = absurd (omega (arith, t, count-cons true flags))
merged_long (true ∷ flags) (x ∷ xs) ys t f = ap suc (merged_long flags xs ys (omega (arith, t, count-cons true flags)) (omega (arith, f, count-cons false (map not flags))))
merged_long (false ∷ flags) xs [] t f = absurd (omega (arith, f, count-cons true (map not flags)))
merged_long (false ∷ flags) xs (y ∷ ys) t f = ap suc (merged_long flags xs ys (omega (arith, t, count-cons false flags)) (omega (arith, f, count-cons true (map not flags))))
