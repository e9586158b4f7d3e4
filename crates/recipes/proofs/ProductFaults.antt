-- The script of the sparse product binds `y` to the sparse product, of any inputs, or stops at its fault.
use Rattle.std.proofs.Common.{◌≡◌, ℕ, List, length, map, pos, codes, ℤ, refl, sym, ap, ◌∙◌, inl, inr, Option, Some, None, Result, Ok, Err}
use Rattle.std.specs.Prelude.{sum}
use Rattle.std.specs.List.{zip}
use Rattle.std.proofs.lemmas.Bool.Decides.{eqb_tells}
use Rattle.std.proofs.lemmas.List.{length-map}
use Rattle.cvl_base.specs.declared.fault.Fault.{Fault}
use Rattle.cvl_base.specs.declared.fault.FaultNo.TheVariants as no
use Rattle.cvl_base.specs.declared.families.IntBinary.TheVariants.{Monoid}
use Rattle.cvl_base.specs.declared.families.IntMonoid.TheVariants.{Mul}
use Rattle.cvl_base.specs.declared.refused.Refused.{Refused}
use Rattle.cvl_base.specs.declared.refused.Refused.TheVariants as refused
use Rattle.cvl_base.specs.declared.value.Value.{Value}
use Rattle.cvl_base.specs.declared.value.Value.TheVariants as value
use Rattle.cvl_base.specs.Descriptors.{descriptor_of}
use Rattle.cvl_base.specs.Elementwise.{ints2_of}
use Rattle.cvl_base.specs.Gives.{◌>>=◌, Gives, unless}
use Rattle.cvl_base.specs.Integers.{product_of, sum_of}
use Rattle.cvl_base.specs.Permutes.{back_of}
use Rattle.cvl_base.specs.Segmented.{in_vector, results_from}
use Rattle.cvl_base.specs.Folds.{fold_of}
use Rattle.cvl_base.specs.SegmentedCalls.{seg_reduce_of}
use Rattle.cvl_base.proofs.Elementwise.{if_as_long-misfits}
use Rattle.cvl_base.proofs.Nests.{nest-misfits}
use Rattle.permute_walks.specs.Indices.{elements_at, first_outside}
use Rattle.permute_walks.proofs.Outside.{all_inside, values_unless}
use Rattle.sparse_products.specs.Answers.{rows_product, sparse_product_of}
use Rattle.sparse_products.specs.Products.{at_column, row_product}
use Rattle.sparse_products.proofs.Answered.{are_rows, not_as_many, not_the_total, outside_first}
use Rattle.vector_handles.specs.Names.{Entries, bind, value_at}
use Rattle.recipes.specs.declared.scripts.TheConstants.{SPARSE_MATVEC}
use Rattle.recipes.specs.Recipes.{as_bound, bound_by}
use Rattle.recipes.proofs.Calls.{bound_before}
use Rattle.recipes.proofs.ProductScript.{from_permute, from_product, from_sum, from_write, inputs, run, with_gathered, with_inputs, with_products, with_rows}
use Rattle.recipes.proofs.RowProducts.{columns_there, length-terms, rows_summed, terms_made, wrapped_term}

module _ (A : Type 0) (lens cols vals x : List ℤ) where
  -- what is bound to `y` at the end
  abbrev seen : Result (Entries A) Fault → Result (Option (Value A)) Fault
  seen names = names >>= λ ns. Ok (value_at ns (codes "y"))

  module _ (sizes : List ℕ) where
    abbrev after_rows : Result (List ℤ) Fault → Result (Option (Value A)) Fault
    after_rows g = seen (bound_before g (λ g. value.Integers g) (bind (with_rows lens cols vals x sizes) (codes "g")) (inputs lens cols vals x) from_product)

    abbrev after_gather : List ℤ → Result (List ℤ) Fault → Result (Option (Value A)) Fault
    after_gather g p = seen (bound_before p (λ p. value.Integers p) (bind (with_gathered lens cols vals x sizes g) (codes "p")) (inputs lens cols vals x) from_sum)

    abbrev after_products : List ℤ → List ℤ → Result (List ℤ) Fault → Result (Option (Value A)) Fault
    after_products g p y = seen (bound_before y (λ y. value.Integers y) (bind (with_products lens cols vals x sizes g p) (codes "y")) (inputs lens cols vals x) from_write)

    abbrev gathered : List ℤ
    gathered = map (at_column x) cols

    module _ (inside : None ≡ first_outside 0 (length x) cols) where
      -- where the columns are places, and columns and values are equally many
      summed : length vals ≡ length cols
          → after_products gathered (map (wrapped_term x) (zip cols vals)) (seg_reduce_of sum_of (pos 0) (map (wrapped_term x) (zip cols vals)) sizes) ≡ as_bound (rows_product sizes cols vals x)
      summed as_many =
          let products = map (wrapped_term x) (zip cols vals) in
          let long = length-terms x cols vals as_many in
          elim (eqb_tells (sum sizes) (length cols)) [
            | inl t ↦ ap (after_products gathered products) (rows_summed x sizes (zip cols vals) (t.1 ∙ sym long))
                ∙ sym (ap (λ r. as_bound (r >>= λ rows. Ok (map (row_product x) rows))) (are_rows (length x) sizes cols vals inside as_many t.1))
            | inr t ↦ ap (λ r. after_products gathered products (r >>= λ lists. results_from (in_vector sizes) (λ ys. Ok (fold_of sum_of (pos 0) ys)) 0 lists))
                (nest-misfits sizes products (λ same. t.1 (same ∙ long)))
                ∙ sym (ap (λ r. as_bound (r >>= λ rows. Ok (map (row_product x) rows))) (not_the_total (length x) sizes cols vals inside as_many t.1))
          ]

      multiplied : after_gather gathered (ints2_of (Monoid Mul) vals gathered) ≡ as_bound (rows_product sizes cols vals x)
      multiplied =
          elim (eqb_tells (length vals) (length cols)) [
            | inl t ↦ ap (after_gather gathered) (terms_made x cols vals t.1) ∙ summed t.1
            | inr t ↦ ap (after_gather gathered) (if_as_long-misfits vals gathered (Ok (map (λ p. product_of p.0 p.1) (zip vals gathered))) (λ same. t.1 (same ∙ length-map cols (at_column x))))
                ∙ sym (ap (λ r. as_bound (r >>= λ rows. Ok (map (row_product x) rows))) (not_as_many (length x) sizes cols vals inside t.1))
          ]

    looked : (o : Option Fault) → o ≡ first_outside 0 (length x) cols → after_rows (back_of x cols) ≡ as_bound (rows_product sizes cols vals x)
    looked (Some f) is =
        ap after_rows (values_unless 0 x cols ∙ ap (λ o. unless o (Ok (elements_at x cols))) (sym is))
        ∙ sym (ap (λ r. as_bound (r >>= λ rows. Ok (map (row_product x) rows))) (outside_first (length x) sizes cols vals f is))
    looked None is = ap after_rows (columns_there x cols (all_inside 0 (length x) cols is)) ∙ multiplied is

  from_lengths : (d : Result (List ℕ) Fault)
      → seen (bound_before d (λ d. value.Descriptor d) (bind (with_inputs lens cols vals x) (codes "d")) (inputs lens cols vals x) from_permute)
      ≡ as_bound (d >>= λ sizes. rows_product sizes cols vals x)
  from_lengths (Ok sizes) = looked sizes (first_outside 0 (length x) cols) refl
  from_lengths (Err f) = refl

  pub script_is : bound_by {A = A} SPARSE_MATVEC.now (inputs lens cols vals x) (codes "y") ≡ as_bound (sparse_product_of lens cols vals x)
  script_is = ap seen (run lens cols vals x) ∙ from_lengths (descriptor_of lens)

-- an answer that is what the script binds is the sparse product
pub answers_product : {A X : Type 0} (view : X → List ℤ) (answer : Result X Refused) (bound : Result (Option (Value A)) Fault) (product : Result (List ℤ) Fault) → bound ≡ as_bound product
    → Gives (λ y. Some (value.Integers (view y))) answer bound → Gives view answer product
answers_product view (Ok x) bound (Ok y) is gives = let same : y ≡ view x = cc in ap Ok same
answers_product view (Ok x) bound (Err f) is gives = cc
answers_product view (Err (refused.Fault f)) bound (Ok y) is gives = cc
answers_product view (Err (refused.Fault f)) bound (Err g) is gives = cc
answers_product view (Err refused.NoResources) bound product is gives = tt
