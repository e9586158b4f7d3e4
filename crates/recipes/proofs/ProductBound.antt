-- The script of the sparse product binds `y` to the product, where its inputs are a matrix and a vector.
use Rattle.std.proofs.Common.{◌≡◌, ◌≤◌, List, length, map, unsigned_abs, codes, ℤ, sym, ap, ◌∙◌, Result, Some, Ok, arith}
use Rattle.std.specs.List.{zip}
use Rattle.cvl_base.specs.declared.refused.Refused.{Refused}
use Rattle.cvl_base.specs.declared.value.Value.TheVariants as value
use Rattle.cvl_base.specs.Gives.{◌>>=◌, Gives}
use Rattle.cvl_base.specs.Limits.{most_elements}
use Rattle.vector_handles.specs.Names.{bind, value_at}
use Rattle.recipes.specs.declared.scripts.TheConstants.{SPARSE_MATVEC}
use Rattle.sparse_products.specs.Products.{IsMatrix, at_column, product_of}
use Rattle.recipes.specs.Recipes.{GivesBound, bound_by}
use Rattle.recipes.proofs.Answered.{is_answer}
use Rattle.recipes.proofs.Calls.{goes_on}
use Rattle.recipes.proofs.ProductScript.{from_permute, from_product, from_sum, from_write, inputs, run, with_gathered, with_inputs, with_products, with_rows}
use Rattle.recipes.proofs.RowProducts.{lengths_made, columns_there, terms_made, length-terms, rows_summed, wrapped_term}

module _ (A : Type 0) (lens cols vals x : List ℤ) (few : length cols ≤ most_elements) (matrix : IsMatrix lens cols vals x) where
  product_bound : bound_by {A = A} SPARSE_MATVEC.now (inputs lens cols vals x) (codes "y") ≡ Ok (Some (value.Integers (product_of lens cols vals x)))
  product_bound =
      let d = map unsigned_abs lens in
      let g = map (at_column x) cols in
      let p = map (wrapped_term x) (zip cols vals) in
      let given = inputs {A = A} lens cols vals x in
      ap (λ r. r >>= λ names. Ok (value_at names (codes "y")))
      (run lens cols vals x
      ∙ goes_on (λ d. value.Descriptor d) (bind (with_inputs lens cols vals x) (codes "d")) given from_permute (lengths_made lens matrix.none_negative (omega (arith, matrix.add_up)))
      ∙ goes_on (λ g. value.Integers g) (bind (with_rows lens cols vals x d) (codes "g")) given from_product (columns_there x cols matrix.within)
      ∙ goes_on (λ p. value.Integers p) (bind (with_gathered lens cols vals x d g) (codes "p")) given from_sum (terms_made x cols vals matrix.as_many)
      ∙ goes_on (λ y. value.Integers y) (bind (with_products lens cols vals x d g p) (codes "y")) given from_write
      (rows_summed x d (zip cols vals) (matrix.add_up ∙ sym (length-terms x cols vals matrix.as_many))))

  -- so what the script's run answers is the product
  pub product_given : {X : Type 0} (view : X → List ℤ) (answer : Result X Refused) → GivesBound {A = A} (λ y. value.Integers (view y)) answer SPARSE_MATVEC.now (inputs lens cols vals x) (codes "y")
      → Gives view answer (Ok (product_of lens cols vals x))
  product_given view answer gives =
      is_answer (λ (ys : List ℤ). value.Integers ys) view answer (bound_by SPARSE_MATVEC.now (inputs lens cols vals x) (codes "y")) (product_of lens cols vals x) (λ a b same. cc) gives product_bound
