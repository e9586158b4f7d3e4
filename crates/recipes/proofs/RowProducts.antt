-- The calls of the sparse product's script, on a matrix: each has the value that the product asks for.
use Rattle.std.proofs.Common.{◌≡◌, ℕ, ◌≤◌, true, List, [], ◌∷◌, length, take, drop, map, sum, unsigned_abs, ℤ, pos, negsuc, ◌+ℤ◌, refl, sym, ap, ◌∙◌, arith, Some, Ok}
use Rattle.std.specs.Prelude.{position, nat_lt, option_map}
use Rattle.std.specs.Int.{w32, is_negative, int_wrap}
use Rattle.std.specs.List.{AllPass, fold, slice_index_or, zip}
use Rattle.std.proofs.lemmas.Bool.{false≢true, le-ltb, ltb-true}
use Rattle.std.proofs.lemmas.Int.{int_wrap-add_left, int_wrap-add_right}
use Rattle.std.proofs.lemmas.List.{length-map, take-map, drop-map}
use Rattle.std.proofs.lemmas.Option.{slice_get-get_or, unwrap_or-slice_get}
use Rattle.std.proofs.lemmas.Slice.Zip.{length-zip}
use Rattle.cvl_base.specs.declared.fault.FaultNo.TheVariants as no
use Rattle.cvl_base.specs.declared.families.IntBinary.TheVariants.{Monoid}
use Rattle.cvl_base.specs.declared.families.IntMonoid.TheVariants.{Mul}
use Rattle.cvl_base.specs.Descriptors.{descriptor_of}
use Rattle.cvl_base.specs.Elementwise.{ints2_of}
use Rattle.cvl_base.specs.Extracts.{element_at}
use Rattle.cvl_base.specs.Faults.{fault, fault_at}
use Rattle.cvl_base.specs.Folds.{fold_of}
use Rattle.cvl_base.specs.Gives.{◌>>=◌, unless, fault_if}
use Rattle.cvl_base.specs.Integers.{sum_of, product_of, wrap}
use Rattle.cvl_base.specs.Limits.{most_elements}
use Rattle.cvl_base.specs.Nests.{cut_of}
use Rattle.cvl_base.proofs.Descriptors.{position-lengths}
use Rattle.cvl_base.proofs.Elementwise.{if_as_long-fits}
use Rattle.cvl_base.proofs.Nests.{nest-fits}
use Rattle.cvl_base.proofs.Segmented.{results-ok}
use Rattle.cvl_base.specs.Permutes.{back_of, is_place}
use Rattle.cvl_base.specs.Segmented.{results_from, in_vector}
use Rattle.cvl_base.specs.SegmentedCalls.{seg_reduce_of}
use Rattle.sparse_products.specs.Products.{at_column, term, row_product}
use Rattle.recipes.proofs.Tables.{all_values}

-- ---- the lengths

pub lengths_made : (numbers : List ℤ) → numbers ≡ map pos (map unsigned_abs numbers) → sum (map unsigned_abs numbers) ≤ most_elements → descriptor_of numbers ≡ Ok (map unsigned_abs numbers)
lengths_made numbers natural small =
    let sizes = map unsigned_abs numbers in
    let place = ap (position is_negative) natural ∙ position-lengths sizes in
    (λ i. unless (option_map (fault_at no.NegativeLength) (place i)) (fault_if (nat_lt most_elements (sum sizes)) (fault no.TooLong) (Ok sizes)))
    ∙ ap (λ b. fault_if b (fault no.TooLong) (Ok sizes)) (le-ltb most_elements (sum sizes) small)

-- ---- the elements of x at the columns

there : (x : List ℤ) (column : ℤ) → is_place (length x) column ≡ true → element_at x column ≡ Some (at_column x column)
there x (pos k) inside = slice_get-get_or x k (pos 0) (ltb-true k (length x) inside) ∙ ap Some (sym (unwrap_or-slice_get x k (pos 0)))
there x (negsuc k) inside = absurd (false≢true inside)

pub columns_there : (x columns : List ℤ) → AllPass (is_place (length x)) columns → back_of x columns ≡ Ok (map (at_column x) columns)
columns_there x columns inside = all_values no.IndexOutOfRange (element_at x) (at_column x) 0 columns (λ k d below. there x (slice_index_or columns k d) (inside k d below))

-- ---- the wrapped products of the entries

abbrev pub wrapped_term : List ℤ → ℤ × ℤ → ℤ
wrapped_term x entry = wrap (term x entry)

each_term : (x columns values : List ℤ) → map (λ p. product_of p.0 p.1) (zip values (map (at_column x) columns)) ≡ map (wrapped_term x) (zip columns values)
each_term x [] [] = refl
each_term x [] (v ∷ values) = refl
each_term x (c ∷ columns) [] = refl
each_term x (c ∷ columns) (v ∷ values) = ap (λ others. wrapped_term x (c, v) ∷ others) (each_term x columns values)

pub terms_made : (x columns values : List ℤ) → length values ≡ length columns → ints2_of (Monoid Mul) values (map (at_column x) columns) ≡ Ok (map (wrapped_term x) (zip columns values))
terms_made x columns values as_many =
    if_as_long-fits values (map (at_column x) columns) (Ok (map (λ p. product_of p.0 p.1) (zip values (map (at_column x) columns)))) (as_many ∙ sym (length-map columns (at_column x)))
    ∙ ap Ok (each_term x columns values)

pub length-terms : (x columns values : List ℤ) → length values ≡ length columns → length (map (wrapped_term x) (zip columns values)) ≡ length columns
length-terms x columns values as_many = omega (arith, length-map (zip columns values) (wrapped_term x), length-zip columns values)

-- ---- the sums of the rows

-- to wrap each term and each sum on the way changes nothing
wrapped_once : (x : List ℤ) (row : List (ℤ × ℤ)) (a : ℤ) → fold sum_of (wrap a) (map (wrapped_term x) row) ≡ wrap (fold (λ s t. s +ℤ t) a (map (term x) row))
wrapped_once x [] a = refl
wrapped_once x (entry ∷ row) a =
    ap (λ s. fold sum_of s (map (wrapped_term x) row)) (int_wrap-add_left w32 a (wrapped_term x entry) ∙ int_wrap-add_right w32 a (term x entry))
    ∙ wrapped_once x row (a +ℤ term x entry)

row_sum : (x : List ℤ) (row : List (ℤ × ℤ)) → fold_of sum_of (pos 0) (map (wrapped_term x) row) ≡ row_product x row
unfolding int_wrap
row_sum x row = wrapped_once x row (pos 0)

row_sums : (x : List ℤ) (lengths : List ℕ) (entries : List (ℤ × ℤ)) → map (fold_of sum_of (pos 0)) (cut_of lengths (map (wrapped_term x) entries)) ≡ map (row_product x) (cut_of lengths entries)
row_sums x [] entries = refl
row_sums x (n ∷ lengths) entries =
    (λ i. fold_of sum_of (pos 0) (take-map (wrapped_term x) n entries i) ∷ map (fold_of sum_of (pos 0)) (cut_of lengths (drop-map (wrapped_term x) n entries i)))
    ∙ (λ i. row_sum x (take n entries) i ∷ row_sums x lengths (drop n entries) i)

pub rows_summed : (x : List ℤ) (lengths : List ℕ) (entries : List (ℤ × ℤ)) → sum lengths ≡ length (map (wrapped_term x) entries) → seg_reduce_of sum_of (pos 0) (map (wrapped_term x) entries) lengths
    ≡ Ok (map (row_product x) (cut_of lengths entries))
rows_summed x lengths entries fits =
    ap (λ r. r >>= λ lists. results_from (in_vector lengths) (λ ys. Ok (fold_of sum_of (pos 0) ys)) 0 lists) (nest-fits lengths (map (wrapped_term x) entries) fits)
    ∙ results-ok (in_vector lengths) (fold_of sum_of (pos 0)) 0 (cut_of lengths (map (wrapped_term x) entries))
    ∙ ap Ok (row_sums x lengths entries)
