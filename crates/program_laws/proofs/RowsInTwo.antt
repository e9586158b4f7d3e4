-- Sparse products whose rows are cut in two.
use Rattle.call_laws.proofs.Cited.{◌≡◌, ◌+◌, ◌∷◌, ◌++◌, ◌∙◌, ◌>>=◌, ℕ, ℤ, List, [], length, map, refl, sym, ap, arith, sum, zip, Option, Some, None, Ok, Err, Result, length-append, length-map}
use Rattle.call_laws.proofs.Cited.{length-zip, map-append, if_as_long, if_as_long-fits, nest, cut_of, nest-fits, Fault, FaultNo, after, unless, moved, in_two, values_from, fitting}
use Rattle.cvl_base.specs.declared.fault.FaultNo.TheVariants.{Overflow}
use Rattle.cvl_base.specs.Permutes.{first_fault}
use Rattle.permute_walks.specs.Indices.{first_outside, outside}
use Rattle.sparse_products.specs.Answers.{checked_rows_product, rows_product, rows_within}
use Rattle.sparse_products.specs.Products.{row_product, row_total}
use Rattle.call_laws.proofs.SegmentsInTwo.{nest-between}
use Rattle.call_laws.proofs.TwoParts.{from_value, values-two, zip-append}

-- ---- the first fault of two parts

module _ {X : Type 0} where
  told-behind : (o : Option Fault) (xs ys : List X) → unless o (Ok (xs ++ ys)) ≡ after xs (unless o (Ok ys))
  told-behind None xs ys = refl
  told-behind (Some f) xs ys = refl

  told-from : (place : ℕ) (us ws : List (Option FaultNo)) (xs ys : List X)
      → unless (first_fault place (us ++ ws)) (Ok (xs ++ ys))
      ≡ (unless (first_fault place us) (Ok xs) >>= λ done. after done (unless (first_fault (place + length us) ws) (Ok ys)))
  told-from place [] ws xs ys =
      told-behind (first_fault place ws) xs ys ∙ ap (λ p. after xs (unless (first_fault p ws) (Ok ys))) (omega arith)
  told-from place (None ∷ us) ws xs ys =
      told-from (place + 1) us ws xs ys
      ∙ ap (λ p. unless (first_fault (place + 1) us) (Ok xs) >>= λ done. after done (unless (first_fault p ws) (Ok ys))) (omega arith)
  told-from place (Some number ∷ us) ws xs ys = refl

  told-moved : (n place : ℕ) (ws : List (Option FaultNo)) (ys : List X)
      → unless (first_fault (n + place) ws) (Ok ys) ≡ moved (λ p. n + p) (unless (first_fault place ws) (Ok ys))
  told-moved n place [] ys = refl
  told-moved n place (None ∷ ws) ys = ap (λ p. unless (first_fault p ws) (Ok ys)) (omega arith) ∙ told-moved n (place + 1) ws ys
  told-moved n place (Some number ∷ ws) ys = refl

  told-two : (us ws : List (Option FaultNo)) (xs ys : List X)
      → unless (first_fault 0 (us ++ ws)) (Ok (xs ++ ys)) ≡ in_two (length us) (unless (first_fault 0 us) (Ok xs)) (unless (first_fault 0 ws) (Ok ys))
  told-two us ws xs ys =
      told-from 0 us ws xs ys
      ∙ ap (λ r. unless (first_fault 0 us) (Ok xs) >>= λ done. after done r)
      (ap (λ p. unless (first_fault p ws) (Ok ys)) (omega arith) ∙ told-moved (length us) 0 ws ys)

-- ---- rows of two parts

mapped-two : {A B : Type 0} (f : A → B) (n : ℕ) (a b : Result (List A) Fault)
    → (in_two n a b >>= λ rows. Ok (map f rows)) ≡ in_two n (a >>= λ rows. Ok (map f rows)) (b >>= λ rows. Ok (map f rows))
mapped-two f n (Err e) b = refl
mapped-two f n (Ok xs) (Err e) = refl
mapped-two f n (Ok xs) (Ok ys) = ap Ok (map-append f xs ys)

-- rows whose lengths fit the columns and the values
rows_nest : (x columns values : List ℤ) (lengths : List ℕ) → sum lengths ≡ length columns → length values ≡ length columns
    → rows_within (length x) lengths columns values ≡ unless (first_outside 0 (length x) columns) (Ok (cut_of lengths (zip columns values)))
rows_nest x columns values lengths fit as_many =
    ap (unless (first_outside 0 (length x) columns))
    (if_as_long-fits values columns (nest lengths (zip columns values)) as_many
    ∙ nest-fits lengths (zip columns values) (omega (arith, fit, as_many, length-zip columns values)))

module _ (x columns more values others : List ℤ) (lengths later : List ℕ) (fit : sum lengths ≡ length columns) (as_many : length values ≡ length columns)
    (also_fit : sum later ≡ length more) (also_as_many : length others ≡ length more) where
  both_nested : if_as_long (values ++ others) (columns ++ more) (nest (lengths ++ later) (zip (columns ++ more) (values ++ others)))
      ≡ Ok (cut_of lengths (zip columns values) ++ cut_of later (zip more others))
  both_nested =
      if_as_long-fits (values ++ others) (columns ++ more) (nest (lengths ++ later) (zip (columns ++ more) (values ++ others)))
      (omega (arith, as_many, also_as_many, length-append values others, length-append columns more))
      ∙ ap (nest (lengths ++ later)) (zip-append columns values more others (sym as_many))
      ∙ nest-between lengths later (zip columns values) (zip more others)
      (omega (arith, fit, as_many, length-zip columns values)) (omega (arith, also_fit, also_as_many, length-zip more others))

  rows-two : rows_within (length x) (lengths ++ later) (columns ++ more) (values ++ others)
      ≡ in_two (length columns) (rows_within (length x) lengths columns values) (rows_within (length x) later more others)
  rows-two =
      ap (unless (first_outside 0 (length x) (columns ++ more))) both_nested
      ∙ ap (λ ws. unless (first_fault 0 ws) (Ok (cut_of lengths (zip columns values) ++ cut_of later (zip more others)))) (map-append (outside (length x)) columns more)
      ∙ told-two (map (outside (length x)) columns) (map (outside (length x)) more) (cut_of lengths (zip columns values)) (cut_of later (zip more others))
      ∙ (λ i. in_two (length-map columns (outside (length x)) i) (sym (rows_nest x columns values lengths fit as_many) i) (sym (rows_nest x more others later also_fit also_as_many) i))

  pub product-two : rows_product (lengths ++ later) (columns ++ more) (values ++ others) x
      ≡ in_two (length columns) (rows_product lengths columns values x) (rows_product later more others x)
  product-two =
      ap (λ rows. rows >>= λ found. Ok (map (row_product x) found)) rows-two
      ∙ mapped-two (row_product x) (length columns) (rows_within (length x) lengths columns values) (rows_within (length x) later more others)

  abbrev total : List (ℤ × ℤ) → Option ℤ
  total row = fitting (row_total x row)

  pub checked-two : (sums rest : List ℤ) → checked_rows_product lengths columns values x ≡ Ok sums → checked_rows_product later more others x ≡ Ok rest
      → checked_rows_product (lengths ++ later) (columns ++ more) (values ++ others) x ≡ Ok (sums ++ rest)
  checked-two sums rest first second =
      let own = from_value (rows_within (length x) lengths columns values) (λ rows. values_from Overflow 0 (map total rows)) sums first in
      let behind = from_value (rows_within (length x) later more others) (λ rows. values_from Overflow 0 (map total rows)) rest second in
      ap (λ rows. rows >>= λ found. values_from Overflow 0 (map total found)) (rows-two ∙ (λ i. in_two (length columns) (own.1 i) (behind.1 i)))
      ∙ values-two Overflow total own.0 behind.0
      ∙ (λ i. in_two (length own.0) (own.2 i) (behind.2 i))
