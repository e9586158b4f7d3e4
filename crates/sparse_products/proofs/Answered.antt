-- What a product answers, from what was found while its rows were written.
use Rattle.sparse_products.proofs.Cited.{rules, ◌≡◌, ◌≢◌, ℕ, ◌+◌, Bool, true, false, ℤ, pos, List, [], ◌∷◌, ◌++◌, length, map, refl, sym, subst, ap, ◌∙◌, arith, Option, Some, None, Result, Ok, Err}
use Rattle.sparse_products.proofs.Cited.{◌≤◌, ◌&&◌, if◌then◌else◌, IfSome, sum, unwrap_or, list_all, zip, ok_or, option_or, none-some, same_Some, length-zip, fault, fault_at, ◌>>=◌, Gives, unless}
use Rattle.sparse_products.proofs.Cited.{cut_of, nest, nest-fits, nest-misfits, first_without, first_outside, rows_product, rows_within, row_product, row_total, are_within, product_by, row_item}
use Rattle.sparse_products.proofs.Cited.{row_value, wrapping}
use Rattle.cvl_base.specs.declared.fault.Fault.{Fault}
use Rattle.cvl_base.specs.declared.fault.FaultNo.{FaultNo}
use Rattle.cvl_base.specs.declared.fault.FaultNo.TheVariants as no
use Rattle.cvl_base.specs.Elementwise.{if_as_long, values_from}
use Rattle.cvl_base.specs.declared.refused.Refused.{Refused}
use Rattle.cvl_base.proofs.Elementwise.{if_as_long-fits, if_as_long-misfits}
use Rattle.fresh.proofs.FirstWithout.{first_of_both, found_within}
use Rattle.sparse_products.proofs.Within.{all_inside, by_rule, none_outside, rows_inside}

-- ---- the first place without a value

-- it is no higher than there are items
pub found_among : {X : Type 0} (found : Option ℕ) (place most : ℕ) (vs : List (Option X)) → found ≡ first_without place vs → place + length vs ≤ most → IfSome found (λ w. w ≤ most)
found_among None place most vs is few = tt
found_among (Some w) place most vs is few = omega (arith, found_within place w vs (sym is), few)

-- the step of a walk that has found the first of some items, and looks at one more
pub found_more : {X : Type 0} (found now : Option ℕ) (place next : ℕ) (v : Option X) (vs : List (Option X)) (all : Option ℕ) → now ≡ option_or found (first_without place (v ∷ [])) → next ≡ place + 1
    → option_or found (first_without place (v ∷ vs)) ≡ all → option_or now (first_without next vs) ≡ all
found_more (Some w) now place next v vs all is after so_far = ap (λ o. option_or o (first_without next vs)) is ∙ so_far
found_more None now place next None vs all is after so_far = ap (λ o. option_or o (first_without next vs)) is ∙ so_far
found_more None now place next (Some x) vs all is after so_far = ap (λ o. option_or o (first_without next vs)) is ∙ ap (λ p. first_without p vs) after ∙ so_far

-- the step of one that looks at several
pub found_both : {X : Type 0} (found now here : Option ℕ) (place next : ℕ) (vs ws left : List (Option X)) (all : Option ℕ) → now ≡ option_or found here → here ≡ first_without place vs
    → next ≡ place + length vs → left ≡ vs ++ ws → option_or found (first_without place left) ≡ all → option_or now (first_without next ws) ≡ all
found_both (Some w) now here place next vs ws left all is is_here after both so_far = ap (λ o. option_or o (first_without next ws)) is ∙ so_far
found_both None now here place next vs ws left all is is_here after both so_far = cc (is, is_here, after, both, first_of_both place vs ws, so_far)

fails_first : (n p : ℕ) (vs : List (Option ℤ)) → first_without n vs ≡ Some p → values_from no.Overflow n vs ≡ Err (fault_at no.Overflow p)
fails_first n p [] is = absurd (none-some p is)
fails_first n p (None ∷ vs) is = ap (λ q. Err (fault_at no.Overflow q)) (same_Some n p is)
fails_first n p (Some z ∷ vs) is = ap (λ r. r >>= λ ys. Ok (z ∷ ys)) (fails_first (n + 1) p vs is)

-- a row that has a value, before others that have some
has_value : (inside : Bool) (value : Option ℤ) (n : ℕ) (vs : List (Option ℤ)) → first_without n ((if inside then value else None) ∷ vs) ≡ None
    → (inside ≡ true) × (value ≡ Some (unwrap_or (if inside then value else None) (pos 0))) × (first_without (n + 1) vs ≡ None)
has_value true (Some z) n vs is = (refl, refl, is)
has_value true None n vs is = absurd (none-some n (sym is))
has_value false value n vs is = absurd (none-some n (sym is))

all_values : (rule : ℤ → Option ℤ) (x : List ℤ) (n : ℕ) (rows : List (List (ℤ × ℤ))) → first_without n (map (row_value rule x) rows) ≡ None
    → (list_all (are_within (length x)) rows ≡ true) × (values_from no.Overflow n (map (λ row. rule (row_total x row)) rows) ≡ Ok (map (row_item rule x) rows))
all_values rule x n [] is = (refl, refl)
all_values rule x n (row ∷ rows) is =
    let here = has_value (are_within (length x) row) (rule (row_total x row)) n (map (row_value rule x) rows) is in
    let others = all_values rule x (n + 1) rows here.2 in (
      (λ i. here.0 i && others.0 i),
      (λ i. ok_or (here.1 i) (fault_at no.Overflow n) >>= λ y. others.1 i >>= λ ys. Ok (y ∷ ys)),
    )

-- ---- before the walk

module _ (places : ℕ) (lengths : List ℕ) (columns values : List ℤ) where
  pub outside_first : (f : Fault) → Some f ≡ first_outside 0 places columns → rows_within places lengths columns values ≡ Err f
  outside_first f is = ap (λ o. unless o (if_as_long values columns (nest lengths (zip columns values)))) (sym is)

  module _ (inside : None ≡ first_outside 0 places columns) where
    after_look : rows_within places lengths columns values ≡ if_as_long values columns (nest lengths (zip columns values))
    after_look = ap (λ o. unless o (if_as_long values columns (nest lengths (zip columns values)))) (sym inside)

    pub not_as_many : length values ≢ length columns → rows_within places lengths columns values ≡ Err (fault no.LengthMismatch)
    not_as_many differ = after_look ∙ if_as_long-misfits values columns (nest lengths (zip columns values)) differ

    module _ (as_many : length values ≡ length columns) where
      long : length (zip columns values) ≡ length columns
      long = omega (arith, as_many, length-zip columns values)

      in_nest : rows_within places lengths columns values ≡ nest lengths (zip columns values)
      in_nest = after_look ∙ if_as_long-fits values columns (nest lengths (zip columns values)) as_many

      pub not_the_total : sum lengths ≢ length columns → rows_within places lengths columns values ≡ Err (fault no.LengthMismatch)
      not_the_total differ = in_nest ∙ nest-misfits lengths (zip columns values) (λ same. differ (same ∙ long))

      pub are_rows : sum lengths ≡ length columns → rows_within places lengths columns values ≡ Ok (cut_of lengths (zip columns values))
      are_rows adds_up = in_nest ∙ nest-fits lengths (zip columns values) (adds_up ∙ sym long)

-- ---- after it

module _ (rule : ℤ → Option ℤ) (lengths : List ℕ) (columns values x : List ℤ) (as_many : length values ≡ length columns) (adds_up : sum lengths ≡ length columns) where
  abbrev entries : List (ℤ × ℤ)
  entries = zip columns values

  abbrev after_rows : Result (List (List (ℤ × ℤ))) Fault → Result (List ℤ) Fault
  after_rows answer = answer >>= λ rows. values_from no.Overflow 0 (map (λ row. rule (row_total x row)) rows)

  covered : sum lengths ≡ length entries
  covered = omega (arith, adds_up, as_many, length-zip columns values)

  pub each_has_value : first_without 0 (map (row_value rule x) (cut_of lengths entries)) ≡ None
      → product_by rule lengths columns values x ≡ Ok (map (row_item rule x) (cut_of lengths entries))
  each_has_value none =
      let found = all_values rule x 0 (cut_of lengths entries) none in
      let inside = none_outside 0 (length x) columns values as_many (rows_inside (length x) lengths entries covered found.0) in
      ap after_rows (are_rows (length x) lengths columns values inside as_many adds_up) ∙ found.1

  pub has_outside : (f : Fault) → Some f ≡ first_outside 0 (length x) columns → product_by rule lengths columns values x ≡ Err f
  has_outside f is = ap after_rows (outside_first (length x) lengths columns values f is)

  pub first_overflow : (row : ℕ) → None ≡ first_outside 0 (length x) columns → first_without 0 (map (row_value rule x) (cut_of lengths entries)) ≡ Some row
      → product_by rule lengths columns values x ≡ Err (fault_at no.Overflow row)
  first_overflow row inside found = search (rules, by_rule, all_inside, are_rows, fails_first)

-- ---- sums that wrap have a value always

all_some : {X Y : Type 0} (number : FaultNo) (value : X → Y) (place : ℕ) (xs : List X) → values_from number place (map (λ x. Some (value x)) xs) ≡ Ok (map value xs)
all_some number value place [] = refl
all_some number value place (x ∷ xs) = ap (λ r. r >>= λ ys. Ok (value x ∷ ys)) (all_some number value (place + 1) xs)

pub always : (lengths : List ℕ) (columns values x : List ℤ) → product_by wrapping lengths columns values x ≡ rows_product lengths columns values x
always lengths columns values x = λ i. rows_within (length x) lengths columns values >>= λ rows. all_some no.Overflow (row_product x) 0 rows i

module _ {X : Type 0} (view : X → List ℤ) (answer : Result X Refused) (lengths : List ℕ) (columns values x : List ℤ) (gives : Gives view answer (product_by wrapping lengths columns values x)) where
  pub gives_rows : Gives view answer (rows_product lengths columns values x)
  gives_rows = subst (Gives view answer) (always lengths columns values x) gives

  pub gives_product : (d : Result (List ℕ) Fault) → d ≡ Ok lengths → Gives view answer (d >>= λ sizes. rows_product sizes columns values x)
  gives_product d is = subst (Gives view answer) (sym (ap (λ r. r >>= λ sizes. rows_product sizes columns values x) is)) gives_rows
