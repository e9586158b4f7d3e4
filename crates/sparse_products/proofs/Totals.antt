-- Sums of the first entries of some rows: one entry more, and the rows that they give.
use Rattle.sparse_products.proofs.Cited.{rules, nat_tests, ◌≡◌, ℕ, ◌+◌, ◌<◌, ◌≤◌, Bool, true, false, ℤ, pos, ◌+ℤ◌, ◌*ℤ◌, List, [], ◌∷◌, ◌++◌, length, take, drop, map, get_or, refl, sym, ap, ◌∙◌}
use Rattle.sparse_products.proofs.Cited.{arith, Some, None, take-add, get_or-set_other, ◌-ℤ◌, ◌&&◌, if◌then◌else◌, sum, unwrap_or, w32, fold, zip, set, leb_tells, none-some, same_Some, ints}
use Rattle.sparse_products.proofs.Cited.{int_wrap-add_left, int_wrap-add_right, int_wrap-sub_right, length-drop, map-append, take_more, fold-append, get_or-zip, length-zip, element_at, wrap, cut_of}
use Rattle.sparse_products.proofs.Cited.{is_place, sum-cons, first_without, AreSums, between, at_column, row_total, term, are_within, row_item, row_value, wrapping}
use Rattle.std.proofs.lemmas.Grind.{get_or-set_at}
use Rattle.sparse_products.proofs.Entries.{there}
use Rattle.sparse_products.proofs.Within.{by_rule, halves_within, within_both}

total_from : (xs : List ℤ) (before : ℤ) → fold ◌+ℤ◌ before xs ≡ before +ℤ fold ◌+ℤ◌ (pos 0) xs
total_from [] before = omega (arith, ints)
total_from (x ∷ xs) before = omega (arith, ints, total_from xs (before +ℤ x), total_from xs (pos 0 +ℤ x))

pub total-append : (x : List ℤ) (row others : List (ℤ × ℤ)) → row_total x (row ++ others) ≡ row_total x row +ℤ row_total x others
total-append x row others = cc (map-append (term x) row others, fold-append ◌+ℤ◌ (pos 0) (map (term x) row) (map (term x) others), total_from (map (term x) others) (row_total x row))

one_total : (x : List ℤ) (entry : ℤ × ℤ) → row_total x (entry ∷ []) ≡ term x entry
one_total x entry = omega (arith, ints)

-- the sum with one entry more
pub total_more : (x : List ℤ) (entries : List (ℤ × ℤ)) (k : ℕ) → k < length entries
    → row_total x (take (k + 1) entries) ≡ row_total x (take k entries) +ℤ term x (get_or entries k (pos 0, pos 0))
total_more x entries k lt = cc (take_more entries k (pos 0, pos 0) lt, total-append x (take k entries) (get_or entries k (pos 0, pos 0) ∷ []), one_total x (get_or entries k (pos 0, pos 0)))

-- ---- the loop over the entries

placed : (inside : Bool) (y element : ℤ) → (if inside then Some y else None) ≡ Some element → (inside ≡ true) × (y ≡ element)
placed true y element is = (refl, same_Some y element is)
placed false y element is = absurd (none-some element is)

module _ (x columns values : List ℤ) (as_many : length values ≡ length columns) where
  abbrev first_entries : ℕ → List (ℤ × ℤ)
  first_entries k = take k (zip columns values)

  -- one entry more, whose column is a place
  pub entry_summed : (k : ℕ) (element last now : ℤ) → k < length columns → element_at x (get_or columns k (pos 0)) ≡ Some element
      → are_within (length x) (first_entries k) ≡ true → last ≡ wrap (row_total x (first_entries k)) → now ≡ wrap (last +ℤ wrap (get_or values k (pos 0) *ℤ element))
      → (are_within (length x) (first_entries (k + 1)) ≡ true) × (now ≡ wrap (row_total x (first_entries (k + 1))))
  entry_summed k element last now lt there_is inside last_is now_is =
      let entries = zip columns values in
      let entry : ℤ × ℤ = (get_or columns k (pos 0), get_or values k (pos 0)) in
      let within : k < length entries = omega (arith, lt, as_many, length-zip columns values) in
      let read : get_or entries k (pos 0, pos 0) ≡ entry = get_or-zip columns values k (pos 0, pos 0) lt (omega (arith, lt, as_many)) in
      let is = placed (is_place (length x) entry.0) (at_column x entry.0) element (sym (there x entry.0) ∙ there_is) in
      let total = row_total x (first_entries k) in (
        within_both (length x) (first_entries k) (entry ∷ []) (first_entries (k + 1))
            (take_more entries k (pos 0, pos 0) within ∙ ap (λ e. first_entries k ++ e ∷ []) read) inside (λ i. is.0 i && true),
        cc (now_is, last_is, int_wrap-add_left w32 total (wrap (entry.1 *ℤ element)), int_wrap-add_right w32 total (entry.1 *ℤ element), is.1, read, total_more x entries k within),
      )

-- the sum of one entry more is written behind the others
pub sums_more : (sums : List ℤ) (k : ℕ) (now : ℤ) (total : ℕ → ℤ) → k + 1 < length sums → ((j : ℕ) → j ≤ k → get_or sums j (pos 0) ≡ total j) → now ≡ total (k + 1)
    → (j : ℕ) → j ≤ k + 1 → get_or (set sums (k + 1) now) j (pos 0) ≡ total j
sums_more sums k now total lt each is j le = grind (arith, nat_tests, leb_tells, get_or-set_at, get_or-set_other)

-- ---- a row by the sums at its ends

difference : (before row : ℤ) → wrap (wrap (before +ℤ row) -ℤ wrap before) ≡ wrap row
difference before row = search (rules, int_wrap-sub_right, int_wrap-add_left)

item_inside : (x : List ℤ) (row : List (ℤ × ℤ)) → are_within (length x) row ≡ true → row_item wrapping x row ≡ wrap (row_total x row)
item_inside x row inside = ap (λ b. unwrap_or (if b then Some (wrap (row_total x row)) else None) (pos 0)) inside

rows_from : (x sums : List ℤ) (lengths : List ℕ) (start : ℕ) (entries : List (ℤ × ℤ)) (before : ℤ) → are_within (length x) entries ≡ true
    → sum lengths ≤ length entries → get_or sums start (pos 0) ≡ wrap before
    → ((k : ℕ) → k ≤ length entries → get_or sums (start + k) (pos 0) ≡ wrap (before +ℤ row_total x (take k entries)))
    → between sums start lengths ≡ map (row_item wrapping x) (cut_of lengths entries)
rows_from x sums [] start entries before inside covered begins each = refl
rows_from x sums (n ∷ lengths) start entries before inside covered begins each =
    let row = take n entries in
    let parts = halves_within (length x) n entries inside in
    let long : n ≤ length entries = omega (arith, covered, sum-cons n lengths) in
    let here : wrap (get_or sums (start + n) (pos 0) -ℤ get_or sums start (pos 0)) ≡ row_item wrapping x row =
    (λ i. wrap (each n long i -ℤ begins i)) ∙ difference before (row_total x row) ∙ sym (item_inside x row parts.0) in
    let later = λ (k : ℕ) (le : k ≤ length (drop n entries)).
    ap (λ j. get_or sums j (pos 0)) (let same : (start + n) + k ≡ start + (n + k) = omega arith in same)
    ∙ each (n + k) (omega (arith, le, long, length-drop n entries))
    ∙ ap (λ es. wrap (before +ℤ row_total x es)) (take-add n k entries)
    ∙ ap (λ t. wrap (before +ℤ t)) (total-append x row (take k (drop n entries)))
    ∙ ap wrap (let same : before +ℤ (row_total x row +ℤ row_total x (take k (drop n entries))) ≡ (before +ℤ row_total x row) +ℤ row_total x (take k (drop n entries)) = omega (arith, ints) in same) in
    λ i. here i ∷ rows_from x sums lengths (start + n) (drop n entries) (before +ℤ row_total x row) parts.1
    (omega (arith, covered, sum-cons n lengths, length-drop n entries)) (each n long) later i

module _ (x sums : List ℤ) (lengths : List ℕ) (entries : List (ℤ × ℤ)) (are : AreSums x entries sums) where
  pub rows_are : sum lengths ≤ length entries → between sums 0 lengths ≡ map (row_item wrapping x) (cut_of lengths entries)
  rows_are covered =
      rows_from x sums lengths 0 entries (pos 0) are.within covered (are.each 0 (omega arith))
      (λ k le.
      let at : 0 + k ≡ k = omega arith in
      let total : row_total x (take k entries) ≡ pos 0 +ℤ row_total x (take k entries) = omega (arith, ints) in
      ap (λ j. get_or sums j (pos 0)) at ∙ are.each k le ∙ ap wrap total)

  -- each of them has a value
  pub none_missing : (place : ℕ) → None ≡ first_without place (map (row_value wrapping x) (cut_of lengths entries))
  none_missing place = sym (ap (first_without place) (by_rule wrapping x lengths entries are.within) ∙ none_among place (cut_of lengths entries)) where
    none_among : (place : ℕ) (rows : List (List (ℤ × ℤ))) → first_without place (map (λ row. wrapping (row_total x row)) rows) ≡ None
    none_among place [] = refl
    none_among place (row ∷ rows) = none_among (place + 1) rows
