-- The value of a row, entry by entry, as the loops have it: from a sum on, and over the entries that are left.
use Rattle.sparse_products.proofs.Cited.{rules, nat_tests, ◌≡◌, ℕ, ◌+◌, ◌<◌, Bool, true, false, ℤ, pos, negsuc, ◌+ℤ◌, ◌*ℤ◌, List, [], ◌∷◌, length, drop, map, get_or, refl, ap, arith, Option, Some}
use Rattle.sparse_products.proofs.Cited.{None, ◌&&◌, ◌≤◌, if◌then◌else◌, w32, fold, zip, le-ltb, lt-ltb, int_wrap-add_left, int_wrap-add_right, drop_all, drop_more, slice_get_cases, get_or-zip}
use Rattle.sparse_products.proofs.Cited.{length-zip, fitting, element_at, wrap, is_place, at_column, term, are_within, row_value, wrapping}
use Rattle.std.specs.Int.{int_wrap}

-- what follows with the element at a column, if there is one
abbrev pub with_element : Option ℤ → (ℤ → Option ℤ) → Option ℤ
with_element None next = None
with_element (Some y) next = next y

-- the value of the entries, each of whose products is added to a sum by `add`, which `finish` makes the value
abbrev pub value_from : (ℤ → ℤ → ℤ) → (ℤ → Option ℤ) → List ℤ → ℤ → List (ℤ × ℤ) → Option ℤ
value_from add finish x sum [] = finish sum
value_from add finish x sum (entry ∷ row) = with_element (element_at x entry.0) (λ y. value_from add finish x (add sum (entry.1 *ℤ y)) row)

-- ---- what it is

pub there : (x : List ℤ) (column : ℤ) → element_at x column ≡ (if is_place (length x) column then Some (at_column x column) else None)
there x (pos k) = grind (arith, nat_tests, slice_get_cases, lt-ltb, le-ltb)
there x (negsuc k) = refl

one_entry : (inside others : Bool) (y : ℤ) (value : Option ℤ) (next : ℤ → Option ℤ) → next y ≡ (if others then value else None)
    → with_element (if inside then Some y else None) next ≡ (if (inside && others) then value else None)
one_entry true others y value next is = is
one_entry false others y value next is = refl

pub all_entries : (add : ℤ → ℤ → ℤ) (finish : ℤ → Option ℤ) (x : List ℤ) (sum : ℤ) (row : List (ℤ × ℤ))
    → value_from add finish x sum row ≡ (if are_within (length x) row then finish (fold add sum (map (term x) row)) else None)
all_entries add finish x sum [] = refl
all_entries add finish x sum (entry ∷ row) = search (rules, there, one_entry, all_entries add finish x (add sum (term x entry)) row)

-- a sum that is wrapped with each product, which is wrapped, too
abbrev pub add_wrapped : ℤ → ℤ → ℤ
add_wrapped sum product = wrap (sum +ℤ wrap product)

wrapped_once : (products : List ℤ) (sum : ℤ) → fold add_wrapped (wrap sum) products ≡ wrap (fold ◌+ℤ◌ sum products)
wrapped_once [] sum = refl
wrapped_once (t ∷ products) sum = cc (int_wrap-add_left w32 sum (wrap t), int_wrap-add_right w32 sum t, wrapped_once products (sum +ℤ t))

from_zero : (products : List ℤ) → fold add_wrapped (pos 0) products ≡ wrap (fold ◌+ℤ◌ (pos 0) products)
unfolding int_wrap
from_zero products = wrapped_once products (pos 0)

pub wrapped_value : (x : List ℤ) (row : List (ℤ × ℤ)) → value_from add_wrapped Some x (pos 0) row ≡ row_value wrapping x row
wrapped_value x row = cc (all_entries add_wrapped Some x (pos 0) row, from_zero (map (term x) row))

pub fitting_value : (x : List ℤ) (row : List (ℤ × ℤ)) → value_from ◌+ℤ◌ fitting x (pos 0) row ≡ row_value fitting x row
fitting_value x row = all_entries ◌+ℤ◌ fitting x (pos 0) row

-- ---- the loop over the entries

module _ (add : ℤ → ℤ → ℤ) (finish : ℤ → Option ℤ) (x columns values : List ℤ) (as_many : length values ≡ length columns) (k : ℕ) (sum : ℤ) where
  abbrev left : ℕ → List (ℤ × ℤ)
  left n = drop n (zip columns values)

  next : k < length columns → left k ≡ (get_or columns k (pos 0), get_or values k (pos 0)) ∷ left (k + 1)
  next lt = cc (drop_more (zip columns values) k (pos 0, pos 0) (omega (arith, lt, as_many, length-zip columns values)), get_or-zip columns values k (pos 0, pos 0) lt (omega (arith, lt, as_many)))

  entry_read : k < length columns → value_from add finish x sum (left k)
      ≡ with_element (element_at x (get_or columns k (pos 0))) (λ y. value_from add finish x (add sum (get_or values k (pos 0) *ℤ y)) (left (k + 1)))
  entry_read lt = ap (value_from add finish x sum) (next lt)

  -- one entry more, and the sum with its product
  pub entry_added : (y now : ℤ) → k < length columns → element_at x (get_or columns k (pos 0)) ≡ Some y → now ≡ add sum (get_or values k (pos 0) *ℤ y)
      → value_from add finish x sum (left k) ≡ value_from add finish x now (left (k + 1))
  entry_added y now lt is added = cc (entry_read lt, is, added)

  pub entry_outside : k < length columns → element_at x (get_or columns k (pos 0)) ≡ None → value_from add finish x sum (left k) ≡ None
  entry_outside lt is = cc (entry_read lt, is)

  pub entries_done : length columns ≤ k → value_from add finish x sum (left k) ≡ finish sum
  entries_done ge = ap (value_from add finish x sum) (drop_all k (zip columns values) (omega (arith, ge, length-zip columns values)))
