-- The product of a sparse matrix with a vector. The matrix is kept by rows: how many entries each row has, and then the
-- column and the value of each entry, row after row.
-- Source: Blelloch, Vector Models for Data-Parallel Computing, 1990, the product of a sparse matrix with a dense vector.
use Rattle.std.specs.Prelude.{◌≡◌, ℤ, pos, ◌*ℤ◌, unsigned_abs, List, length, map, sum, unwrap_or}
use Rattle.std.specs.List.{zip, AllPass}
use Rattle.cvl_base.specs.Exact.{total_of}
use Rattle.cvl_base.specs.Extracts.{element_at}
use Rattle.cvl_base.specs.Integers.{wrap}
use Rattle.cvl_base.specs.Nests.{cut_of}
use Rattle.cvl_base.specs.Permutes.{is_place}

-- no length is negative, the lengths add up to the number of entries, each entry has a column and a value, and each
-- column is a place of x
pub record IsMatrix (lengths columns values x : List ℤ) : Type 0 where
  pub none_negative : lengths ≡ map pos (map unsigned_abs lengths)
  pub add_up : sum (map unsigned_abs lengths) ≡ length columns
  pub as_many : length values ≡ length columns
  pub within : AllPass (is_place (length x)) columns

-- the element of x at a column
abbrev pub at_column : List ℤ → ℤ → ℤ
at_column x column = unwrap_or (element_at x column) (pos 0)

-- an entry's value times the element of x at its column
abbrev pub term : List ℤ → ℤ × ℤ → ℤ
term x entry = entry.1 *ℤ at_column x entry.0

-- the sum over the entries of a row, of whole numbers
abbrev pub row_total : List ℤ → List (ℤ × ℤ) → ℤ
row_total x row = total_of (map (term x) row)

-- the same, wrapped once
abbrev pub row_product : List ℤ → List (ℤ × ℤ) → ℤ
row_product x row = wrap (row_total x row)

-- the rows, cut from the entries by their lengths
abbrev pub rows_of : List ℤ → List ℤ → List ℤ → List (List (ℤ × ℤ))
rows_of lengths columns values = cut_of (map unsigned_abs lengths) (zip columns values)

-- the product: one element a row, the sum of its values times the elements at their columns
abbrev pub product_of : List ℤ → List ℤ → List ℤ → List ℤ → List ℤ
product_of lengths columns values x = map (row_product x) (rows_of lengths columns values)
