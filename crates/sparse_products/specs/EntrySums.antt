-- Sums of the first entries of some rows, from which each row gets its own sum.
-- Source: a sum over a row is the sum up to its end, less the one up to its start.
use Rattle.std.specs.Prelude.{◌≡◌, ℕ, ◌+◌, ◌≤◌, ℤ, pos, ◌-ℤ◌, true, List, [], ◌∷◌, length, slice_index_or, take}
use Rattle.cvl_base.specs.Integers.{wrap}
use Rattle.sparse_products.specs.Products.{row_total}
use Rattle.sparse_products.specs.Rows.{are_within}

-- each column is a place of x, and the sum of the first k entries stands at k, wrapped
pub record AreSums (x : List ℤ) (entries : List (ℤ × ℤ)) (sums : List ℤ) : Type 0 where
  pub within : are_within (length x) entries ≡ true
  pub each : (k : ℕ) → k ≤ length entries → slice_index_or sums k (pos 0) ≡ wrap (row_total x (take k entries))

-- the sum of each of the rows with these lengths, the first of which starts at a place
abbrev pub between : List ℤ → ℕ → List ℕ → List ℤ
between sums start [] = []
between sums start (n ∷ lengths) =
    wrap (slice_index_or sums (start + n) (pos 0) -ℤ slice_index_or sums start (pos 0)) ∷ between sums (start + n) lengths
