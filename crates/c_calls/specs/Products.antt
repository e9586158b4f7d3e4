-- Products of sparse matrices with vectors if a caller may get anything wrong: first the lengths or the offsets of the rows are checked,
-- then the number of entries, and then come the product's own faults.
-- Source: compressed sparse rows, in this library's profile of calls for callers of another language.
use Rattle.std.specs.Prelude.{ℤ, List, Result}
use Rattle.cvl_base.specs.declared.fault.Fault.{Fault}
use Rattle.c_calls.specs.Calls.{by_row_offsets, by_segments, in_limit}
use Rattle.sparse_products.specs.Answers.{checked_rows_product, rows_product}

-- the product by the lengths of the rows, wrapped to 32 bits
abbrev pub product_of : List ℤ → List ℤ → List ℤ → List ℤ → Result (List ℤ) Fault
product_of lengths columns values x =
    by_segments lengths (λ rows. in_limit columns (rows_product rows columns values x))

-- the same in whole numbers
abbrev pub checked_product_of : List ℤ → List ℤ → List ℤ → List ℤ → Result (List ℤ) Fault
checked_product_of lengths columns values x =
    by_segments lengths (λ rows. in_limit columns (checked_rows_product rows columns values x))

-- both by the offsets of the rows
abbrev pub product_by_offsets_of : List ℤ → List ℤ → List ℤ → List ℤ → Result (List ℤ) Fault
product_by_offsets_of offsets columns values x =
    by_row_offsets offsets (λ lengths. product_of lengths columns values x)

-- the checked product by the offsets of the rows
abbrev pub checked_product_by_offsets_of : List ℤ → List ℤ → List ℤ → List ℤ → Result (List ℤ) Fault
checked_product_by_offsets_of offsets columns values x =
    by_row_offsets offsets (λ lengths. checked_product_of lengths columns values x)
