-- The answer of the product of a sparse matrix with a vector: the product, or the first fault.
-- Source: the product by four calls of CVL, whose faults come in their order: a descriptor is made of the lengths, the elements at the
-- columns are gathered, the values are multiplied with them, and each segment is added up. Offsets are those of compressed sparse rows.
use Rattle.std.specs.Prelude.{ℕ, ℤ, pos, ◌-ℤ◌, not, List, [], ◌∷◌, map, option_map, position, Result, Ok, Err, length}
use Rattle.std.specs.Int.{is_negative}
use Rattle.std.specs.List.{zip}
use Rattle.std.specs.Ordering.{int_eq}
use Rattle.cvl_base.specs.declared.fault.Fault.{Fault}
use Rattle.cvl_base.specs.declared.fault.FaultNo.TheVariants as no
use Rattle.cvl_base.specs.CheckedSums.{fitting}
use Rattle.cvl_base.specs.Descriptors.{descriptor_of}
use Rattle.cvl_base.specs.Elementwise.{if_as_long, values_from}
use Rattle.cvl_base.specs.Faults.{fault, fault_at}
use Rattle.cvl_base.specs.Gives.{◌>>=◌, fault_if, unless}
use Rattle.cvl_base.specs.Nests.{nest}
use Rattle.permute_walks.specs.Indices.{first_outside}
use Rattle.sparse_products.specs.Products.{row_product, row_total}

-- the rows with these lengths, each as its entries, a column beside a value. The fault of the first column that is none of so many places,
-- or of columns and values that differ in number, or of lengths that don't add up to it
abbrev pub rows_within : ℕ → List ℕ → List ℤ → List ℤ → Result (List (List (ℤ × ℤ))) Fault
rows_within places lengths columns values =
    unless (first_outside 0 places columns) (if_as_long values columns (nest lengths (zip columns values)))

-- the product of the rows with these lengths
abbrev pub rows_product : List ℕ → List ℤ → List ℤ → List ℤ → Result (List ℤ) Fault
rows_product lengths columns values x =
    rows_within (length x) lengths columns values >>= λ rows. Ok (map (row_product x) rows)

-- the same in whole numbers, with the fault of the first row whose sum doesn't fit 32 bits
abbrev pub checked_rows_product : List ℕ → List ℤ → List ℤ → List ℤ → Result (List ℤ) Fault
checked_rows_product lengths columns values x =
    rows_within (length x) lengths columns values
    >>= λ rows. values_from no.Overflow 0 (map (λ row. fitting (row_total x row)) rows)

-- the product of a matrix by the lengths of its rows, with the limit of scripts and sessions
abbrev pub sparse_product_of : List ℤ → List ℤ → List ℤ → List ℤ → Result (List ℤ) Fault
sparse_product_of lengths columns values x = descriptor_of lengths >>= λ sizes. rows_product sizes columns values x

-- the checked product by the lengths of the rows, whose faults come first
abbrev pub checked_sparse_product_of : List ℤ → List ℤ → List ℤ → List ℤ → Result (List ℤ) Fault
checked_sparse_product_of lengths columns values x =
    descriptor_of lengths >>= λ sizes. checked_rows_product sizes columns values x

-- ---- offsets: row r has the entries from the one at offset r to the one before offset r + 1

-- each offset, less the one before it
abbrev pub lengths_after : ℤ → List ℤ → List ℤ
lengths_after before [] = []
lengths_after before (offset ∷ offsets) = (offset -ℤ before) ∷ lengths_after offset offsets

-- the numbers, or the fault of the first negative one
abbrev pub none_negative : List ℤ → Result (List ℤ) Fault
none_negative numbers = unless (option_map (fault_at no.NegativeLength) (position is_negative numbers)) (Ok numbers)

-- the lengths of the rows between offsets, the first of which is 0. The fault of another first one, or of none, or of the first row with a
-- negative length. That the last is the number of entries is what the lengths add up to
abbrev pub row_lengths_of : List ℤ → Result (List ℤ) Fault
row_lengths_of [] = Err (fault no.LengthMismatch)
row_lengths_of (first ∷ offsets) =
    fault_if (not (int_eq first (pos 0))) (fault no.LengthMismatch) (none_negative (lengths_after first offsets))

-- the product of a matrix by the offsets of its rows
abbrev pub sparse_product_by_offsets_of : List ℤ → List ℤ → List ℤ → List ℤ → Result (List ℤ) Fault
sparse_product_by_offsets_of offsets columns values x =
    row_lengths_of offsets >>= λ lengths. sparse_product_of lengths columns values x

-- the checked product by offsets, whose faults come first
abbrev pub checked_sparse_product_by_offsets_of : List ℤ → List ℤ → List ℤ → List ℤ → Result (List ℤ) Fault
checked_sparse_product_by_offsets_of offsets columns values x =
    row_lengths_of offsets >>= λ lengths. checked_sparse_product_of lengths columns values x
