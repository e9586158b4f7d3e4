-- The transpose of a matrix in row order.
-- Source: the transpose of a matrix, stored by rows, as a back permute of CVL; the fault is this library's profile.
use Rattle.std.specs.Prelude.{◌≡◌, ℕ, ◌+◌, ◌-◌, ◌*◌, ◌/◌, ◌%◌, ◌<◌, ◌≤◌, ◌⊎◌, ◌==◌, not, ℤ, pos}
use Rattle.std.specs.Prelude.{List, drop, length, map, nat_lt, slice_index_or, take, Result, Ok}
use Rattle.std.specs.List.{range_with_len}
use Rattle.cvl_base.specs.declared.fault.Fault.{Fault}
use Rattle.cvl_base.specs.declared.fault.FaultNo.TheVariants.{LengthMismatch}
use Rattle.cvl_base.specs.Faults.{fault}
use Rattle.cvl_base.specs.Gives.{◌>>=◌, fault_if}
use Rattle.cvl_base.specs.Permutes.{back_of}

-- where the elements of the transpose come from: its place i is in row i / rows, at i % rows, and takes element i / rows of row i % rows
abbrev pub sources_of : ℕ → ℕ → List ℤ
sources_of rows columns = map (λ i. pos (i % rows * columns + i / rows)) (range_with_len 0 (rows * columns))

-- the transpose of a matrix of so many rows and columns, or LengthMismatch if it has not so many elements
abbrev pub transpose_of : {X : Type 0} → ℕ → ℕ → List X → Result (List X) Fault
transpose_of rows columns xs = fault_if (not (rows * columns == length xs)) (fault LengthMismatch) (back_of xs (sources_of rows columns))

-- so many places of the transpose, from place `lowest` on; the fault if they end beyond its last one
abbrev pub transpose_range_of : {X : Type 0} → ℕ → ℕ → ℕ → ℕ → List X → Result (List X) Fault
transpose_range_of rows columns lowest count xs =
    fault_if (nat_lt (length xs) (lowest + count)) (fault LengthMismatch)
    (transpose_of rows columns xs >>= λ turned. Ok (take count (drop lowest turned)))

-- Places of the transpose from place `lowest` on: each has the element of its row and column, counted as those of the matrix.
abbrev pub AreTurned : {X : Type 0} → ℕ → ℕ → ℕ → List X → List X → Type 0
AreTurned {X} rows columns lowest xs now = (r c : ℕ) (d : X) → r < rows → lowest ≤ c * rows + r → c * rows + r < lowest + length now
    → slice_index_or now (c * rows + r - lowest) d ≡ slice_index_or xs (r * columns + c) d

-- In a matrix whose columns count from column `from` on, each element of the rows from `top` up to before `bottom` and the columns from
-- `left` up to before `right` stands at its place in the transpose, and the places of other elements are as before.
pub record IsTransposedIn {X : Type 0} (rows columns from top bottom left right : ℕ) (xs before now : List X) : Type 0 where
  pub moved : (r c : ℕ) (d : X) → top ≤ r → r < bottom → left ≤ c → c < right
      → slice_index_or now (c * rows + r) d ≡ slice_index_or xs (r * columns + (from + c)) d
  pub other_rows : (r c : ℕ) (d : X) → r < rows → (r < top) ⊎ (bottom ≤ r)
      → slice_index_or now (c * rows + r) d ≡ slice_index_or before (c * rows + r) d
  pub other_columns : (r c : ℕ) (d : X) → r < rows → (c < left) ⊎ (right ≤ c)
      → slice_index_or now (c * rows + r) d ≡ slice_index_or before (c * rows + r) d
