-- Rows one behind another: where they end, and that places of two rows differ.
use Rattle.std.proofs.Common.{ℕ, ◌+◌, ◌*◌, ◌<◌, ◌≤◌, arith}
use Rattle.std.proofs.Math.Nat.{mul-le-mul_left}

pub row_within : (rows columns c : ℕ) → c < columns → c * rows + rows ≤ rows * columns
row_within rows columns c lt = let h : c + 1 ≤ columns = omega arith in omega (arith, mul-le-mul_left rows h)

pub row_before : (rows c later r : ℕ) → r < rows → c < later → c * rows + r < later * rows
row_before rows c later r lt before = let h : c + 1 ≤ later = omega arith in omega (arith, lt, mul-le-mul_left rows h)

pub element_within : (rows columns r c : ℕ) → r < rows → c < columns → r * columns + c < rows * columns
element_within rows columns r c lt below = let h : r + 1 ≤ rows = omega arith in omega (arith, below, mul-le-mul_left columns h)
