-- The lines and columns of places in an input.
-- Source: this library's input formats.
use Rattle.std.specs.Prelude.{ℕ, ◌+◌, ◌==◌, List, [], ◌∷◌, count_by, take, if◌then◌else◌}

-- the line of a place, counted from 1: line feeds (10) end lines
abbrev pub line_at : List ℕ → ℕ → ℕ
line_at bytes place = count_by (λ b. b == 10) (take place bytes) + 1

-- the column after bytes, the first of which stands in this one: a line feed ends the line
abbrev pub column_behind : ℕ → List ℕ → ℕ
column_behind column [] = column
column_behind column (b ∷ bs) = if b == 10 then column_behind 1 bs else column_behind (column + 1) bs

-- the column of a place, counted from 1 in bytes
abbrev pub column_at : List ℕ → ℕ → ℕ
column_at bytes place = column_behind 1 (take place bytes)
