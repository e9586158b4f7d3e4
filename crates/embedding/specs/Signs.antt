-- The slots of numbers, by their sign: 0 for those below zero, 1 for zero, and 2 for those above.
-- Source: this example.
use Rattle.std.specs.Prelude.{ℕ, ℤ, pos, negsuc, ◌==◌, if◌then◌else◌}

-- the slot of a number
abbrev pub slot_of : ℤ → ℕ
slot_of (negsuc n) = 0
slot_of (pos n) = if n == 0 then 1 else 2
