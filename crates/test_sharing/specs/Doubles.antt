-- What the tests write.
use Rattle.std.specs.Prelude.{ℕ, ◌*◌}

-- twice a number
abbrev pub double : ℕ → ℕ
double n = 2 * n
