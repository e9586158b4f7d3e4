-- What callers see of a sink in memory.
-- Source: this library.
use Rattle.std.specs.Prelude.{ℕ, List}

-- the bytes that it has taken, how often it failed, and how many bytes it can hold without asking for memory
pub record Kept : Type 0 where
  pub bytes : List ℕ
  pub failures : ℕ
  pub room : ℕ
