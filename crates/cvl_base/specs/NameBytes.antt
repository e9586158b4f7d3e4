-- How a name's bytes lie in memory.
-- Source: this library's own layout.
use Rattle.std.specs.Prelude.{ℕ, ◌-◌, ◌++◌, List, length, replicate}
use Rattle.cvl_base.specs.Limits.{most_word_bytes}

-- the bytes, and zeros up to the greatest length of a word
abbrev pub padded : List ℕ → List ℕ
padded bytes = bytes ++ replicate (most_word_bytes - length bytes) 0
