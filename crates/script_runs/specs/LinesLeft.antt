-- What is left of a script while its lines are taken in order: the bytes after the last line feed, or nothing after the last line.
-- Source: this library.
use Rattle.std.specs.Prelude.{ℕ, ◌+◌, List, [], length, Option, Some, None}
use Rattle.script_runs.specs.Meaning.{lines_of}

-- the lines that are left to run
abbrev pub lines_left : Option (List ℕ) → List (List ℕ)
lines_left None = []
lines_left (Some bytes) = lines_of bytes

-- each line left counts one, besides its bytes
abbrev pub bytes_left : Option (List ℕ) → ℕ
bytes_left None = 0
bytes_left (Some bytes) = length bytes + 1
