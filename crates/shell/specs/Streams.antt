-- What a writer does with a message: it takes the whole, or a beginning that is not the whole.
-- Source: this library's program.
use Rattle.std.specs.Prelude.{ℕ, ◌<◌, Bool, true, false, List, length, take, Option}
use Rattle.script_runs.specs.Hosts.{IsTold, with_more}

-- what a writer has taken of a message, by whether it says that it took the whole
abbrev pub WritesWhole : Option (List ℕ) → List ℕ → Bool → Option (List ℕ) → Type 0
WritesWhole before bytes true after = IsTold (with_more bytes before) after
WritesWhole before bytes false after =
    (n : ℕ) × (n < length bytes) × IsTold (with_more (take n bytes) before) after
