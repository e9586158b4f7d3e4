-- How the sentences of an explanation are made.
-- Source: this library's program.
use Rattle.std.specs.Prelude.{ℕ, ◌==◌, List, [], ◌++◌, codes, if◌then◌else◌}
use Rattle.std.specs.Fmt.{decimal}
use Rattle.explained_calls.specs.Shown.{shown_front}

-- a line of an explanation
abbrev pub indented : List ℕ → List ℕ
indented words = codes "  " ++ words ++ codes "\n"

-- a token as it is shown; a long one as the characters of its first 40 bytes
abbrev pub shortened : List ℕ → List ℕ
shortened token = shown_front 40 token

-- `1 name`, `2 names`
abbrev pub ending : ℕ → List ℕ
ending count = if count == 1 then [] else codes "s"

-- a number with the name of what it counts, in the plural unless it is 1
abbrev pub counted : ℕ → List ℕ → List ℕ
counted count thing = decimal count ++ codes " " ++ thing ++ ending count
