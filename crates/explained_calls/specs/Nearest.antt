-- The nearest of some known words, if it is near enough to be meant.
-- Source: V. I. Levenshtein, Binary codes capable of correcting deletions, insertions, and reversals, 1966.
use Rattle.std.specs.Prelude.{ℕ, nat_le, nat_lt, nat_eq, List, [], ◌∷◌, length, map, Option, Some, None, option_and_then, if◌then◌else◌}
use Rattle.std.specs.List.{best_of}
use Rattle.strsim.specs.Edits.{levenshtein_row}
use Rattle.cvl_base.specs.Calls.{spelling_of}
use Rattle.cvl_base.specs.Spellings.{calls}

-- how many bytes to insert, delete or change
abbrev pub distance : List ℕ → List ℕ → ℕ
distance word known = levenshtein_row nat_eq word known (length known)

-- the known word at the least distance, the first if several are
abbrev pub nearest : List ℕ → List (List ℕ) → Option (List ℕ)
nearest word [] = None
nearest word (first ∷ others) = Some (best_of (λ a b. nat_lt (distance word a) (distance word b)) first others)

-- a known word, if at most two bytes set it apart
abbrev pub if_near : List ℕ → List ℕ → Option (List ℕ)
if_near word known = if nat_le (distance word known) 2 then Some known else None

-- the nearest known word, if it is near
abbrev pub near : List ℕ → List (List ℕ) → Option (List ℕ)
near word known = option_and_then (if_near word) (nearest word known)

-- the names of the calls, in the order of their families
abbrev pub call_names : List (List ℕ)
call_names = map spelling_of calls
