-- An input that is read in pieces, each by a thread of its own.
-- Source: the grammar of an input.
use Rattle.std.specs.Prelude.{ℕ, ◌≤◌, Bool, not, ◌&&◌, IsTrue, List, drop, length, map, Option, unwrap_or, ℤ, pos}
use Rattle.std.specs.List.{list_all}
use Rattle.sharing.specs.Shares.{share_of_first}
use Rattle.line_reader.specs.Tokens.{tokens_by, begins_in_token}
use Rattle.line_reader.specs.Numbers.{written_number}
use Rattle.call_reader.specs.Inputs.{input_class}

-- the number of each token; none for a token that is no number
abbrev pub numbers_of : List ℕ → List (Option ℤ)
numbers_of bytes = map written_number (tokens_by input_class bytes)

-- a zero stands for a token that is no number
abbrev pub or_zero : Option ℤ → ℤ
or_zero v = unwrap_or v (pos 0)

-- whether bytes, after white space or not, continue a token that began before them
abbrev pub goes_on : Bool → List ℕ → Bool
goes_on behind_white_space bytes = not behind_white_space && begins_in_token input_class bytes

-- the front of the bytes for the first few of the threads is their share, and those after it that belong to it
pub record IsFrontFor (few threads : ℕ) (belongs : ℕ → Bool) (bytes front : List ℕ) : Type 0 where
  pub share : share_of_first few threads (length bytes) ≤ length front
  pub behind : IsTrue (list_all belongs (drop (share_of_first few threads (length bytes)) front))
