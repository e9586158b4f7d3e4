-- Where the parts of a text begin, which is cut at white space.
-- Source: this library's input format, in which white space stands between the tokens.
use Rattle.std.specs.Prelude.{◌≡◌, ℕ, zero, suc, ◌+◌, ◌-◌, ◌<◌, ◌≤◌, ◌⊎◌, IsTrue, List, drop, length, map, slice_index, Result, Ok}
use Rattle.std.specs.List.{position_or_len, range_with_len}
use Rattle.cvl_base.specs.declared.fault.Fault.{Fault}
use Rattle.cvl_base.specs.Gives.{◌>>=◌}
use Rattle.call_reader.specs.Inputs.{is_white_space}
use Rattle.part_cuts.specs.Evenly.{even_place, parts_of}

-- the first white space of a text from a place on, or the text's end
abbrev pub white_from : List ℕ → ℕ → ℕ
white_from text place = place + position_or_len is_white_space (drop place text)

-- where a part begins: the first at the front, and each other at the first white space from where an even part begins on
abbrev pub white_place : List ℕ → ℕ → ℕ → ℕ
white_place text parts zero = 0
white_place text parts (suc k) = white_from text (even_place (length text) parts (suc k))

-- where each part begins, at last where all parts end
abbrev pub white_places : List ℕ → ℕ → List ℕ
white_places text parts = map (white_place text parts) (range_with_len 0 (parts + 1))

-- so many places of parts that are cut at white space
abbrev pub white_places_of : ℕ → List ℕ → Result (List ℕ) Fault
white_places_of places text = parts_of places >>= λ parts. Ok (white_places text parts)

-- what it means that a text is cut at white space: its parts begin at ascending places, from its front up to its end, and each but the
-- first begins at white space, or at the text's end
pub record IsCutAtWhite (text places : List ℕ) : Type 0 where
  pub begins : slice_index places 0 ≡ 0
  pub ends : slice_index places (length places - 1) ≡ length text
  pub ascends : (i j : ℕ) → i ≤ j → j < length places → slice_index places i ≤ slice_index places j
  pub at_white : (k : ℕ) → 0 < k → k < length places
      → (slice_index places k ≡ length text) ⊎ IsTrue (is_white_space (slice_index text (slice_index places k)))
