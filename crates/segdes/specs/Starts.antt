-- Where the segments of a descriptor start in the vector beside it.
-- Source: CVL's segmented vectors, whose segments lie one after another.
use Rattle.std.specs.Prelude.{◌≡◌, ℕ, ◌+◌, ◌<◌, ◌≤◌, List, length, take, sum, slice_index, EachIndex}
use Rattle.cvl_base.specs.Limits.{most_places}

-- segment s starts after the segments before it
abbrev pub start_of : List ℕ → ℕ → ℕ
start_of lengths s = sum (take s lengths)

-- the starts of the segments with these lengths, one for each
pub record AreStarts (lengths starts : List ℕ) : Type 0 where
  pub one_each : length starts ≡ length lengths
  pub sums : EachIndex lengths (λ s. slice_index starts s ≡ start_of lengths s)

-- what a descriptor keeps beside its lengths
pub record IsKept (lengths starts : List ℕ) (total : ℕ) : Type 0 where
  pub starts_are : AreStarts lengths starts
  pub total_is : total ≡ sum lengths
  pub in_limit : total ≤ most_places

-- the places from `first` up to the one before `past` begin after the first `from` elements of segment `begin`, and `last` is the last
-- segment that starts before their end
pub record Spans (lengths : List ℕ) (first past begin from last : ℕ) : Type 0 where
  pub in_order : begin ≤ last
  pub within : last < length lengths
  pub begins : start_of lengths begin + from ≡ first
  pub inside : from ≤ slice_index lengths begin
  pub some : start_of lengths last < past
  pub ends : past ≤ start_of lengths (last + 1)
