-- What goes on behind each part of a segmented vector that is cut at any places: the elements up to the next start of a segment, joined.
-- Source: the pair operator of Blelloch's segmented scans (Vector Models for Data-Parallel Computing, 1990), from the last part on.
use Rattle.std.specs.Prelude.{Bool, List, [], ◌∷◌, Result, Ok, if◌then◌else◌}
use Rattle.std.specs.List.{zip}
use Rattle.cvl_base.specs.declared.fault.Fault.{Fault}
use Rattle.cvl_base.specs.Elementwise.{if_as_long}

module _ {Item : Type 0} (join : Item → Item → Item) (unit : Item) where
  -- what goes on where some parts begin: the elements up to the next start, joined. Each part is a pair: whether a segment starts in it,
  -- and what its head, the elements before its first start, joins to
  abbrev pub goes_on : List (Bool × Item) → Item
  goes_on [] = unit
  goes_on ((starts, head) ∷ parts) = if starts then head else join head (goes_on parts)

  -- behind each part, what goes on where the next one begins
  abbrev pub behind_each : List (Bool × Item) → List Item
  behind_each [] = []
  behind_each (part ∷ parts) = goes_on parts ∷ behind_each parts

  -- what goes on behind each part, or LengthMismatch if the lists are not equally long
  abbrev pub seg_behinds_of : List Bool → List Item → Result (List Item) Fault
  seg_behinds_of starts told = if_as_long starts told (Ok (behind_each (zip starts told)))
