-- One part of a permute: its owner reads all indices, writes the elements of its range of the result, marks and counts the places that get
-- one. The words of its marks may be more than the range needs, and the others stay as they are.
-- Source: CVL's permute, d[i[k]] = s[k]; the ranges are this library's.
use Rattle.std.specs.Prelude.{ℕ, ◌==◌, ℤ, Bool, nat_lt, not, List, ◌++◌, drop, length, map, Option, Result, Ok}
use Rattle.cvl_base.specs.declared.fault.Fault.{Fault}
use Rattle.cvl_base.specs.declared.fault.FaultNo.TheVariants.{LengthMismatch}
use Rattle.cvl_base.specs.Elementwise.{if_as_long}
use Rattle.cvl_base.specs.Faults.{fault}
use Rattle.cvl_base.specs.Gives.{◌>>=◌, fault_if}
use Rattle.cvl_base.specs.Permutes.{all_destinations, flagged_destinations}
use Rattle.flag_calls.specs.Flags.{as_flag}
use Rattle.part_calls.specs.Limits.{range_within}
use Rattle.part_calls.specs.Ranges.{count_of_range, marks_of_range, room_of_range}
use Rattle.permute_walks.specs.Marks.{words_for}

-- The call of a part, if neither its indices nor its range go beyond the longest vector, there is an index for each element, and there are
-- words enough for a mark of each place.
abbrev pub if_part : {Y : Type 0} → ℕ → ℕ → ℕ → ℕ → ℕ → Result Y Fault → Result Y Fault
if_part elements indices from places words call =
    range_within indices from places
    (fault_if (not (elements == indices)) (fault LengthMismatch) (fault_if (nat_lt words (words_for places)) (fault LengthMismatch) call))

module _ {X : Type 0} where
  -- what a part leaves in its room and its words of marks, and what it counts
  abbrev pub part_of : List X → List (Option ℤ) → ℕ → List X → List ℕ → List X × List ℕ × ℕ
  part_of source destinations from room marks =
      let n = length room in (
        room_of_range source destinations from room,
        marks_of_range destinations from n ++ drop (words_for n) marks,
        count_of_range destinations from n,
      )

  -- one part of a simple permute, whose range begins at place `from`
  abbrev pub part_permute_of : List X → List ℤ → ℕ → List X → List ℕ → Result (List X × List ℕ × ℕ) Fault
  part_permute_of source index from room marks =
      if_part (length source) (length index) from (length room) (length marks)
      (Ok (part_of source (all_destinations index) from room marks))

  -- one part of a select permute
  abbrev pub part_select_of : List X → List ℤ → List Bool → ℕ → List X → List ℕ → Result (List X × List ℕ × ℕ) Fault
  part_select_of source index flags from room marks =
      if_part (length source) (length index) from (length room) (length marks)
      (if_as_long index flags (Ok (part_of source (flagged_destinations index flags) from room marks)))

  -- one part of a default permute, whose room has the part's range of the defaults first
  abbrev pub part_default_of : List X → List ℤ → ℕ → List X → List X → List ℕ → Result (List X × List ℕ × ℕ) Fault
  part_default_of source index from defaults room marks =
      if_part (length source) (length index) from (length room) (length marks)
      (if_as_long defaults room (Ok (part_of source (all_destinations index) from defaults marks)))

-- the same of bytes, all of which are made 0 or 1
abbrev pub as_flags_in : Result (List ℕ × List ℕ × ℕ) Fault → Result (List ℕ × List ℕ × ℕ) Fault
as_flags_in meaning = meaning >>= λ left. Ok (map as_flag left.0, left.1, left.2)
