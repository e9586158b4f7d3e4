-- Permutes by ranges of their result: a range's owner reads all indices, writes the elements of the range, and counts its places that get
-- one.
-- Source: CVL's permute, d[i[k]] = s[k]; the ranges are this library's.
use Rattle.std.specs.Prelude.{◌≡◌, ℕ, ◌==◌, ℤ, Bool, not, List, length, MatchResult, Option, Result, Ok, Err}
use Rattle.cvl_base.specs.declared.fault.Fault.{Fault}
use Rattle.cvl_base.specs.declared.fault.FaultNo.TheVariants.{LengthMismatch}
use Rattle.cvl_base.specs.Elementwise.{if_as_long}
use Rattle.cvl_base.specs.Faults.{fault}
use Rattle.cvl_base.specs.Gives.{fault_if}
use Rattle.cvl_base.specs.Permutes.{all_destinations, flagged_destinations}
use Rattle.part_calls.specs.Limits.{range_within}
use Rattle.permute_walks.specs.Marks.{mark_words, words_for}
use Rattle.permute_walks.specs.Senders.{count_sent, last_senders, sent_marks, written_over}

-- what is written over a room for the places from `low` on; of several elements that are sent to one place the last stays
abbrev pub room_of_range : {X : Type 0} → List X → List (Option ℤ) → ℕ → List X → List X
room_of_range source destinations low room = written_over source (last_senders 0 destinations low (length room)) room

-- which of the n places from `low` on get an element: a bit for each
abbrev pub marks_of_range : List (Option ℤ) → ℕ → ℕ → List ℕ
marks_of_range destinations low n = mark_words (sent_marks (last_senders 0 destinations low n))

-- a room with a bit for each of its places, 32 in a word
abbrev pub if_marked : {X Z : Type 0} → List X → List ℕ → Result Z Fault → Result Z Fault
if_marked room marks rest = fault_if (not (words_for (length room) == length marks)) (fault LengthMismatch) rest

-- how many of them; a place counts once
abbrev pub count_of_range : List (Option ℤ) → ℕ → ℕ → ℕ
count_of_range destinations low n = count_sent (last_senders 0 destinations low n)

module _ {X : Type 0} where
  -- what a range's owner leaves in its room and its marks, and what it counts
  abbrev pub range_of : List X → List (Option ℤ) → ℕ → List X → List X × List ℕ × ℕ
  range_of source destinations low room =
      let n = length room in
      (room_of_range source destinations low room, marks_of_range destinations low n, count_of_range destinations low n)

  -- one range of a simple permute, or of a default permute if the room holds the defaults
  abbrev pub simple_range_of : List X → List ℤ → ℕ → List X → List ℕ → Result (List X × List ℕ × ℕ) Fault
  simple_range_of source index low room marks =
      range_within (length index) low (length room)
      (if_as_long source index (if_marked room marks (Ok (range_of source (all_destinations index) low room))))

  -- one range of a select permute
  abbrev pub select_range_of : List X → List ℤ → List Bool → ℕ → List X → List ℕ → Result (List X × List ℕ × ℕ) Fault
  select_range_of source index flags low room marks =
      range_within (length index) low (length room)
      (if_as_long source index (if_as_long index flags (if_marked room marks
      (Ok (range_of source (flagged_destinations index flags) low room)))))

  -- The room and the marks hold what the definition gives, and the answer is its count; or there is a fault, and both are as they were.
  abbrev pub WritesRange : Result (List X × List ℕ × ℕ) Fault → Result ℕ Fault → List X × List ℕ → List X × List ℕ → Type 0
  WritesRange meaning answer before now =
      MatchResult answer (λ count. meaning ≡ Ok (now.0, now.1, count)) (λ f. (meaning ≡ Err f) × (now ≡ before))
