-- Combining permutes by an operator that may be none, whose caller may get anything wrong.
-- Source: this library's combining permutes, in its profile of calls for callers of another language.
use Rattle.std.specs.Prelude.{ℤ, List, Result}
use Rattle.c_calls.specs.Calls.{by_operator, by_segments, in_limit}
use Rattle.combining_permutes.specs.CombiningPermutes.{combine_of, seg_combine_of}
use Rattle.cvl_base.specs.declared.fault.Fault.{Fault}

module _ {O X : Type 0} (operator : Result O Fault) (join_of : O → X → X → X) where
  -- what stands in a room, joined with the elements that are sent to it
  abbrev pub combine_by : List X → List ℤ → List X → Result (List X) Fault
  combine_by source index room = by_operator operator (λ o. in_limit index (in_limit room (combine_of (join_of o) source index room)))

  -- the same in segments, of which each has a segment of the room
  abbrev pub seg_combine_by : List X → List ℤ → List ℤ → List ℤ → List X → Result (List X) Fault
  seg_combine_by source index lengths room_lengths room =
      by_operator operator (λ o. by_segments lengths (λ d. by_segments room_lengths
      (λ e. seg_combine_of (join_of o) source index d e room)))
