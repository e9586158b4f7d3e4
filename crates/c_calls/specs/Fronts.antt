-- Two lists at the fronts of two rooms, whose lengths a caller may not know.
-- Source: this library's header.
use Rattle.std.specs.Prelude.{◌≡◌, ℕ, ◌⊎◌, List, length, Result, Ok, Err}
use Rattle.cvl_base.specs.declared.fault.Fault.{Fault}
use Rattle.cvl_base.specs.Gives.{◌>>=◌}
use Rattle.c_calls.specs.declared.status.CvlStatus.{CvlStatus}
use Rattle.c_calls.specs.Told.{Front, Told, at_front, no_resources}

module _ {X Y : Type 0} where
  -- each list at the front of its room, whose rest is as before, else the fault of lengths that differ
  abbrev pub at_fronts : List X × List Y → List X × List Y → Result (List X × List Y) Fault
  at_fronts rooms lists = at_front rooms.0 lists.0 >>= λ first. at_front rooms.1 lists.1 >>= λ second. Ok (first, second)

  -- how many items each list has, else what the counts were before
  abbrev pub counts_or : ℕ × ℕ → Result (List X × List Y) Fault → ℕ × ℕ
  counts_or before (Ok lists) = (length lists.0, length lists.1)
  counts_or before (Err f) = before

  -- the rooms of both lists
  abbrev pub both_rooms : Front X × Front Y → List X × List Y
  both_rooms fronts = (fronts.0.room, fronts.1.room)

  -- the counts of both
  abbrev pub both_counts : Front X × Front Y → ℕ × ℕ
  both_counts fronts = (fronts.0.count, fronts.1.count)

  -- Each list stands at the front of its room, or a room is too short and both are as before; in both cases the counts are the lists'
  -- lengths. Or the answer is the fault, and rooms and counts are as before.
  abbrev pub FrontsTold : Result (List X × List Y) Fault → CvlStatus → Front X × Front Y → Front X × Front Y → Type 0
  FrontsTold meaning status before now =
      Told (meaning >>= at_fronts (both_rooms before)) status (both_rooms before) (both_rooms now)
      × (both_counts now ≡ counts_or (both_counts before) meaning)

  -- The same, or memory ran out and rooms and counts are as before.
  abbrev pub FrontsToldOr : Result (List X × List Y) Fault → CvlStatus → Front X × Front Y → Front X × Front Y → Type 0
  FrontsToldOr meaning status before now = FrontsTold meaning status before now ⊎ ((status ≡ no_resources) × (now ≡ before))
