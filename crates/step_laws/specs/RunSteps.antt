-- The steps of runs of equal neighbours in parts, each by what its export is proved to do. The whole vector is there for each part to read.
-- Source: reduce_by_key of Thrust over tiles; the parts are this library's.
use Rattle.std.specs.Prelude.{◌≡◌, ◌+◌, ℕ, pos, Bool, List, length, map}
use Rattle.std.specs.List.{AllZip}
use Rattle.c_calls.specs.Told.{FrontTold, RoomTold, Told, done, front_of}
use Rattle.c_calls.specs.declared.status.CvlStatus.{CvlStatus}
use Rattle.run_parts.specs.Calls.{part_run_counts_by, part_runs_by, run_fronts_by}
use Rattle.run_parts.specs.Places.{RunLayout, run_layout_by, run_layout_or, runs_fitted}
use Rattle.run_parts.specs.Puts.{put_lengths_of, put_starts_of}
use Rattle.run_parts.specs.Runs.{begin_or, run_lengths_of}
use Rattle.step_laws.specs.ReduceSteps.{IntGoesOn}
use Rattle.step_laws.specs.RunParts.{FillsAlone, PartsAlone, RunPart, TellsAlone, parts_of, places_of}

module _ {X : Type 0} (differ : X → X → Bool) where
  -- a part tells the lengths of the runs that begin in it, how many they are, and where the first begins, whatever it answers
  abbrev pub TellsRuns : List X → RunPart X → RunPart X → Type 0
  TellsRuns xs own left =
      ((status : CvlStatus)
      × FrontTold (run_lengths_of (part_runs_by differ own.from (length own.own) own.part.head (map pos own.part.lengths) xs)) status
      (front_of own.own own.count) (front_of left.own left.count))
      × (left.begin
      ≡ begin_or own.begin (own.from + length own.own)
      (part_runs_by differ own.from (length own.own) own.part.head (map pos own.part.lengths) xs))
      × TellsAlone own left

  -- a part tells how many runs begin in its head
  abbrev pub TellsFronts : List X → RunPart X → RunPart X → Type 0
  TellsFronts xs own left =
      Told (run_fronts_by differ own.from own.part.head xs) done own.part.told left.part.told
      × (left ≡ record own { part = record own.part { told = left.part.told } })

  -- a part counts the runs of the segments that start in it, the last one with those that begin behind the part, whatever it answers
  abbrev pub CountsRuns : RunPart X → RunPart X → Type 0
  CountsRuns own left =
      ((status : CvlStatus)
      × RoomTold (part_run_counts_by differ own.part.behind own.part.head (map pos own.part.lengths) own.part.elements) status
      own.part.room left.part.room)
      × FillsAlone own left

module _ {X : Type 0} where
  -- once: where the runs of each part go, how many all are, and what goes on behind each part, of a vector with so many elements; the
  -- answer says whether a room of this length has them
  abbrev pub LaysOutRuns : ℕ → List (RunPart X) → ℕ → CvlStatus → RunLayout → RunLayout → Type 0
  LaysOutRuns whole parts room status before now =
      Told (runs_fitted room (run_layout_by (length before.layout.places) (length before.behinds) (map (λ p. p.count) parts)
      (map (λ p. p.begin) parts) (places_of whole parts))) status tt tt
      × (now
      ≡ run_layout_or before (run_layout_by (length before.layout.places) (length before.behinds) (map (λ p. p.count) parts)
      (map (λ p. p.begin) parts) (places_of whole parts)))

  -- once: what goes on behind each part, by the number of an operator
  abbrev pub RunsGoOn : ℕ → List (RunPart X) → List (RunPart X) → Type 0
  RunsGoOn op parts left = IntGoesOn op (parts_of parts) (parts_of left) × AllZip PartsAlone parts left

  -- a part puts the lengths of its runs into its range of the room, whatever it answers
  abbrev pub PutsLengths : RunPart X → RunPart X → Type 0
  PutsLengths own left =
      ((status : CvlStatus) × Told (put_lengths_of own.behind (length own.part.room) own.own) status own.part.room left.part.room)
      × FillsAlone own left

  -- a part puts the places where its runs begin into its range of the room, whatever it answers
  abbrev pub PutsStarts : RunPart X → RunPart X → Type 0
  PutsStarts own left =
      ((status : CvlStatus) × Told (put_starts_of own.begin (length own.part.room) own.own) status own.part.room left.part.room)
      × FillsAlone own left
