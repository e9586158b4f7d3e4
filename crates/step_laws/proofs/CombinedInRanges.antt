-- Combining permutes by ranges of their room, of an operator that is known or not, for integers and booleans alike.
use Rattle.std.proofs.Common.{◌≡◌, ◌∙◌, ◌+◌, ◌≤◌, ℕ, ℤ, List, All, ap, arith, length, map, nat_lt, refl, subst, sym, zip, None, Result, Ok, Err}
use Rattle.std.proofs.lemmas.Bool.{le-ltb}
use Rattle.std.proofs.lemmas.List.Elements.{All-map}
use Rattle.std.specs.List.{AllZip}
use Rattle.c_calls.specs.Told.{Told, done}
use Rattle.c_calls.specs.declared.status.CvlStatus.{CvlStatus}
use Rattle.call_laws.proofs.CombinedRooms.{outside-rooms}
use Rattle.combine_parts.specs.Cuts.{CutTold, IsCut, are_places_of}
use Rattle.combining_permutes.specs.CombiningPermutes.{combined}
use Rattle.cvl_base.proofs.Elementwise.{if_as_long-fits}
use Rattle.cvl_base.specs.declared.fault.Fault.{Fault}
use Rattle.cvl_base.specs.declared.fault.FaultNo.TheVariants as no
use Rattle.cvl_base.specs.Faults.{fault}
use Rattle.cvl_base.specs.Limits.{most_places}
use Rattle.cvl_base.specs.Lists.{joined}
use Rattle.part_calls.specs.CombineRanges.{combine_range_of, joined_and_counted}
use Rattle.part_calls.specs.Limits.{few_enough}
use Rattle.permute_walks.specs.Indices.{first_outside}
use Rattle.step_laws.proofs.Answered.{is_given, numbered}
use Rattle.step_laws.proofs.CombinedInRooms.{left_of_each}
use Rattle.step_laws.proofs.OwnGiven.{passed, unless_none}
use Rattle.step_laws.proofs.Parted.{alike_where}
use Rattle.step_laws.proofs.RangesOfRoom.{ranges_joined}
use Rattle.step_laws.proofs.RoomShares.{shares_within}
use Rattle.step_laws.specs.CombineParts.{BeginAt, Block, RoomAlone, Share, index_of, room_of}
use Rattle.step_laws.specs.CombineSteps.{LooksAtIndices}

pub few-fits : {Y : Type 0} (n : ℕ) (call : Result Y Fault) → n ≤ most_places → few_enough n call ≡ call
few-fits n call few = rw (le-ltb most_places n few) refl

-- a cut that was made
pub was_cut : (may : Result (Unit {0}) Fault) (places : ℕ) (before now : List ℕ) → CutTold may places done before now → IsCut places now
was_cut (Ok may) places before now told = told.1
was_cut (Err f) places before now told = absurd (numbered f.number (sym (ap (λ (s : CvlStatus). s.number) told.0)))

-- parts that find all their indices within the room find those of the whole there
pub looked_inside : {X Y : Type 0} (places : ℕ) (start looked : List (Block X Y)) → AllZip (LooksAtIndices places) start looked → first_outside 0 places (index_of start) ≡ None
looked_inside {X} {Y} places start looked looks =
    (outside-rooms (map (λ b. b.index) start) places).1
    (All-map (λ index. first_outside 0 places index ≡ None) (λ (b : Block X Y). b.index) start
    (left_of_each
    (λ own left does.
    (unless_none (first_outside 0 places own.index) tt tt (passed (nat_lt most_places (length own.index)) (fault no.TooLong) _ tt (is_given (are_places_of places own.index) tt tt does.0)).1).0)
    start looked looks))

module _ {Item : Type 0} (join : Item → Item → Item) (source : List Item) (index : List ℤ) where
  -- a range is joined with what is sent there
  abbrev pub JoinsRange : Share Item → Share Item → Type 0
  JoinsRange own left =
      ((status : CvlStatus) × (before : ℕ) × (now : ℕ)
      × Told (combine_range_of join source index own.from own.room) status (own.room, before) (left.room, now))
      × RoomAlone own left

  -- what a range gives that lies in the room
  pub range-given : (from : ℕ) (before : List Item) → length source ≡ length index → length index ≤ most_places → from + length before ≤ most_places
      → combine_range_of join source index from before ≡ Ok (joined_and_counted join source index from before)
  range-given from before agree few fits =
      few-fits (length index) _ few ∙ few-fits (from + length before) _ fits ∙ if_as_long-fits source index _ agree

  pub ranges_all : (before after : List (Share Item)) → length source ≡ length index → length index ≤ most_places → length (room_of before) ≤ most_places → BeginAt 0 before
      → AllZip JoinsRange before after → room_of after ≡ combined join (zip index source) 0 (room_of before)
  ranges_all before after agree few few_places begin joins =
      let written : map (λ s. s.room) after ≡ map (λ s. combined join (zip index source) s.from s.room) before =
      alike_where JoinsRange (λ s. s.from + length s.room ≤ 0 + length (room_of before)) (λ s. combined join (zip index source) s.from s.room) (λ s. s.room)
      (λ own left does fits.
      let given : Told (Ok (joined_and_counted join source index own.from own.room)) does.0.0 (own.room, does.0.1) (left.room, does.0.2) =
      subst (λ m. Told m does.0.0 (own.room, does.0.1) (left.room, does.0.2)) (range-given own.from own.room agree few (omega (arith, fits, few_places))) does.0.3 in
      ap (λ p. p.0) given.1)
      before after joins (shares_within before 0 begin) in
      ap joined written ∙ ranges_joined join (zip index source) before 0 begin
