use Rattle.std.proofs.Common.{◌≡◌, ◌∙◌, ◌<◌, ◌≤◌, ℕ, ℤ, List, Ok, Result, ap, length, refl, subst, sym, zip}
use Rattle.std.specs.List.{AllZip}
use Rattle.c_calls.specs.Calls.{by_operator, in_limit}
use Rattle.c_calls.specs.Numbers.{bool_binary, int_monoid}
use Rattle.c_calls.specs.Told.{Told, done}
use Rattle.c_calls.specs.declared.status.CvlStatus.{CvlStatus}
use Rattle.combine_parts.specs.Cuts.{CutTold, may_cut}
use Rattle.combining_permutes.specs.CombiningPermutes.{combine_of, combined}
use Rattle.cvl_base.proofs.Elementwise.{if_as_long-fits}
use Rattle.cvl_base.specs.declared.fault.Fault.{Fault}
use Rattle.cvl_base.specs.Gives.{unless}
use Rattle.cvl_base.specs.Limits.{most_places}
use Rattle.cvl_base.specs.Scans.{bool_join_of, int_join_of}
use Rattle.part_calls.specs.CombineRanges.{combine_range_of}
use Rattle.step_laws.proofs.Answered.{within}
use Rattle.step_laws.proofs.AnyOrder.{in_any_order}
use Rattle.step_laws.proofs.CombinedInRanges.{JoinsRange, looked_inside, ranges_all, was_cut}
use Rattle.step_laws.proofs.Parted.{as-long}
use Rattle.step_laws.proofs.RangesOfRoom.{cut_shares}
use Rattle.step_laws.specs.CombineParts.{Block, HaveIndices, HaveRanges, RoomAlone, Share, elements_of, index_of, room_of}
use Rattle.step_laws.specs.CombineSteps.{BoolJoinsRange, IntJoinsRange, LooksAtIndices}
use Rattle.step_laws.proofs.combines.combines_by_ranges.Goals as goal

module _ {Operator Item : Type 0} (join_of : Operator → Item → Item → Item) where
  -- a range that is joined by an operator of a number
  abbrev JoinsBy : Result Operator Fault → List Item → List ℤ → Share Item → Share Item → Type 0
  JoinsBy operator source index own left =
      ((status : CvlStatus) × (before : ℕ) × (now : ℕ)
      × Told (by_operator operator (λ o. combine_range_of (join_of o) source index own.from own.room)) status (own.room, before) (left.room, now))
      × RoomAlone own left

  by_ranges : (operator : Result Operator Fault) (o : Operator) (start looked : List (Block Item Item)) (cut cuts : List ℕ) (room : List Item) (before after : List (Share Item))
      → operator ≡ Ok o → HaveIndices start → length (index_of start) ≤ most_places → length room ≤ most_places → AllZip (LooksAtIndices (length room)) start looked
      → CutTold (may_cut (length cut)) (length room) done cut cuts → 0 < length cuts → HaveRanges cuts room before → AllZip (JoinsBy operator (elements_of start) (index_of start)) before after
      → Told (in_limit (index_of start) (in_limit room (combine_of (join_of o) (elements_of start) (index_of start) room))) done room (room_of after)
  by_ranges operator o start looked cut cuts room before after is many few few_places looks cuts_told some has joins =
      let source = elements_of start in
      let index = index_of start in
      let join = join_of o in
      let agree : length source ≡ length index = as-long (λ b. b.index) (λ b. b.elements) start many in
      let shares = cut_shares room cuts before some (was_cut (may_cut (length cut)) (length room) cut cuts cuts_told) has in
      let known : AllZip (JoinsRange join source index) before after =
      subst (λ r. AllZip (JoinsBy r source index) before after) is joins in
      let written = ranges_all join source index before after agree few (subst (λ zs. length zs ≤ most_places) (sym shares.1) few_places) shares.0 known
      ∙ ap (combined join (zip index source) 0) shares.1 in
      let inside = looked_inside (length room) start looked looks in
      let given : in_limit index (in_limit room (combine_of join source index room)) ≡ Ok (combined join (zip index source) 0 room) =
      within index _ few ∙ within room _ few_places ∙ if_as_long-fits source index _ agree ∙ ap (λ f. unless f (Ok (combined join (zip index source) 0 room))) inside in
      subst (λ m. Told m done room (room_of after)) (sym given) (refl, written)

pub returns : goal.returns
returns c = record {
  integers = λ op o start looked cut cuts room before after is many few few_places looks told some has joins.
      by_ranges int_join_of (int_monoid op) o start looked cut cuts room before after is many few few_places (in_any_order (LooksAtIndices (length room)) start looked looks) told some has
      (in_any_order (IntJoinsRange op (elements_of start) (index_of start)) before after joins);
  booleans = λ op o start looked cut cuts room before after is many few few_places looks told some has joins.
      by_ranges bool_join_of (bool_binary op) o start looked cut cuts room before after is many few few_places (in_any_order (LooksAtIndices (length room)) start looked looks) told some has
      (in_any_order (BoolJoinsRange op (elements_of start) (index_of start)) before after joins);
}
