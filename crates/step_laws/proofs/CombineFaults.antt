-- If a part of a combining permute finds a fault, so has the whole call one.
use Rattle.std.proofs.Common.{◌≡◌, ◌≢◌, ◌∙◌, ◌<◌, ◌≤◌, ℕ, ℤ, List, All, ap, length, map, refl, replicate, slice_get, subst, sym, zip, None, Some, Option, Result, Ok, Err}
use Rattle.std.proofs.Math.ListN.{get_or-map}
use Rattle.std.proofs.lemmas.Bool.{le-ltb}
use Rattle.std.proofs.lemmas.List.{length-map, length-replicate}
use Rattle.c_calls.specs.Calls.{by_operator, in_limit}
use Rattle.c_calls.specs.Told.{Told, done}
use Rattle.c_calls.specs.declared.status.CvlStatus.{CvlStatus}
use Rattle.call_laws.proofs.CombinedRooms.{outside-rooms}
use Rattle.combine_parts.specs.Cuts.{are_places_of}
use Rattle.combine_parts.specs.OwnRooms.{OwnTold, may_own, own_counts_of, own_room_of}
use Rattle.combining_permutes.specs.CombiningPermutes.{combine_of, combined, place_counts, place_counts_of}
use Rattle.cvl_base.proofs.Elementwise.{if_as_long-fits}
use Rattle.cvl_base.specs.declared.fault.Fault.{Fault}
use Rattle.cvl_base.specs.declared.fault.FaultNo.TheVariants as no
use Rattle.cvl_base.specs.Faults.{fault}
use Rattle.cvl_base.specs.Gives.{◌>>=◌, fault_if, unless}
use Rattle.cvl_base.specs.Limits.{most_places}
use Rattle.permute_walks.specs.Indices.{first_outside}
use Rattle.step_laws.proofs.Answered.{within}
use Rattle.step_laws.proofs.CombinedInRanges.{few-fits}
use Rattle.step_laws.proofs.Parted.{as-long, some-fewer}
use Rattle.step_laws.proofs.PartFaults.{HasFault, of_part}
use Rattle.step_laws.specs.CombineParts.{Block, HaveIndices, elements_of, index_of}

some_fault : (o : Option Fault) → (o ≡ None → ⊥) → (f : Fault) × (o ≡ Some f)
some_fault None other = absurd (other refl)
some_fault (Some f) other = (f, refl)

module _ {X Y : Type 0} (start : List (Block X Y)) (k : ℕ) (own : Block X Y) (here : slice_get start k ≡ Some own) where
  -- what holds of all holds of one
  of_one : (P : Block X Y → Type 0) → All P start → P own
  of_one P all = of_part start k own here P all

  -- an index that is out of range in a part is so in the whole
  pub outside_whole : (places : ℕ) → (first_outside 0 places own.index ≡ None → ⊥) → (f : Fault) × (first_outside 0 places (index_of start) ≡ Some f)
  outside_whole places other =
      some_fault (first_outside 0 places (index_of start))
      (λ none. other (of_one (λ b. first_outside 0 places b.index ≡ None)
      (λ j d lt. subst (λ index. first_outside 0 places index ≡ None) (get_or-map (λ (b : Block X Y). b.index) start j d)
      ((outside-rooms (map (λ b. b.index) start) places).0 none j d.index (subst (λ n. j < n) (sym (length-map start (λ b. b.index))) lt)))))

-- a part may own a room that its memory has
may_fits : {X : Type 0} (places memory : ℕ) (source : List X) (index : List ℤ) → length source ≡ length index → length index ≤ most_places → places ≤ most_places → places ≤ memory
    → may_own places (length source) (length index) memory ≡ Ok tt
may_fits places memory source index agree few few_places fits =
    few-fits (length index) _ few ∙ few-fits places _ few_places ∙ if_as_long-fits source index _ agree
    ∙ ap (λ b. fault_if b (fault no.LengthMismatch) (Ok tt)) (le-ltb memory places fits)

module _ {Item : Type 0} (join : Item → Item → Item) (unit : Item) (start : List (Block Item Item)) (k : ℕ) (own : Block Item Item) (here : slice_get start k ≡ Some own)
    (many : HaveIndices start) (few : length (index_of start) ≤ most_places) (room : List Item) (few_places : length room ≤ most_places) where
  abbrev places : ℕ
  places = length room

  -- an index out of range is a fault of the whole
  pub whole_outside : (first_outside 0 places own.index ≡ None → ⊥) → HasFault (in_limit (index_of start) (in_limit room (combine_of join (elements_of start) (index_of start) room)))
  whole_outside other =
      let fault_of = outside_whole start k own here places other in
      let agree : length (elements_of start) ≡ length (index_of start) = as-long (λ b. b.index) (λ b. b.elements) start many in
      let result : Result (List Item) Fault = Ok (combined join (zip (index_of start) (elements_of start)) 0 room) in
      (fault_of.0, within (index_of start) _ few ∙ within room _ few_places ∙ if_as_long-fits (elements_of start) (index_of start) _ agree ∙ ap (λ o. unless o result) fault_of.1)

  -- a part that cannot make its room found an index out of range
  pub own_fails : (status : CvlStatus) (left : List Item) → places ≤ length own.own
      → OwnTold places (own_room_of join unit places (length own.own) own.elements own.index) status own.own left → status ≢ done → first_outside 0 places own.index ≡ None → ⊥
  own_fails status left fits told fails none =
      let begun = replicate places unit in
      let agree = of_one start k own here (λ b. length b.elements ≡ length b.index) many in
      let few_own = of_one start k own here (λ b. length b.index ≤ most_places) (some-fewer (λ b. b.index) most_places start few) in
      let result : Result (List Item) Fault = Ok (combined join (zip own.index own.elements) 0 begun) in
      let given : own_room_of join unit places (length own.own) own.elements own.index ≡ result =
      ap (λ m. m >>= λ _. combine_of join own.elements own.index begun) (may_fits places (length own.own) own.elements own.index agree few_own few_places fits)
      ∙ if_as_long-fits own.elements own.index _ agree
      ∙ ap (λ n. unless (first_outside 0 n own.index) result) (length-replicate places unit) ∙ ap (λ o. unless o result) none in
      let known : OwnTold places result status own.own left = subst (λ m. OwnTold places m status own.own left) given told in
      fails known.0

-- by an operator that may be none
module _ {Operator Item : Type 0} (unit_of : Operator → Item) (join_of : Operator → Item → Item → Item) (start : List (Block Item Item)) (k : ℕ) (own : Block Item Item)
    (here : slice_get start k ≡ Some own) (many : HaveIndices start) (few : length (index_of start) ≤ most_places) (room : List Item) (few_places : length room ≤ most_places) where
  pub by_rooms : (operator : Result Operator Fault) (status : CvlStatus) (left : List Item) → length room ≤ length own.own
      → OwnTold (length room) (by_operator operator (λ o. own_room_of (join_of o) (unit_of o) (length room) (length own.own) own.elements own.index)) status own.own left → status ≢ done
      → HasFault (by_operator operator (λ o. in_limit (index_of start) (in_limit room (combine_of (join_of o) (elements_of start) (index_of start) room))))
  by_rooms (Err f) status left fits told fails = (f, refl)
  by_rooms (Ok o) status left fits told fails =
      whole_outside (join_of o) (unit_of o) start k own here many few room few_places
      (own_fails (join_of o) (unit_of o) start k own here many few room few_places status left fits told fails)

-- a look at indices that finds a fault
pub look_fails : {X Y : Type 0} (start : List (Block X Y)) (k : ℕ) (own : Block X Y) (here : slice_get start k ≡ Some own) (few : length (index_of start) ≤ most_places) (places : ℕ)
    (status : CvlStatus) → Told (are_places_of places own.index) status tt tt → status ≢ done → first_outside 0 places own.index ≡ None → ⊥
look_fails start k own here few places status told fails none =
    let few_own = of_one start k own here (λ b. length b.index ≤ most_places) (some-fewer (λ b. b.index) most_places start few) in
    let given : are_places_of places own.index ≡ Ok tt = within own.index _ few_own ∙ ap (λ o. unless o (Ok tt)) none in
    let known : Told (Ok tt) status tt tt = subst (λ m. Told m status tt tt) given told in
    fails known.0

-- ---- counts

module _ {X : Type 0} (start : List (Block X ℤ)) (k : ℕ) (own : Block X ℤ) (here : slice_get start k ≡ Some own) (few : length (index_of start) ≤ most_places) (places : ℕ)
    (few_places : places ≤ most_places) where
  counts_fail : (status : CvlStatus) (left : List ℤ) → places ≤ length own.own → OwnTold places (own_counts_of places (length own.own) own.index) status own.own left → status ≢ done
      → first_outside 0 places own.index ≡ None → ⊥
  counts_fail status left fits told fails none =
      let few_own = of_one start k own here (λ b. length b.index ≤ most_places) (some-fewer (λ b. b.index) most_places start few) in
      let result : Result (List ℤ) Fault = Ok (place_counts own.index 0 places) in
      let given : own_counts_of places (length own.own) own.index ≡ result =
      ap (λ m. m >>= λ _. place_counts_of own.index places) (may_fits places (length own.own) own.index own.index refl few_own few_places fits) ∙ ap (λ o. unless o result) none in
      let known : OwnTold places result status own.own left = subst (λ m. OwnTold places m status own.own left) given told in
      fails known.0

  -- a part that cannot count its indices found one out of range
  pub counted_outside : {Y : Type 0} (room : List Y) → length room ≡ places → (status : CvlStatus) (left : List ℤ) → places ≤ length own.own
      → OwnTold places (own_counts_of places (length own.own) own.index) status own.own left → status ≢ done
      → HasFault (in_limit (index_of start) (in_limit room (place_counts_of (index_of start) places)))
  counted_outside room long status left fits told fails =
      let outside = outside_whole start k own here places (counts_fail status left fits told fails) in
      let result : Result (List ℤ) Fault = Ok (place_counts (index_of start) 0 places) in
      (outside.0, within (index_of start) _ few ∙ within room _ (subst (λ n. n ≤ most_places) (sym long) few_places) ∙ ap (λ o. unless o result) outside.1)
