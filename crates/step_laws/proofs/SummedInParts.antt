-- Exact sums by place in 64 bits, by rooms of the parts' own and by ranges.
use Rattle.std.proofs.Common.{◌≡◌, ◌∙◌, ◌+◌, ◌≤◌, ◌+ℤ◌, ◌∷◌, ℕ, ℤ, pos, true, IsTrue, List, [], All}
use Rattle.std.proofs.Common.{ap, arith, length, map, nat_lt, refl, replicate, subst, sym, zip, None, Result, Ok}
use Rattle.std.proofs.lemmas.List.Elements.{All-cons, All-head, All-nil, All-replicate, All-tail}
use Rattle.std.proofs.lemmas.Option.{same_Some}
use Rattle.std.specs.List.{AllPass, AllZip}
use Rattle.std.specs.Result.{result_ok}
use Rattle.c_calls.specs.Calls.{in_limit}
use Rattle.c_calls.specs.Told.{Told, done}
use Rattle.combine_parts.specs.OwnRooms.{OwnTold, may_own, own_room_of}
use Rattle.combining_permutes.specs.CombiningPermutes.{combine_of, combined}
use Rattle.combining_permutes.proofs.Joined.{combined_none}
use Rattle.cvl_base.proofs.Elementwise.{if_as_long-fits}
use Rattle.cvl_base.specs.declared.fault.Fault.{Fault}
use Rattle.cvl_base.specs.declared.fault.FaultNo.TheVariants as no
use Rattle.cvl_base.specs.Elementwise.{if_as_long}
use Rattle.cvl_base.specs.Faults.{fault}
use Rattle.cvl_base.specs.Gives.{◌>>=◌, unless}
use Rattle.cvl_base.specs.ItemWords.{is_number}
use Rattle.cvl_base.specs.Limits.{most_places}
use Rattle.cvl_base.specs.Lists.{joined}
use Rattle.exact_combines.proofs.Same.{combine_same, pairs_same}
use Rattle.exact_combines.specs.ExactCombines.{exact_sums_of}
use Rattle.long_sums.specs.LongLaws.{long_laws}
use Rattle.long_sums.specs.LongSums.{long_sum_of, may_grow}
use Rattle.long_sums.specs.RoomSums.{all_growing}
use Rattle.part_calls.specs.CombineRanges.{exact_range_of, joined_and_counted}
use Rattle.permute_walks.specs.Indices.{first_outside}
use Rattle.call_laws.proofs.TwoParts.{from_value}
use Rattle.step_laws.proofs.Answered.{is_given, within}
use Rattle.step_laws.proofs.CombinedInRanges.{few-fits}
use Rattle.step_laws.proofs.CombinedInRooms.{Made, as_many, joined_all, left_of_each, none_outside}
use Rattle.step_laws.proofs.LongRooms.{all-joined, all-same, all_growing-grow, all_grow, all_long, grows_all}
use Rattle.step_laws.proofs.OwnGiven.{passed}
use Rattle.step_laws.proofs.Parted.{all-parts, alike_where, as-long, each-also, each-where, some-fewer}
use Rattle.step_laws.proofs.RangesOfRoom.{ranges_joined}
use Rattle.step_laws.proofs.RoomShares.{shares_within}
use Rattle.step_laws.specs.CombineParts.{BeginAt, Block, HaveMemory, Share, elements_of, index_of, room_of}
use Rattle.step_laws.specs.CombineSteps.{AddsToRange, JoinsSums, MayGrow, SumsOwn}

-- ---- sums that may grow

same_room : (xs ys : List ℤ) → ◌≡◌ {A = Result (List ℤ) Fault} (Ok xs) (Ok ys) → ys ≡ xs
same_room xs ys is = sym (same_Some xs ys (ap result_ok is))

-- what a share of sums finds that may grow: it stays as it was
found : (own left : Share ℤ) → MayGrow own left → AllPass may_grow own.room × (left ≡ own)
found own left does =
    let given = is_given (in_limit {X = ℤ} [] (in_limit own.room (exact_sums_of [] [] own.room))) own.room left.room does.0 in
    let few = passed (nat_lt most_places (length own.room)) (fault no.TooLong) (exact_sums_of [] [] own.room) left.room given in
    let sums = from_value (all_growing 0 own.room) (λ sums. combine_of ◌+ℤ◌ [] [] sums) left.room few.1 in
    let grow = all_growing-grow 0 own.room sums.0 sums.1 in
    let whole : ◌≡◌ {A = Result (List ℤ) Fault} (Ok own.room) (Ok left.room) =
    ap Ok (sym (combined_none ◌+ℤ◌ 0 own.room)) ∙ ap (λ r. r >>= λ sums. combine_of ◌+ℤ◌ [] [] sums) (sym (grows_all 0 own.room grow)) ∙ few.1 in
    (grow, does.1 ∙ ap (λ zs. record own { room = zs }) (same_room own.room left.room whole))

pub may_each_grow : (first before : List (Share ℤ)) → AllZip MayGrow first before → All (λ s. AllPass may_grow s.room) first
may_each_grow first before looks = left_of_each (λ own left does. (found own left does).0) first before looks

pub may_all_grow : (first before : List (Share ℤ)) → AllZip MayGrow first before → AllPass may_grow (room_of first) × (before ≡ first)
may_all_grow first before looks = (
  all-joined (λ z. IsTrue (may_grow z)) (λ s. s.room) first (may_each_grow first before looks),
  all-same first before (each-also MayGrow (λ own left. left ≡ own) (λ own left does. (found own left does).1) first before looks),
)

-- ---- the whole call, if sums may grow and no index is out of range

pub whole-given : (source index before : List ℤ) → length source ≡ length index → length index ≤ most_places → length before ≤ most_places → AllPass may_grow before
    → first_outside 0 (length before) index ≡ None
    → in_limit index (in_limit before (exact_sums_of source index before)) ≡ Ok (combined ◌+ℤ◌ (zip index source) 0 before)
whole-given source index before agree few few_places grow inside =
    within index (in_limit before (exact_sums_of source index before)) few ∙ within before (exact_sums_of source index before) few_places
    ∙ if_as_long-fits source index (all_growing 0 before >>= λ sums. combine_of ◌+ℤ◌ source index sums) agree
    ∙ ap (λ r. r >>= λ sums. combine_of ◌+ℤ◌ source index sums) (grows_all 0 before grow)
    ∙ if_as_long-fits source index (unless (first_outside 0 (length before) index) (Ok (combined ◌+ℤ◌ (zip index source) 0 before))) agree
    ∙ ap (λ f. unless f (Ok (combined ◌+ℤ◌ (zip index source) 0 before))) inside

-- ---- rooms

-- a part's room is the same in 64 bits as over whole numbers
own_same : (places memory : ℕ) (source index : List ℤ) → length index ≤ most_places → AllPass is_number source
    → own_room_of ◌+ℤ◌ (pos 0) places memory source index ≡ own_room_of long_sum_of (pos 0) places memory source index
own_same places memory source index few numbers =
    ap (λ call. may_own places (length source) (length index) memory >>= λ _. call)
    (sym (combine_same source index (replicate places (pos 0)) few numbers (All-replicate (λ z. IsTrue (may_grow z)) places (pos 0) refl)))

numbers_of_each : (blocks : List (Block ℤ ℤ)) → All (All (λ x. is_number x ≡ true)) (map (λ b. b.elements) blocks) → All (λ b. AllPass is_number b.elements) blocks
numbers_of_each [] numbers = All-nil (λ (b : Block ℤ ℤ). AllPass is_number b.elements)
numbers_of_each (b ∷ blocks) numbers =
    All-cons (λ (c : Block ℤ ℤ). AllPass is_number c.elements) b blocks (All-head (All (λ x. is_number x ≡ true)) b.elements (map (λ c. c.elements) blocks) numbers)
    (numbers_of_each blocks (All-tail (All (λ x. is_number x ≡ true)) b.elements (map (λ c. c.elements) blocks) numbers))

pub made_long : (places : ℕ) (start made : List (Block ℤ ℤ)) → AllPass is_number (elements_of start) → length (index_of start) ≤ most_places
    → AllZip (SumsOwn places) start made → AllZip (Made long_laws places) start made
made_long places start made numbers few sums =
    let fewer = some-fewer (λ (b : Block ℤ ℤ). b.index) most_places start few in
    let each = numbers_of_each start (all-parts (λ b. b.elements) (λ x. is_number x ≡ true) start numbers) in
    each-where (SumsOwn places) (Made long_laws places) (λ b. (length b.index ≤ most_places) × AllPass is_number b.elements)
    (λ own left does holds.
    (subst (λ m. OwnTold places m done own.own left.own) (own_same places (length own.own) own.elements own.index holds.0 holds.1) does.0, does.1))
    start made sums (λ k d lt. (fewer k d lt, each k d lt))

module _ (boundaries : List ℕ) (memory : List ℤ) (start made : List (Block ℤ ℤ)) (before after : List (Share ℤ)) (numbers : AllPass is_number (elements_of start))
    (few : length (index_of start) ≤ most_places) (grow : AllPass may_grow (room_of before)) (begin : BeginAt 0 before)
    (sums : AllZip (SumsOwn (length (room_of before))) start made) (has : HaveMemory boundaries memory made) where
  abbrev mades : AllZip (Made long_laws (length (room_of before))) start made
  mades = made_long (length (room_of before)) start made numbers few sums

  pub summed : AllZip (JoinsSums boundaries memory) before after → length (room_of before) ≤ most_places
      → Told (in_limit (index_of start) (in_limit (room_of before) (exact_sums_of (elements_of start) (index_of start) (room_of before)))) done (room_of before) (room_of after)
  summed joins few_places =
      let items = all_long (elements_of start) (all_grow (elements_of start) numbers) in
      let was = all_long (room_of before) grow in
      let many = as_many long_laws boundaries memory start made before after items was begin mades has joins in
      let agree : length (elements_of start) ≡ length (index_of start) = as-long (λ b. b.index) (λ b. b.elements) start many in
      let inside = none_outside long_laws boundaries memory start made before after items was begin mades has joins in
      let all = joined_all long_laws boundaries memory start made before after items was begin mades has joins in
      subst (λ m. Told m done (room_of before) (room_of after))
      (sym (whole-given (elements_of start) (index_of start) (room_of before) agree few few_places grow inside))
      (refl, all ∙ pairs_same (elements_of start) (index_of start) 0 (room_of before) few numbers grow)

-- ---- ranges

pub ranges_all : (source index : List ℤ) (before after : List (Share ℤ)) → length source ≡ length index → length index ≤ most_places → length (room_of before) ≤ most_places
    → BeginAt 0 before → All (λ s. AllPass may_grow s.room) before → AllZip (AddsToRange source index) before after
    → room_of after ≡ combined ◌+ℤ◌ (zip index source) 0 (room_of before)
ranges_all source index before after agree few few_places begin grow adds =
    let within_room = shares_within before 0 begin in
    let written : map (λ s. s.room) after ≡ map (λ s. combined ◌+ℤ◌ (zip index source) s.from s.room) before =
    alike_where (AddsToRange source index) (λ s. (s.from + length s.room ≤ 0 + length (room_of before)) × AllPass may_grow s.room)
    (λ s. combined ◌+ℤ◌ (zip index source) s.from s.room) (λ s. s.room)
    (λ own left does holds.
    let call : List ℤ → Result (List ℤ × ℕ) Fault = λ sums. if_as_long source index (Ok (joined_and_counted ◌+ℤ◌ source index own.from sums)) in
    let given : exact_range_of source index own.from own.room ≡ Ok (joined_and_counted ◌+ℤ◌ source index own.from own.room) =
    few-fits (length index) _ few ∙ few-fits (own.from + length own.room) _ (omega (arith, holds.0, few_places))
    ∙ ap (λ r. r >>= call) (grows_all own.from own.room holds.1) ∙ if_as_long-fits source index _ agree in
    let known : Told (Ok (joined_and_counted ◌+ℤ◌ source index own.from own.room)) does.0.0 (own.room, does.0.1) (left.room, does.0.2) =
    subst (λ m. Told m does.0.0 (own.room, does.0.1) (left.room, does.0.2)) given does.0.3 in
    ap (λ p. p.0) known.1)
    before after adds (λ k d lt. (within_room k d lt, grow k d lt)) in
    ap joined written ∙ ranges_joined ◌+ℤ◌ (zip index source) before 0 begin
