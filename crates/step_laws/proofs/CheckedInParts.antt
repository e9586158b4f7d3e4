-- Sums by place that have to fit 32 bits, by rooms of the parts' own and by ranges.
use Rattle.std.proofs.Common.{◌≡◌, ◌∙◌, ◌==◌, ◌+◌, ◌∷◌, ◌≤◌, ◌+ℤ◌, ℕ, ℤ, true, IsTrue, List, [], All}
use Rattle.std.proofs.Common.{ap, arith, length, map, nat_lt, not, refl, subst, sym, zip, None, Some, Result, Ok}
use Rattle.std.proofs.lemmas.List.Elements.{All-cons, All-head, All-nil, All-tail}
use Rattle.std.proofs.lemmas.Option.{same_Some}
use Rattle.std.specs.List.{AllPass, AllZip}
use Rattle.std.specs.Prelude.{if◌then◌else◌}
use Rattle.std.specs.Result.{result_ok}
use Rattle.c_calls.specs.Calls.{in_limit}
use Rattle.c_calls.specs.Told.{RoomTold, Told, done}
use Rattle.combine_parts.specs.CheckedSums.{all_fit, range_sums_of, share_sums_of, sums_or}
use Rattle.combine_parts.specs.RoomJoins.{joined_share_of}
use Rattle.combining_permutes.specs.CombiningPermutes.{combined}
use Rattle.cvl_base.proofs.Elementwise.{if_as_long-fits}
use Rattle.cvl_base.specs.CheckedSums.{fitting}
use Rattle.cvl_base.specs.declared.fault.Fault.{Fault}
use Rattle.cvl_base.specs.declared.fault.FaultNo.TheVariants as no
use Rattle.cvl_base.specs.Elementwise.{values_from}
use Rattle.cvl_base.specs.Faults.{fault}
use Rattle.cvl_base.specs.Gives.{◌>>=◌, unless}
use Rattle.cvl_base.specs.ItemWords.{is_number}
use Rattle.cvl_base.specs.Limits.{most_places}
use Rattle.cvl_base.specs.Lists.{joined}
use Rattle.exact_combines.proofs.Same.{pairs_same}
use Rattle.exact_combines.specs.ExactCombines.{checked_combine_of}
use Rattle.long_sums.specs.LongLaws.{long_laws}
use Rattle.long_sums.specs.LongSums.{long_sum_of}
use Rattle.long_sums.specs.RoomSums.{all_fitting}
use Rattle.permute_walks.specs.Indices.{first_outside}
use Rattle.call_laws.proofs.TwoParts.{from_value}
use Rattle.step_laws.proofs.Answered.{is_done, is_given, within}
use Rattle.step_laws.proofs.CombinedInRooms.{Joins, as_many, joined_all, none_outside}
use Rattle.step_laws.proofs.LongRooms.{all-joined, all_grow, all_long, first_grows}
use Rattle.step_laws.proofs.OwnGiven.{agree, passed}
use Rattle.step_laws.proofs.Parted.{alike, alike_where, as-long, keeps, some-fewer}
use Rattle.step_laws.proofs.RangesOfRoom.{ranges_joined}
use Rattle.step_laws.proofs.SummedInParts.{made_long}
use Rattle.step_laws.specs.CombineParts.{BeginAt, Block, HaveMemory, Share, elements_of, index_of, room_of}
use Rattle.step_laws.specs.CombineSteps.{JoinsChecked, Narrows, SumsOwn, SumsRange}

-- ---- sums that fit

pub fits_all : (place : ℕ) (zs : List ℤ) → AllPass is_number zs → all_fitting place zs ≡ Ok zs
fits_all place [] fit = refl
fits_all place (z ∷ zs) fit =
    let own : is_number z ≡ true = All-head (λ x. IsTrue (is_number x)) z zs fit in
    ap (λ b. values_from no.Overflow place ((if b then Some z else None) ∷ map fitting zs)) own
    ∙ ap (λ r. r >>= λ ys. Ok (z ∷ ys)) (fits_all (place + 1) zs (All-tail (λ x. IsTrue (is_number x)) z zs fit))

pub all_fitting-fit : (place : ℕ) (zs ys : List ℤ) → all_fitting place zs ≡ Ok ys → AllPass is_number zs
all_fitting-fit place [] ys is = All-nil (λ z. IsTrue (is_number z))
all_fitting-fit place (z ∷ zs) ys is =
    let first = first_grows (is_number z) place z (map fitting zs) ys is in
    All-cons (λ x. IsTrue (is_number x)) z zs first.0 (all_fitting-fit (place + 1) zs first.1.0 first.1.1)

-- sums that were made, and of which all fit
module _ (meaning : Result (List ℤ) Fault) (before now : List ℤ) (told : Told (all_fit meaning) done tt tt) (left : now ≡ sums_or before meaning) where
  made_sums : (sums : List ℤ) × (meaning ≡ Ok sums) × AllPass is_number sums
  made_sums =
      let given : all_fit meaning ≡ Ok tt = is_given (all_fit meaning) tt tt told in
      let fitted = from_value {X = List ℤ} {Y = Unit {0}} (meaning >>= all_fitting 0) (λ _. Ok tt) tt given in
      let sums = from_value {X = List ℤ} {Y = List ℤ} meaning (all_fitting 0) fitted.0 fitted.1 in
      (sums.0, sums.1, all_fitting-fit 0 sums.0 fitted.0 sums.2)

  pub are_made : (meaning ≡ Ok now) × AllPass is_number now
  are_made =
      let same : now ≡ made_sums.0 = left ∙ ap (sums_or before) made_sums.1 in
      (made_sums.1 ∙ ap Ok (sym same), subst (AllPass is_number) (sym same) made_sums.2)

-- ---- the last step, and the whole

-- a share's sums fit, and are as many as its places, of which there are not too many
abbrev pub Fits : Share ℤ → Type 0
Fits s = AllPass is_number s.sums × (length s.sums ≡ length s.room) × (length s.sums ≤ most_places)

pub narrowed : (summed after : List (Share ℤ)) → All Fits summed → AllZip Narrows summed after → map (λ s. s.room) after ≡ map (λ s. s.sums) summed
narrowed summed after fit narrows =
    alike_where Narrows Fits (λ s. s.sums) (λ s. s.room)
    (λ own left does fits.
    is_done own.sums own.room left.room does.0.0 fits.1
    (subst (λ m. RoomTold m does.0.0 own.room left.room) (within own.sums (all_fitting 0 own.sums) fits.2 ∙ fits_all 0 own.sums fits.0) does.0.1))
    summed after narrows fit

pub whole-given : (source index before sums : List ℤ) → length source ≡ length index → length index ≤ most_places → length before ≤ most_places
    → first_outside 0 (length before) index ≡ None → combined ◌+ℤ◌ (zip index source) 0 before ≡ sums → AllPass is_number sums
    → in_limit index (in_limit before (checked_combine_of source index before)) ≡ Ok sums
whole-given source index before sums agree few few_places inside are fit =
    let all = combined ◌+ℤ◌ (zip index source) 0 before in
    within index (in_limit before (checked_combine_of source index before)) few ∙ within before (checked_combine_of source index before) few_places
    ∙ ap (λ r. r >>= all_fitting 0)
    (if_as_long-fits source index (unless (first_outside 0 (length before) index) (Ok all)) agree ∙ ap (λ f. unless f (Ok all)) inside ∙ ap Ok are)
    ∙ fits_all 0 sums fit

-- ---- rooms

module _ (boundaries : List ℕ) (memory : List ℤ) where
  -- what a share of sums tells: they are those of a share that is joined with the rooms
  shared : (own left : Share ℤ) → JoinsChecked boundaries memory own left → (length own.room ≡ length own.sums) × (joined_share_of long_sum_of own.from boundaries memory own.room ≡ Ok left.sums)
  shared own left does =
      let n = length own.sums in
      let call = joined_share_of long_sum_of own.from boundaries memory own.room in
      let made = are_made (share_sums_of own.from boundaries memory own.room n) own.sums left.sums does.0 does.1 in
      let few = passed (nat_lt most_places n) (fault no.TooLong) _ left.sums made.0 in
      let long = passed (not (length own.room == n)) (fault no.LengthMismatch) call left.sums few.1 in
      (agree (length own.room) n long.0, long.1)

  joined_shares : (before summed : List (Share ℤ)) → AllZip (JoinsChecked boundaries memory) before summed
      → (after : List (Share ℤ)) × AllZip (Joins long_laws boundaries memory) before after × (map (λ s. s.room) after ≡ map (λ s. s.sums) summed)
  joined_shares [] [] joins = ([], tt, refl)
  joined_shares [] (s ∷ summed) joins = absurd joins
  joined_shares (s ∷ before) [] joins = absurd joins
  joined_shares (s ∷ before) (t ∷ summed) joins =
      let own = shared s t joins.0 in
      let others = joined_shares before summed joins.1 in
      let here : Share ℤ = record s { room = t.sums } in
      let told : Told (joined_share_of long_sum_of s.from boundaries memory s.room) done s.room t.sums =
      subst (λ m. Told m done s.room t.sums) (sym own.1) (refl, refl) in
      (here ∷ others.0, (((done, told), refl), others.1), ap (λ zs. t.sums ∷ zs) others.2)

  shares_fit : (before summed : List (Share ℤ)) → length (room_of before) ≤ most_places → AllZip (JoinsChecked boundaries memory) before summed → All Fits summed
  shares_fit before summed few joins =
      keeps (JoinsChecked boundaries memory) (λ s. length s.room ≤ most_places) Fits
      (λ own left does fits.
      let made = are_made (share_sums_of own.from boundaries memory own.room (length own.sums)) own.sums left.sums does.0 does.1 in
      let own_long = (shared own left does).0 in
      let kept : length left.room ≡ length own.room = ap (λ (s : Share ℤ). length s.room) does.2.0 in
      (made.1, omega (arith, own_long, kept, does.2.1), omega (arith, own_long, does.2.1, fits)))
      before summed joins (some-fewer (λ s. s.room) most_places before few)

  module _ (start made : List (Block ℤ ℤ)) (before summed after : List (Share ℤ)) (numbers : AllPass is_number (elements_of start)) (was : AllPass is_number (room_of before))
      (few : length (index_of start) ≤ most_places) (few_places : length (room_of before) ≤ most_places) (begin : BeginAt 0 before)
      (sums : AllZip (SumsOwn (length (room_of before))) start made) (has : HaveMemory boundaries memory made) (joins : AllZip (JoinsChecked boundaries memory) before summed)
      (narrows : AllZip Narrows summed after) where
    pub checked_all : Told (in_limit (index_of start) (in_limit (room_of before) (checked_combine_of (elements_of start) (index_of start) (room_of before)))) done
        (room_of before) (room_of after)
    checked_all =
        let source = elements_of start in
        let index = index_of start in
        let room = room_of before in
        let grow = all_grow room was in
        let items = all_long source (all_grow source numbers) in
        let longs = all_long room grow in
        let mades = made_long (length room) start made numbers few sums in
        let shares = joined_shares before summed joins in
        let agrees : length source ≡ length index =
        as-long (λ b. b.index) (λ b. b.elements) start (as_many long_laws boundaries memory start made before shares.0 items longs begin mades has shares.1) in
        let inside = none_outside long_laws boundaries memory start made before shares.0 items longs begin mades has shares.1 in
        let all = joined_all long_laws boundaries memory start made before shares.0 items longs begin mades has shares.1 in
        let fit = shares_fit before summed few_places joins in
        let totals : List ℤ = joined (map (λ s. s.sums) summed) in
        let are : combined ◌+ℤ◌ (zip index source) 0 room ≡ totals = sym (pairs_same source index 0 room few numbers grow) ∙ sym all ∙ ap joined shares.2 in
        let all_numbers = all-joined (λ z. IsTrue (is_number z)) (λ s. s.sums) summed (λ k d lt. (fit k d lt).0) in
        subst (λ m. Told m done room (room_of after)) (sym (whole-given source index room totals agrees few few_places inside are all_numbers))
        (refl, ap joined (narrowed summed after fit narrows))

-- ---- ranges

module _ (source index : List ℤ) where
  -- what a range of sums tells
  ranged : (own left : Share ℤ) → SumsRange source index own left → (length own.room ≡ length own.sums) × (left.sums ≡ combined ◌+ℤ◌ (zip index source) own.from own.room)
  ranged own left does =
      let n = length own.sums in
      let all = combined ◌+ℤ◌ (zip index source) own.from own.room in
      let made = are_made (range_sums_of source index own.from own.room n) own.sums left.sums does.0 does.1 in
      let few = passed (nat_lt most_places (length index)) (fault no.TooLong) _ left.sums made.0 in
      let end = passed (nat_lt most_places (own.from + n)) (fault no.TooLong) _ left.sums few.1 in
      let both = passed (not (length source == length index)) (fault no.LengthMismatch) _ left.sums end.1 in
      let long = passed (not (length own.room == n)) (fault no.LengthMismatch) (Ok all) left.sums both.1 in
      (agree (length own.room) n long.0, sym (same_Some all left.sums (ap result_ok long.1)))

  ranges_fit : (before summed : List (Share ℤ)) → length (room_of before) ≤ most_places → AllZip (SumsRange source index) before summed → All Fits summed
  ranges_fit before summed few sums =
      keeps (SumsRange source index) (λ s. length s.room ≤ most_places) Fits
      (λ own left does fits.
      let made = are_made (range_sums_of source index own.from own.room (length own.sums)) own.sums left.sums does.0 does.1 in
      let own_long = (ranged own left does).0 in
      let kept : length left.room ≡ length own.room = ap (λ (s : Share ℤ). length s.room) does.2.0 in
      (made.1, omega (arith, own_long, kept, does.2.1), omega (arith, own_long, does.2.1, fits)))
      before summed sums (some-fewer (λ s. s.room) most_places before few)

  pub ranges_checked : (before summed after : List (Share ℤ)) → length source ≡ length index → length index ≤ most_places → length (room_of before) ≤ most_places
      → first_outside 0 (length (room_of before)) index ≡ None → BeginAt 0 before → AllZip (SumsRange source index) before summed → AllZip Narrows summed after
      → Told (in_limit index (in_limit (room_of before) (checked_combine_of source index (room_of before)))) done (room_of before) (room_of after)
  ranges_checked before summed after agrees few few_places inside begin sums narrows =
      let room = room_of before in
      let fit = ranges_fit before summed few_places sums in
      let totals : List ℤ = joined (map (λ s. s.sums) summed) in
      let each : map (λ s. s.sums) summed ≡ map (λ s. combined ◌+ℤ◌ (zip index source) s.from s.room) before =
      alike (SumsRange source index) (λ s. combined ◌+ℤ◌ (zip index source) s.from s.room) (λ s. s.sums) (λ own left does. (ranged own left does).1) before summed sums in
      let are : combined ◌+ℤ◌ (zip index source) 0 room ≡ totals = sym (ranges_joined ◌+ℤ◌ (zip index source) before 0 begin) ∙ sym (ap joined each) in
      let all_numbers = all-joined (λ z. IsTrue (is_number z)) (λ s. s.sums) summed (λ k d lt. (fit k d lt).0) in
      subst (λ m. Told m done room (room_of after)) (sym (whole-given source index room totals agrees few few_places inside are all_numbers))
      (refl, ap joined (narrowed summed after fit narrows))
