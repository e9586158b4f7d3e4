-- If a part of a call by sums that have to fit 32 bits finds one that does not, so has the whole call a fault.
use Rattle.std.proofs.Common.{◌≡◌, ◌≢◌, ◌∙◌, ◌+◌, ◌≤◌, ◌+ℤ◌, ◌∷◌, ℕ, ℤ, List, [], ap, arith, length, map, not, refl, slice_get, subst, sym, zip, Some, Result, Ok, Err}
use mathlib.Core.List.{map-map}
use Rattle.std.specs.List.{AllPass, AllZip}
use Rattle.c_calls.specs.Calls.{in_limit}
use Rattle.c_calls.specs.Told.{Told, done, status_of_fault}
use Rattle.c_calls.specs.declared.status.CvlStatus.{CvlStatus}
use Rattle.combine_parts.specs.CheckedSums.{all_fit, range_sums_of, share_sums_of, sums_or}
use Rattle.combine_parts.specs.RoomJoins.{joined_share_of, shares_of, starts_of, with_rooms}
use Rattle.combining_permutes.specs.CombiningPermutes.{combined}
use Rattle.cvl_base.proofs.Elementwise.{if_as_long-fits}
use Rattle.cvl_base.specs.CheckedSums.{fitting}
use Rattle.cvl_base.specs.declared.fault.Fault.{Fault}
use Rattle.cvl_base.specs.declared.fault.FaultNo.TheVariants as no
use Rattle.cvl_base.specs.Faults.{fault}
use Rattle.cvl_base.specs.Gives.{◌>>=◌, fault_if}
use Rattle.cvl_base.specs.ItemWords.{is_number}
use Rattle.cvl_base.specs.Limits.{most_places}
use Rattle.cvl_base.specs.Lists.{joined}
use Rattle.exact_combines.proofs.Same.{pairs_same}
use Rattle.exact_combines.specs.ExactCombines.{checked_combine_of}
use Rattle.long_sums.specs.LongLaws.{long_laws}
use Rattle.long_sums.specs.LongSums.{long_sum_of}
use Rattle.long_sums.specs.RoomSums.{all_fitting}
use Rattle.step_laws.proofs.ByElement.{made-elements}
use Rattle.step_laws.proofs.CombinedInRanges.{few-fits}
use Rattle.step_laws.proofs.CombinedInRooms.{Joins, joined_all, long, own_rooms, rooms_made}
use Rattle.step_laws.proofs.LongRooms.{all_grow, all_long}
use Rattle.step_laws.proofs.PartCalls.{exactly}
use Rattle.step_laws.proofs.Parted.{some-fewer}
use Rattle.step_laws.proofs.PartFaults.{HasFault, no-value, of_part}
use Rattle.step_laws.proofs.RangesOfRoom.{ranges_joined}
use Rattle.step_laws.proofs.RoomShares.{known_shares, shares_within}
use Rattle.step_laws.proofs.SumFaults.{bare, checked_inside}
use Rattle.step_laws.proofs.SummedInParts.{made_long}
use Rattle.step_laws.specs.CombineParts.{BeginAt, Block, HaveMemory, Share, elements_of, index_of, room_of}
use Rattle.step_laws.specs.CombineSteps.{SumsOwn}

-- the sums of each share fit if those of all do
each-fits : (sums : Share ℤ → List ℤ) (shares : List (Share ℤ)) (k : ℕ) (own : Share ℤ) → slice_get shares k ≡ Some own → (all values : List ℤ) → all ≡ joined (map sums shares)
    → all_fitting 0 all ≡ Ok values → (zs : List ℤ) × (all_fitting 0 (sums own) ≡ Ok zs)
each-fits sums shares k own here all values are fit =
    let valued : all_fitting 0 (joined (map sums shares)) ≡ Ok values = ap (all_fitting 0) (sym are) ∙ fit in
    of_part shares k own here (λ s. (zs : List ℤ) × (all_fitting 0 (sums s) ≡ Ok zs))
    (exactly joined (all_fitting 0 (joined (map sums shares))) (λ s. all_fitting 0 (sums s)) shares values (made-elements no.Overflow fitting sums shares) valued)

-- sums that are made, and fit, are told to fit
told-fit : (meaning : Result (List ℤ) Fault) (sums zs : List ℤ) (status : CvlStatus) → meaning ≡ Ok sums → all_fitting 0 sums ≡ Ok zs → Told (all_fit meaning) status tt tt → status ≡ done
told-fit meaning sums zs status is fit told =
    let given : all_fit meaning ≡ Ok tt = ap all_fit is ∙ ap (λ r. r >>= λ _. Ok tt) fit in
    let known : Told (Ok tt) status tt tt = subst (λ m. Told m status tt tt) given told in
    known.0

-- ---- rooms

-- whatever a call answers, it tells so
any-told : (meaning : Result (List ℤ) Fault) (before : List ℤ) → (status : CvlStatus) × Told meaning status before (sums_or before meaning)
any-told (Ok sums) before = (done, (refl, refl))
any-told (Err f) before = (status_of_fault f, (refl, refl))

module _ (boundaries : List ℕ) (memory : List ℤ) where
  -- a share of sums, joined with the rooms of all parts
  abbrev call : Share ℤ → Result (List ℤ) Fault
  call s = joined_share_of long_sum_of s.from boundaries memory s.room

  abbrev joined_with : Share ℤ → Share ℤ
  joined_with s = record s { room = sums_or s.room (call s) }

  all-joins : (shares : List (Share ℤ)) → AllZip (Joins long_laws boundaries memory) shares (map joined_with shares)
  all-joins [] = tt
  all-joins (s ∷ shares) = ((any-told (call s) s.room, refl), all-joins shares)

  module _ (start made : List (Block ℤ ℤ)) (before : List (Share ℤ)) (numbers : AllPass is_number (elements_of start)) (was : AllPass is_number (room_of before))
      (few : length (index_of start) ≤ most_places) (few_places : length (room_of before) ≤ most_places) (begin : BeginAt 0 before)
      (sums : AllZip (SumsOwn (length (room_of before))) start made) (has : HaveMemory boundaries memory made) (k : ℕ) (own : Share ℤ) (here : slice_get before k ≡ Some own)
      (as_many : length own.sums ≡ length own.room) (status : CvlStatus) (told : Told (all_fit (share_sums_of own.from boundaries memory own.room (length own.sums))) status tt tt)
      (fails : status ≢ done) where
    abbrev source : List ℤ
    source = elements_of start

    abbrev index : List ℤ
    index = index_of start

    abbrev room : List ℤ
    room = room_of before

    abbrev after : List (Share ℤ)
    after = map joined_with before

    -- the share's sums are made
    are-made : (zs : List ℤ) × (share_sums_of own.from boundaries memory own.room (length own.sums) ≡ Ok zs) × (sums_or own.room (call own) ≡ zs)
    are-made =
        let grow = all_grow room was in
        let items = all_long source (all_grow source numbers) in
        let longs = all_long room grow in
        let mades = made_long (length room) start made numbers few sums in
        let joins = all-joins before in
        let lies_in = of_part before k own here (λ s. s.from + length s.room ≤ 0 + length room) (shares_within before 0 begin) in
        let few_own = of_part before k own here (λ s. length s.room ≤ most_places) (some-fewer (λ (s : Share ℤ). s.room) most_places before few_places) in
        let found = known_shares (length room) memory boundaries (map (λ b. b.own) made) (own_rooms long_laws boundaries memory start made before after items longs begin mades has joins) has.0 has.1
        (long long_laws boundaries memory start made before after items longs begin mades has joins)
        (rooms_made long_laws boundaries memory start made before after items longs begin mades has joins) own.from (length own.room) (omega (arith, lies_in)) in
        let zs : List ℤ = with_rooms long_sum_of own.room (shares_of own.from (length own.room) memory (starts_of boundaries)) in
        let is : call own ≡ Ok zs = ap (λ b. fault_if (not b) (fault no.LengthMismatch) (Ok zs)) found.0 in
        (zs, few-fits (length own.sums) _ (omega (arith, as_many, few_own)) ∙ if_as_long-fits own.room own.sums (call own) (sym as_many) ∙ is, ap (sums_or own.room) is)

    pub rooms_overflow : HasFault (in_limit index (in_limit room (checked_combine_of source index room)))
    rooms_overflow =
        no-value (in_limit index (in_limit room (checked_combine_of source index room)))
        (λ ys is.
        let grow = all_grow room was in
        let items = all_long source (all_grow source numbers) in
        let longs = all_long room grow in
        let mades = made_long (length room) start made numbers few sums in
        let fitted = checked_inside source index room ys (bare index room (checked_combine_of source index room) ys few few_places is) in
        let all : room_of after ≡ combined ◌+ℤ◌ (zip index source) 0 room =
        joined_all long_laws boundaries memory start made before after items longs begin mades has (all-joins before) ∙ pairs_same source index 0 room few numbers grow in
        let are : fitted.sums ≡ joined (map (λ s. sums_or s.room (call s)) before) =
        sym (all ∙ fitted.same) ∙ ap joined (map-map (λ (s : Share ℤ). s.room) joined_with before) in
        let fit = each-fits (λ s. sums_or s.room (call s)) before k own here fitted.sums fitted.values are fitted.fit in
        fails (told-fit _ are-made.0 fit.0 status are-made.1 (ap (all_fitting 0) (sym are-made.2) ∙ fit.1) told))

-- ---- ranges

module _ (source index : List ℤ) (agree : length source ≡ length index) (few : length index ≤ most_places) (before : List (Share ℤ)) (few_places : length (room_of before) ≤ most_places)
    (begin : BeginAt 0 before) (k : ℕ) (own : Share ℤ) (here : slice_get before k ≡ Some own) (as_many : length own.sums ≡ length own.room) (status : CvlStatus)
    (told : Told (all_fit (range_sums_of source index own.from own.room (length own.sums))) status tt tt) (fails : status ≢ done) where
  pub ranges_overflow : HasFault (in_limit index (in_limit (room_of before) (checked_combine_of source index (room_of before))))
  ranges_overflow =
      let room = room_of before in
      no-value (in_limit index (in_limit room (checked_combine_of source index room)))
      (λ ys is.
      let fitted = checked_inside source index room ys (bare index room (checked_combine_of source index room) ys few few_places is) in
      let sends = zip index source in
      let are : fitted.sums ≡ joined (map (λ s. combined ◌+ℤ◌ sends s.from s.room) before) = sym fitted.same ∙ sym (ranges_joined ◌+ℤ◌ sends before 0 begin) in
      let fit = each-fits (λ s. combined ◌+ℤ◌ sends s.from s.room) before k own here fitted.sums fitted.values are fitted.fit in
      let lies_in = of_part before k own here (λ s. s.from + length s.room ≤ 0 + length room) (shares_within before 0 begin) in
      let made : range_sums_of source index own.from own.room (length own.sums) ≡ Ok (combined ◌+ℤ◌ sends own.from own.room) =
      few-fits (length index) _ few ∙ few-fits (own.from + length own.sums) _ (omega (arith, lies_in, as_many, few_places))
      ∙ if_as_long-fits source index _ agree ∙ if_as_long-fits own.room own.sums (Ok (combined ◌+ℤ◌ sends own.from own.room)) (sym as_many) in
      fails (told-fit _ (combined ◌+ℤ◌ sends own.from own.room) fit.0 status made fit.1 told))
