-- If a part of a call by sums that never wrap finds a fault, so has the whole call one.
use Rattle.std.proofs.Common.{◌≡◌, ◌≢◌, ◌∙◌, ◌==◌, ◌≤◌, ◌+ℤ◌, ℕ, ℤ, pos, List, [], ap, length, not, slice_get, subst, sym, zip, None, Some, Result, Ok}
use Rattle.std.proofs.lemmas.Option.{none-some, same_Some}
use Rattle.std.specs.Result.{result_ok}
use Rattle.c_calls.specs.Calls.{in_limit}
use Rattle.c_calls.specs.Told.{Told, done}
use Rattle.c_calls.specs.declared.status.CvlStatus.{CvlStatus}
use Rattle.combine_parts.specs.OwnRooms.{OwnTold, own_room_of}
use Rattle.combining_permutes.specs.CombiningPermutes.{combine_of, combined}
use Rattle.combining_permutes.proofs.Joined.{combined_none}
use Rattle.cvl_base.specs.declared.fault.Fault.{Fault}
use Rattle.cvl_base.specs.declared.fault.FaultNo.TheVariants as no
use Rattle.cvl_base.specs.Faults.{fault}
use Rattle.cvl_base.specs.Gives.{◌>>=◌}
use Rattle.cvl_base.specs.Limits.{most_places}
use Rattle.cvl_base.specs.Lists.{joined}
use Rattle.exact_combines.specs.ExactCombines.{checked_combine_of, exact_sums_of}
use Rattle.long_sums.specs.RoomSums.{all_fitting, all_growing, growing}
use Rattle.permute_walks.specs.Indices.{first_outside}
use Rattle.call_laws.proofs.TwoParts.{from_value}
use Rattle.step_laws.proofs.Answered.{within}
use Rattle.step_laws.proofs.ByElement.{made-elements}
use Rattle.step_laws.proofs.CombineFaults.{outside_whole, own_fails}
use Rattle.step_laws.proofs.LongRooms.{all_growing-grow, grows_all}
use Rattle.step_laws.proofs.OwnGiven.{combine_given, passed}
use Rattle.step_laws.proofs.PartCalls.{exactly}
use Rattle.step_laws.proofs.Parted.{some-fewer}
use Rattle.step_laws.proofs.PartFaults.{HasFault, no-value, of_part}
use Rattle.step_laws.specs.CombineParts.{Block, HaveIndices, Share, elements_of, index_of, room_of}

-- ---- calls that have a value have no index out of range

-- a call within two limits, without these
pub bare : {A B Y : Type 0} (xs : List A) (zs : List B) (call : Result Y Fault) (y : Y) → length xs ≤ most_places → length zs ≤ most_places → in_limit xs (in_limit zs call) ≡ Ok y
    → call ≡ Ok y
bare xs zs call y few few_places is = sym (within xs (in_limit zs call) few ∙ within zs call few_places) ∙ is

grown : (sums ys : List ℤ) → all_growing 0 sums ≡ Ok ys → ys ≡ sums
grown sums ys is = let grow = all_growing-grow 0 sums ys is in same_Some ys sums (ap result_ok (sym is ∙ grows_all 0 sums grow))

-- sums in 64 bits
exact_inside : (source index before ys : List ℤ) → exact_sums_of source index before ≡ Ok ys → (first_outside 0 (length before) index ≡ None) × ((zs : List ℤ) × (all_growing 0 before ≡ Ok zs))
exact_inside source index before ys is =
    let call = passed (not (length source == length index)) (fault no.LengthMismatch) (all_growing 0 before >>= λ sums. combine_of ◌+ℤ◌ source index sums) ys is in
    let sums = from_value (all_growing 0 before) (λ sums. combine_of ◌+ℤ◌ source index sums) ys call.1 in
    let whole : combine_of ◌+ℤ◌ source index before ≡ Ok ys = ap (combine_of ◌+ℤ◌ source index) (sym (grown before sums.0 sums.1)) ∙ sums.2 in
    ((combine_given ◌+ℤ◌ source index before ys whole).0, (sums.0, sums.1))

-- sums that have to fit 32 bits
pub record Fitted (source index before : List ℤ) : Type 0 where
  pub sums : List ℤ
  pub inside : first_outside 0 (length before) index ≡ None
  pub same : combined ◌+ℤ◌ (zip index source) 0 before ≡ sums
  pub values : List ℤ
  pub fit : all_fitting 0 sums ≡ Ok values

pub checked_inside : (source index before ys : List ℤ) → checked_combine_of source index before ≡ Ok ys → Fitted source index before
checked_inside source index before ys is =
    let sums = from_value (combine_of ◌+ℤ◌ source index before) (all_fitting 0) ys is in
    let both = combine_given ◌+ℤ◌ source index before sums.0 sums.1 in
    record { sums = sums.0; inside = both.0; same = both.1; values = ys; fit = sums.2 }

-- ---- a part's own room

module _ (start : List (Block ℤ ℤ)) (k : ℕ) (own : Block ℤ ℤ) (here : slice_get start k ≡ Some own) (many : HaveIndices start) (few : length (index_of start) ≤ most_places) (room : List ℤ)
    (few_places : length room ≤ most_places) (status : CvlStatus) (left : List ℤ) (fits : length room ≤ length own.own)
    (told : OwnTold (length room) (own_room_of ◌+ℤ◌ (pos 0) (length room) (length own.own) own.elements own.index) status own.own left) (fails : status ≢ done) where
  not_inside : first_outside 0 (length room) (index_of start) ≡ None → ⊥
  not_inside none =
      let outside = outside_whole start k own here (length room) (own_fails ◌+ℤ◌ (pos 0) start k own here many few room few_places status left fits told fails) in
      none-some outside.0 (sym none ∙ outside.1)

  pub exact_fails : HasFault (in_limit (index_of start) (in_limit room (exact_sums_of (elements_of start) (index_of start) room)))
  exact_fails =
      no-value (in_limit (index_of start) (in_limit room (exact_sums_of (elements_of start) (index_of start) room)))
      (λ ys is. not_inside (exact_inside (elements_of start) (index_of start) room ys (bare (index_of start) room (exact_sums_of (elements_of start) (index_of start) room) ys few few_places is)).0)

  pub checked_fails : HasFault (in_limit (index_of start) (in_limit room (checked_combine_of (elements_of start) (index_of start) room)))
  checked_fails =
      no-value (in_limit (index_of start) (in_limit room (checked_combine_of (elements_of start) (index_of start) room)))
      (λ ys is.
      let call = bare (index_of start) room (checked_combine_of (elements_of start) (index_of start) room) ys few few_places is in
      let fitted = checked_inside (elements_of start) (index_of start) room ys call in
      not_inside fitted.inside)

-- ---- a share that has a sum that may not grow

pub growth_fails : (shares : List (Share ℤ)) (k : ℕ) (own : Share ℤ) → slice_get shares k ≡ Some own → (source index : List ℤ) → length index ≤ most_places → length (room_of shares) ≤ most_places
    → (status : CvlStatus) (left : List ℤ) → Told (in_limit {X = ℤ} [] (in_limit own.room (exact_sums_of [] [] own.room))) status own.room left → status ≢ done
    → HasFault (in_limit index (in_limit (room_of shares) (exact_sums_of source index (room_of shares))))
growth_fails shares k own here source index few few_places status left told fails =
    no-value (in_limit index (in_limit (room_of shares) (exact_sums_of source index (room_of shares))))
    (λ ys is.
    let all = (exact_inside source index (room_of shares) ys (bare index (room_of shares) (exact_sums_of source index (room_of shares)) ys few few_places is)).1 in
    let each = exactly joined (all_growing 0 (room_of shares)) (λ (s : Share ℤ). all_growing 0 s.room) shares all.0 (made-elements no.Overflow growing (λ (s : Share ℤ). s.room) shares) all.1 in
    let grows = of_part shares k own here (λ (s : Share ℤ). (zs : List ℤ) × (all_growing 0 s.room ≡ Ok zs)) each in
    let few_own = of_part shares k own here (λ (s : Share ℤ). length s.room ≤ most_places) (some-fewer (λ (s : Share ℤ). s.room) most_places shares few_places) in
    let grow = all_growing-grow 0 own.room grows.0 grows.1 in
    let given : in_limit {X = ℤ} [] (in_limit own.room (exact_sums_of [] [] own.room)) ≡ Ok own.room =
    within own.room (exact_sums_of [] [] own.room) few_own
    ∙ ap (λ r. r >>= λ sums. combine_of ◌+ℤ◌ [] [] sums) (grows_all 0 own.room grow) ∙ ap Ok (combined_none ◌+ℤ◌ 0 own.room) in
    let known : Told (Ok own.room) status own.room left = subst (λ m. Told m status own.room left) given told in
    fails known.0)
