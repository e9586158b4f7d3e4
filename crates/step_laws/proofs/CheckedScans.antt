-- Checked scans by steps, where 64 bits hold the sum of as many integers as a vector has.
use Rattle.std.proofs.Common.{◌≡◌, ◌+ℤ◌, ◌≤◌, ◌^◌, ◌∙◌, ◌∷◌, ℕ, ℤ, pos, FitsSigned, List, [], length, map, Ok, refl, sym, ap, arith, All, Some, subst, get_or, slice_get}
use mathlib.Core.List.{map-map}
use Rattle.std.proofs.lemmas.Option.{same_Some}
use Rattle.std.specs.Int.{w64}
use Rattle.std.specs.List.{AllPass, AllZip}
use Rattle.std.specs.Option.{ok_or}
use Rattle.std.specs.Result.{result_ok}
use Rattle.call_table.specs.declared.families.IntMonoid.TheVariants.{Add}
use Rattle.cvl_base.specs.CheckedSums.{checked_reduce_of, checked_scan_of, fitting}
use Rattle.cvl_base.specs.declared.fault.FaultNo.TheVariants.{Overflow}
use Rattle.cvl_base.specs.Exact.{total_of}
use Rattle.cvl_base.specs.Faults.{fault_at}
use Rattle.cvl_base.specs.Folds.{scan_of}
use Rattle.cvl_base.specs.Integers.{sum_of, wrap}
use Rattle.cvl_base.specs.ItemWords.{is_number}
use Rattle.cvl_base.specs.Limits.{most_places}
use Rattle.cvl_base.specs.Lists.{joined}
use Rattle.operators.proofs.FoldLaws.{length-scan_of}
use Rattle.scan_walks.proofs.WholeSums.{all_whole, whole_laws}
use Rattle.call_laws.proofs.InParts.{scan-parts}
use Rattle.call_laws.specs.InParts.{scans_after}
use Rattle.part_calls.specs.Limits.{few_enough}
use Rattle.part_calls.specs.Sums.{all_fitting, checked_scan_after}
use Rattle.part_records.specs.Carries.{carried_total_of, carries_of, long_total_of}
use Rattle.c_calls.specs.Calls.{by_operator, in_limit}
use Rattle.c_calls.specs.Numbers.{int_monoid}
use Rattle.c_calls.specs.Tiles.{int_scan_after}
use Rattle.c_calls.specs.Told.{RoomTold, done}
use Rattle.step_laws.specs.CheckedSteps.{Carries, LooksAtSums, ScansSums, Totals}
use Rattle.step_laws.specs.Looks.{Fails}
use Rattle.step_laws.specs.Parts.{CarriesAlone, HaveRooms, Part, befores_of, elements_of, room_of, told_of}
use Rattle.step_laws.proofs.Answered.{fills, is_done, is_given, past_limit, tells_done, within}
use Rattle.step_laws.proofs.ByElement.{made-elements}
use Rattle.step_laws.proofs.Carried.{exact-carries, exact-total}
use Rattle.step_laws.proofs.Fitting.{FitsAfter, looked_fits}
use Rattle.step_laws.proofs.PartFaults.{HasFault, failed, of_part, whole-failed}
use Rattle.step_laws.proofs.Parted.{alike, each-also, each-where, keeps, some-fewer}
use Rattle.step_laws.proofs.Valued.{joined-values, long-zipped}

abbrev Sums : Type 0
Sums = Part ℤ ℤ ℤ

-- a part has room for its integers, of which there are not too many
abbrev Fits : Sums → Type 0
Fits p = (length p.room ≡ length p.elements) × (length p.elements ≤ most_places)

abbrev lists : List Sums → List (List ℤ)
lists parts = map (λ p. p.elements) parts

-- what a step tells of each part
told-totals : (start summed : List Sums) → AllZip Totals start summed → told_of summed ≡ map total_of (lists start)
told-totals start summed first =
    alike Totals (λ p. total_of p.elements) (λ p. p.told) (λ own left does. sym (past_limit _ _ (total_of own.elements) left.told (is_given _ own.told left.told does.0))) start summed first
    ∙ sym (map-map total_of (λ (p : Sums). p.elements) start)

-- the sums in a part, after what stands before it
abbrev sums_in : Sums → List ℤ
sums_in p = scan_of ◌+ℤ◌ p.before p.elements

after-each : (parts : List Sums) → map sums_in parts ≡ scans_after ◌+ℤ◌ (befores_of parts) (lists parts)
after-each [] = refl
after-each (p ∷ parts) = ap (λ rest. scan_of ◌+ℤ◌ p.before p.elements ∷ rest) (after-each parts)

-- a part whose sums fit fills its room with them
scanned : (op : ℕ) → int_monoid op ≡ Ok Add → (own left : Sums) → ScansSums op own left → Fits own → FitsAfter own.before own.elements
    → (checked_scan_after own.before own.elements ≡ Ok left.room) × (length left.room ≡ length own.room)
scanned op is_add own left does fit after =
    let sums : List ℤ = scan_of sum_of (wrap own.before) own.elements in
    let long : length sums ≡ length own.room = length-scan_of sum_of (wrap own.before) own.elements ∙ sym fit.0 in
    let by_sum : RoomTold (in_limit own.elements (Ok sums)) does.0.0 own.room left.room =
    subst (λ r. RoomTold (by_operator r (λ o. in_limit own.elements (Ok (int_scan_after o (wrap own.before) own.elements)))) does.0.0 own.room left.room) is_add does.0.1 in
    let now : left.room ≡ sums =
    is_done sums own.room left.room does.0.0 long (subst (λ m. RoomTold m does.0.0 own.room left.room) (within own.elements (Ok sums) fit.1) by_sum) in
    (after ∙ ap Ok (sym now), ap length now ∙ long)

module _ (fits : (xs : List ℤ) → length xs ≤ 2 ^ 32 → AllPass is_number xs → FitsSigned w64 (total_of xs)) where
  -- what stands before each part, in 64 bits, is what stands there in whole numbers
  carried-exactly : (start summed carried : List Sums) → AllPass is_number (elements_of start) → length (elements_of start) ≤ most_places
      → AllZip Totals start summed → Carries summed carried → befores_of carried ≡ scan_of ◌+ℤ◌ (pos 0) (map total_of (lists start))
  carried-exactly start summed carried numbers few first carries =
      let given = fills (Ok (carries_of (told_of summed))) (befores_of summed) (befores_of carried) carries.0 in
      let same : carries_of (told_of summed) ≡ befores_of carried = same_Some _ _ (ap result_ok given.0) in
      let below : length (joined (lists start)) ≤ 2 ^ 32 = omega (arith, few) in
      sym same ∙ ap carries_of (told-totals start summed first) ∙ exact-carries fits [] (lists start) below numbers

  -- the parts keep their integers
  lists-kept : (start summed carried : List Sums) → AllZip Totals start summed → Carries summed carried → lists carried ≡ lists start
  lists-kept start summed carried first carries =
      alike CarriesAlone (λ p. p.elements) (λ p. p.elements) (λ own left does. ap (λ (p : Sums). p.elements) does) summed carried carries.1
      ∙ alike Totals (λ p. p.elements) (λ p. p.elements) (λ own left does. ap (λ (p : Sums). p.elements) does.1) start summed first

  -- the sums in each part, after what stands before it, are those of the whole
  sums-carried : (start summed carried : List Sums) → AllPass is_number (elements_of start) → length (elements_of start) ≤ most_places
      → AllZip Totals start summed → Carries summed carried → joined (map sums_in carried) ≡ scan_of ◌+ℤ◌ (pos 0) (elements_of start)
  sums-carried start summed carried numbers few first carries =
      let befores = carried-exactly start summed carried numbers few first carries in
      ap joined (after-each carried ∙ ap (λ bs. scans_after ◌+ℤ◌ bs (lists carried)) befores
      ∙ ap (scans_after ◌+ℤ◌ (scan_of ◌+ℤ◌ (pos 0) (map total_of (lists start)))) (lists-kept start summed carried first carries))
      ∙ sym (scan-parts whole_laws (pos 0) (lists start) refl (λ k d lt. all_whole (get_or (lists start) k d)))

  -- a part that finds a sum that does not fit finds a fault of the whole
  pub look-fails : (start summed carried : List Sums) → AllPass is_number (elements_of start) → length (elements_of start) ≤ most_places
      → AllZip Totals start summed → Carries summed carried → (k : ℕ) (own : Sums) → slice_get carried k ≡ Some own
      → Fails (few_enough (length own.elements) (checked_scan_after own.before own.elements))
      → HasFault (in_limit (elements_of start) (checked_scan_of (elements_of start)))
  look-fails start summed carried numbers few first carries k own here fails =
      let xs = elements_of start in
      let few_carried : length (elements_of carried) ≤ most_places = subst (λ ls. length (joined ls) ≤ most_places) (sym (lists-kept start summed carried first carries)) few in
      let fails_whole : HasFault (all_fitting (joined (map sums_in carried))) =
      whole-failed (all_fitting (joined (map sums_in carried))) (λ p. all_fitting (sums_in p)) carried k own (made-elements Overflow fitting sums_in carried) here
      (λ ys is.
      let few_own = of_part carried k own here (λ (p : Sums). length p.elements ≤ most_places) (some-fewer (λ (p : Sums). p.elements) most_places carried few_carried) in
      failed (few_enough (length own.elements) (checked_scan_after own.before own.elements)) fails ys (within own.elements (checked_scan_after own.before own.elements) few_own ∙ is)) in
      (fails_whole.0, within xs (checked_scan_of xs) few ∙ ap all_fitting (sym (sums-carried start summed carried numbers few first carries)) ∙ fails_whole.1)

  pub scans : (op : ℕ) (start summed carried looked end : List Sums) → int_monoid op ≡ Ok Add
      → AllPass is_number (elements_of start) → length (elements_of start) ≤ most_places → HaveRooms start
      → AllZip Totals start summed → Carries summed carried → AllZip LooksAtSums carried looked → AllZip (ScansSums op) looked end
      → RoomTold (in_limit (elements_of start) (checked_scan_of (elements_of start))) done (room_of start) (room_of end)
  scans op start summed carried looked end is_add numbers few rooms first carries looks last =
      let room_told : map (λ p. p.room) summed ≡ map (λ p. p.room) start = alike Totals (λ p. p.room) (λ p. p.room) (λ own left does. ap (λ (p : Sums). p.room) does.1) start summed first in
      let room_held : map (λ p. p.room) carried ≡ map (λ p. p.room) summed =
      alike CarriesAlone (λ p. p.room) (λ p. p.room) (λ own left does. ap (λ (p : Sums). p.room) does) summed carried carries.1 in
      let room_seen : map (λ p. p.room) looked ≡ map (λ p. p.room) carried = alike LooksAtSums (λ p. p.room) (λ p. p.room) (λ own left does. ap (λ (p : Sums). p.room) does.1) carried looked looks in
      let few_each = some-fewer (λ (p : Sums). p.elements) most_places start few in
      let at_first : All Fits start = λ k d lt. (rooms k d lt, few_each k d lt) in
      let then : All Fits summed = keeps Totals Fits Fits (λ own left does fit. subst Fits (sym does.1) fit) start summed first at_first in
      let later : All Fits carried = keeps CarriesAlone Fits Fits (λ own left does fit. subst Fits (sym does) fit) summed carried carries.1 then in
      let seen : All (λ p. Fits p × FitsAfter p.before p.elements) looked =
      keeps LooksAtSums Fits (λ p. Fits p × FitsAfter p.before p.elements)
      (λ own left does fit. subst (λ (p : Sums). Fits p × FitsAfter p.before p.elements) (sym does.1)
      (fit, looked_fits own.before own.elements does.0.0 fit.1 does.0.1 does.0.2))
      carried looked looks later in
      let made : AllZip (λ own left. (checked_scan_after own.before own.elements ≡ Ok left.room) × (length left.room ≡ length own.room)) looked end =
      each-where (ScansSums op) (λ own left. (checked_scan_after own.before own.elements ≡ Ok left.room) × (length left.room ≡ length own.room))
      (λ p. Fits p × FitsAfter p.before p.elements) (λ own left does holds. scanned op is_add own left does holds.0 holds.1) looked end last seen in
      let xs = elements_of start in
      let sums : joined (map sums_in looked) ≡ scan_of ◌+ℤ◌ (pos 0) xs =
      ap joined (alike LooksAtSums sums_in sums_in (λ own left does. ap sums_in does.1) carried looked looks) ∙ sums-carried start summed carried numbers few first carries in
      let whole : checked_scan_of xs ≡ Ok (room_of end) =
      ap all_fitting (sym sums)
      ∙ joined-values Overflow fitting sums_in (λ p. p.room) looked end
      (each-also _ (λ own left. checked_scan_after own.before own.elements ≡ Ok left.room) (λ own left both. both.0) looked end made) in
      let long : length (room_of end) ≡ length (room_of start) =
      long-zipped (λ p. p.room) (λ p. p.room) looked end (each-also _ (λ own left. length left.room ≡ length own.room) (λ own left both. both.1) looked end made)
      ∙ ap (λ r. length (joined r)) (room_seen ∙ room_held ∙ room_told) in
      subst (λ m. RoomTold m done (room_of start) (room_of end)) (sym (within xs (checked_scan_of xs) few ∙ whole)) (tells_done (room_of end) (room_of start) long)

  pub reduces : (start summed : List Sums) → AllPass is_number (elements_of start) → length (elements_of start) ≤ most_places → AllZip Totals start summed
      → carried_total_of (told_of summed) ≡ in_limit (elements_of start) (checked_reduce_of (elements_of start))
  reduces start summed numbers few first =
      let below : length (joined (lists start)) ≤ 2 ^ 32 = omega (arith, few) in
      let total : long_total_of (told_of summed) ≡ total_of (elements_of start) =
      ap long_total_of (told-totals start summed first) ∙ exact-total fits [] (lists start) below numbers in
      ap (λ z. ok_or (fitting z) (fault_at Overflow 0)) total ∙ sym (within (elements_of start) (checked_reduce_of (elements_of start)) few)
