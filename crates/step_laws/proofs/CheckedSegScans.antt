-- Checked scans by segments by steps, where 64 bits hold the sum of as many integers as a vector has.
use Rattle.std.proofs.Common.{◌≡◌, ◌++◌, ◌+ℤ◌, ◌<◌, ◌≤◌, ◌^◌, ◌+◌, ◌∙◌, ◌∷◌, ℕ, ℤ, pos, false, FitsSigned, List, [], length, map, take, drop, sum, Ok, refl, sym, ap, arith, All, subst, get_or}
use Rattle.std.proofs.Common.{Result, Some, slice_get, ⊎_elim}
use mathlib.Core.List.{map-map}
use Rattle.std.proofs.lemmas.Bool.{cases_lt}
use Rattle.std.proofs.lemmas.List.{length-map, map-append}
use Rattle.std.proofs.lemmas.Option.{same_Some}
use Rattle.std.specs.Int.{w64}
use Rattle.std.specs.List.{AllPass, AllZip}
use Rattle.std.specs.Result.{result_ok}
use Rattle.call_laws.proofs.Carries.{scan-plain}
use Rattle.call_laws.specs.CheckedParts.{checked_seg_scan_after}
use Rattle.call_laws.specs.OverRanks.{scans_over_ranks}
use Rattle.call_table.specs.declared.families.IntMonoid.TheVariants.{Add}
use Rattle.cvl_base.proofs.Elementwise.{if_as_long-fits}
use Rattle.cvl_base.specs.CheckedSums.{checked_seg_scan_of, fitting}
use Rattle.cvl_base.specs.declared.fault.Fault.{Fault}
use Rattle.cvl_base.specs.declared.fault.FaultNo.TheVariants.{Overflow}
use Rattle.cvl_base.specs.Exact.{total_of}
use Rattle.cvl_base.specs.Folds.{scan_of}
use Rattle.cvl_base.specs.Gives.{◌>>=◌}
use Rattle.cvl_base.specs.Integers.{sum_of, wrap}
use Rattle.cvl_base.specs.ItemWords.{is_number}
use Rattle.cvl_base.specs.Limits.{most_places}
use Rattle.cvl_base.specs.Lists.{joined}
use Rattle.cvl_base.specs.Scans.{int_join_of, int_unit_of}
use Rattle.long_sums.specs.LongSums.{long_sum_of}
use Rattle.part_calls.specs.Sums.{all_fitting}
use Rattle.range_walks.specs.Ranges.{scans_of}
use Rattle.scan_walks.proofs.Fitted.{none_overflows, overflows, wrapped_scans, zero_wrapped}
use Rattle.scan_walks.proofs.WholeSums.{all_whole, whole_laws}
use Rattle.scan_walks.specs.Fronts.{fitting_front}
use Rattle.segment_parts.proofs.Scanned.{part-fits}
use Rattle.segment_parts.specs.Carries.{before_each}
use Rattle.segment_parts.specs.CheckedSums.{checked_part_scan_by, checked_part_scan_of, long_carries_of}
use Rattle.c_calls.specs.Calls.{by_segments, lengths_of}
use Rattle.c_calls.specs.Numbers.{int_monoid}
use Rattle.c_calls.specs.Told.{RoomTold, done}
use Rattle.step_laws.specs.CheckedSegmentSteps.{LongCarries, LooksAtSegSums, ScansSegSums, SegTotals}
use Rattle.step_laws.specs.Looks.{Fails, Passes}
use Rattle.step_laws.specs.Pieces.{AreCut, Piece, segments_in, since_start}
use Rattle.step_laws.specs.SegmentSteps.{CarriesAlone, HaveRooms, SegPart, befores_of, elements_of, pieces_of, room_of, starts_of, told_of}
use Rattle.step_laws.proofs.Answered.{fills, is_given, past_limit, tells_done, within}
use Rattle.step_laws.proofs.ByElement.{made-elements}
use Rattle.step_laws.proofs.CarriedPieces.{exact-befores}
use Rattle.step_laws.proofs.Fitting.{no-overflow, wrapped}
use Rattle.step_laws.proofs.Operators.{int_laws}
use Rattle.step_laws.proofs.PartFaults.{HasFault, failed, of_part, whole-failed}
use Rattle.step_laws.proofs.Parted.{alike, each-also, each-where, keeps}
use Rattle.step_laws.proofs.PieceScans.{all_scans, befores, scans-cut, scans_in, tells}
use Rattle.step_laws.proofs.SegScanned.{Fits, all-fit, length-own, part_scan, whole-scan, writes-own}
use Rattle.step_laws.proofs.SegmentLengths.{are_lengths, few-of, nested}
use Rattle.step_laws.proofs.Valued.{joined-values, long-zipped}

abbrev Sums : Type 0
Sums = SegPart ℤ

-- ---- the sums of a part that wrap are its wrapped sums

-- the sums in a part, over whole numbers and wrapped
abbrev exact_sums : Sums → List ℤ
exact_sums p = scans_in ◌+ℤ◌ (pos 0) p.before p.piece

abbrev wrapped_sums : Sums → List ℤ
wrapped_sums p = scans_in sum_of (pos 0) (wrap p.before) p.piece

wrapped_in : (p : Sums) → wrapped_sums p ≡ map wrap (exact_sums p)
wrapped_in p =
    let xs : List ℤ = p.piece.elements in
    let head = p.piece.head in let lengths = p.piece.lengths in
    let first : List ℤ = scan_of ◌+ℤ◌ p.before (take head xs) in
    let whole : List ℤ = scans_of ◌+ℤ◌ (pos 0) lengths (drop head xs) in
    let last : List ℤ = scan_of ◌+ℤ◌ (pos 0) (drop (head + sum lengths) xs) in
    let tails = ap (λ z. scan_of sum_of z (drop (head + sum lengths) xs)) (sym zero_wrapped) ∙ wrapped (pos 0) (drop (head + sum lengths) xs) in
    (λ i. (wrapped p.before (take head xs) i ++ wrapped_scans lengths (drop head xs) i) ++ tails i)
    ∙ ap (λ zs. zs ++ map wrap last) (sym (map-append wrap first whole))
    ∙ sym (map-append wrap (first ++ whole) last)

-- ---- what a look says

-- the sums of a part fit, and are those that wrap
abbrev FitsIn : Sums → Type 0
FitsIn p = all_fitting (exact_sums p) ≡ Ok (wrapped_sums p)

-- a part's call, if the part fits
call-of : (p : Sums) → Fits p → checked_part_scan_by p.before p.piece.head (map pos p.piece.lengths) p.piece.elements ≡ all_fitting (exact_sums p)
call-of p fit =
    let xs : List ℤ = p.piece.elements in
    let small : sum p.piece.lengths ≤ most_places = omega (arith, fit.enough, fit.few_elements) in
    let call : List ℕ → Result (List ℤ) Fault = λ segments. checked_part_scan_of p.before p.piece.head segments xs in
    within xs (by_segments (map pos p.piece.lengths) call) fit.few_elements
    ∙ ap (λ r. r >>= call) (are_lengths p.piece.lengths fit.few_lengths small)
    ∙ ap (λ r. r >>= all_fitting) (part-fits ◌+ℤ◌ (pos 0) p.before p.piece.head p.piece.lengths xs fit.enough)

looked_in : (p : Sums) → Fits p → Passes (checked_part_scan_by p.before p.piece.head (map pos p.piece.lengths) p.piece.elements) → FitsIn p
looked_in p fit look =
    let zs = exact_sums p in let front = fitting_front zs in
    let some : RoomTold (all_fitting zs) look.0 [] [] = subst (λ m. RoomTold m look.0 [] []) (call-of p fit) look.1 in
    ⊎_elim
    (λ (lt : front < length zs). absurd (no-overflow (0 + front) look.0 (subst (λ m. RoomTold m look.0 [] []) (overflows 0 zs lt) some) look.2))
    (λ (ge : length zs ≤ front). none_overflows front zs refl (wrapped_sums p) ge (wrapped_in p))
    (cases_lt front (length zs))

-- a part whose sums fit fills its room with them
scanned_in : (op : ℕ) → int_monoid op ≡ Ok Add → (own left : Sums) → ScansSegSums op own left → Fits own → FitsIn own
    → (all_fitting (exact_sums own) ≡ Ok left.room) × (length left.room ≡ length own.room)
scanned_in op is_add own left does fit fits =
    let wraps : Sums = record own { before = wrap own.before } in
    let scan : RoomTold (part_scan int_unit_of int_join_of int_laws (Ok Add) (wrap own.before) own.piece.head (map pos own.piece.lengths) own.piece.elements) does.0.0 own.room left.room =
    subst (λ r. RoomTold (part_scan int_unit_of int_join_of int_laws r (wrap own.before) own.piece.head (map pos own.piece.lengths) own.piece.elements) does.0.0 own.room left.room)
    is_add does.0.1 in
    let now : left.room ≡ wrapped_sums own = writes-own int_unit_of int_join_of int_laws Add wraps (record wraps { room = left.room }) ((does.0.0, scan), refl) fit in
    (fits ∙ ap Ok (sym now), ap length now ∙ length-own int_unit_of int_join_of int_laws Add wraps fit)

-- ---- the whole

after-each-sum : (parts : List Sums) → joined (map exact_sums parts) ≡ all_scans whole_laws (befores_of parts) (pieces_of parts)
after-each-sum [] = refl
after-each-sum (p ∷ parts) = ap (λ rest. exact_sums p ++ rest) (after-each-sum parts)

module _ (fits : (xs : List ℤ) → length xs ≤ 2 ^ 32 → AllPass is_number xs → FitsSigned w64 (total_of xs)) where
  -- what stands before each part, in 64 bits, is what stands there in whole numbers
  carried-exactly : (start summed carried : List Sums) → AllPass is_number (elements_of start) → length (elements_of start) ≤ most_places
      → AllZip SegTotals start summed → LongCarries summed carried → befores_of carried ≡ befores whole_laws false (pos 0) (pieces_of start)
  carried-exactly start summed carried numbers few first carries =
      let pieces = pieces_of start in
      let same : pieces_of summed ≡ pieces = alike SegTotals (λ p. p.piece) (λ p. p.piece) (λ own left does. ap (λ (p : Sums). p.piece) does.1) start summed first in
      let sums : told_of summed ≡ map (tells ◌+ℤ◌ (pos 0)) pieces =
      alike SegTotals (λ p. tells ◌+ℤ◌ (pos 0) p.piece) (λ p. p.told)
      (λ own left does. sym (past_limit _ _ (total_of (since_start own.piece)) left.told (is_given _ own.told left.told does.0))) start summed first
      ∙ sym (map-map (tells ◌+ℤ◌ (pos 0)) (λ (p : Sums). p.piece) start) in
      let starts : starts_of summed ≡ map (λ p. p.starts) pieces =
      sym (map-map (λ (p : Piece ℤ). p.starts) (λ (p : Sums). p.piece) summed) ∙ ap (map (λ p. p.starts)) same in
      let given = fills (long_carries_of (starts_of summed) (told_of summed)) (befores_of summed) (befores_of carried) carries.0 in
      let as_many : length (starts_of summed) ≡ length (told_of summed) =
      length-map summed (λ (p : Sums). p.piece.starts) ∙ sym (length-map summed (λ (p : Sums). p.told)) in
      let carry : before_each long_sum_of (pos 0) (starts_of summed) (told_of summed) ≡ befores_of carried =
      same_Some _ (befores_of carried) (ap result_ok (sym (if_as_long-fits (starts_of summed) (told_of summed) _ as_many) ∙ given.0)) in
      sym carry ∙ (λ i. before_each long_sum_of (pos 0) (starts i) (sums i)) ∙ exact-befores fits pieces (omega (arith, few)) numbers

  module _ (calls : (xs : List ℤ) (lengths : List ℕ) → checked_seg_scan_after (pos 0) xs lengths ≡ checked_seg_scan_of xs lengths) where
    -- the call has the sums of all parts, if they fit
    whole-call : (lengths : List ℤ) (segments : List ℕ) (start summed carried : List Sums) → lengths_of lengths ≡ Ok segments → AreCut segments (pieces_of start)
        → AllPass is_number (elements_of start) → AllZip SegTotals start summed → LongCarries summed carried
        → by_segments lengths (checked_seg_scan_of (elements_of start)) ≡ all_fitting (joined (map exact_sums carried))
    whole-call lengths segments start summed carried are cut numbers first carries =
        let pieces = pieces_of start in let xs : List ℤ = elements_of start in
        let few = few-of lengths segments are in
        let few_elements : length xs ≤ most_places = omega (arith, (nested segments xs cut.whole.0 cut.whole.1).0, few.1) in
        let befores_are = carried-exactly start summed carried numbers few_elements first carries in
        let same : pieces_of summed ≡ pieces = alike SegTotals (λ p. p.piece) (λ p. p.piece) (λ own left does. ap (λ (p : Sums). p.piece) does.1) start summed first in
        let still : pieces_of carried ≡ pieces_of summed = alike CarriesAlone (λ p. p.piece) (λ p. p.piece) (λ own left does. ap (λ (p : Sums). p.piece) does) summed carried carries.1 in
        let scans = scans_over_ranks ◌+ℤ◌ (pos 0) (pos 0) (map segments_in pieces) in
        let sums : joined (map exact_sums carried) ≡ scans =
        after-each-sum carried ∙ (λ i. all_scans whole_laws (befores_are i) ((still ∙ same) i))
        ∙ scans-cut whole_laws pieces cut.each cut.next (λ k d lt. all_whole (get_or (map (λ (p : Piece ℤ). p.elements) pieces) k d)) in
        ap (λ r. r >>= checked_seg_scan_of xs) are ∙ sym (calls xs segments)
        ∙ ap (λ r. r >>= all_fitting) (scan-plain ◌+ℤ◌ (pos 0) xs segments ∙ whole-scan ◌+ℤ◌ (pos 0) segments pieces cut)
        ∙ ap all_fitting (sym sums)

    parts-fit : (lengths : List ℤ) (segments : List ℕ) (start summed carried : List Sums) → lengths_of lengths ≡ Ok segments → AreCut segments (pieces_of start) → HaveRooms start
        → AllZip SegTotals start summed → LongCarries summed carried → All Fits carried
    parts-fit lengths segments start summed carried are cut rooms first carries =
        let few = few-of lengths segments are in
        let fit : All Fits start = all-fit int_unit_of int_join_of int_laws segments start few.0 few.1 cut rooms in
        let then : All Fits summed = keeps SegTotals Fits Fits (λ own left does fits_own. subst Fits (sym does.1) fits_own) start summed first fit in
        keeps CarriesAlone Fits Fits (λ own left does fits_own. subst Fits (sym does) fits_own) summed carried carries.1 then

    -- a part that finds a sum that does not fit finds a fault of the whole
    pub look-fails : (lengths : List ℤ) (segments : List ℕ) (start summed carried : List Sums) → lengths_of lengths ≡ Ok segments → AreCut segments (pieces_of start)
        → AllPass is_number (elements_of start) → HaveRooms start → AllZip SegTotals start summed → LongCarries summed carried → (k : ℕ) (own : Sums) → slice_get carried k ≡ Some own
        → Fails (checked_part_scan_by own.before own.piece.head (map pos own.piece.lengths) own.piece.elements) → HasFault (by_segments lengths (checked_seg_scan_of (elements_of start)))
    look-fails lengths segments start summed carried are cut numbers rooms first carries k own here fails =
        let fit_own = of_part carried k own here Fits (parts-fit lengths segments start summed carried are cut rooms first carries) in
        let fails_whole : HasFault (all_fitting (joined (map exact_sums carried))) =
        whole-failed (all_fitting (joined (map exact_sums carried))) (λ p. all_fitting (exact_sums p)) carried k own (made-elements Overflow fitting exact_sums carried) here
        (λ ys is. failed _ fails ys (call-of own fit_own ∙ is)) in
        (fails_whole.0, whole-call lengths segments start summed carried are cut numbers first carries ∙ fails_whole.1)

    pub checked_scans : (op : ℕ) (lengths : List ℤ) (segments : List ℕ) (start summed carried looked end : List Sums) → int_monoid op ≡ Ok Add
        → lengths_of lengths ≡ Ok segments → AreCut segments (pieces_of start) → AllPass is_number (elements_of start) → HaveRooms start
        → AllZip SegTotals start summed → LongCarries summed carried → AllZip LooksAtSegSums carried looked → AllZip (ScansSegSums op) looked end
        → RoomTold (by_segments lengths (checked_seg_scan_of (elements_of start))) done (room_of start) (room_of end)
    checked_scans op lengths segments start summed carried looked end is_add are cut numbers rooms first carries looks last =
        let xs : List ℤ = elements_of start in
        let room_told : map (λ p. p.room) summed ≡ map (λ p. p.room) start = alike SegTotals (λ p. p.room) (λ p. p.room) (λ own left does. ap (λ (p : Sums). p.room) does.1) start summed first in
        let room_held : map (λ p. p.room) carried ≡ map (λ p. p.room) summed =
        alike CarriesAlone (λ p. p.room) (λ p. p.room) (λ own left does. ap (λ (p : Sums). p.room) does) summed carried carries.1 in
        let room_seen : map (λ p. p.room) looked ≡ map (λ p. p.room) carried =
        alike LooksAtSegSums (λ p. p.room) (λ p. p.room) (λ own left does. ap (λ (p : Sums). p.room) does.1) carried looked looks in
        let found : All (λ p. Fits p × FitsIn p) looked =
        keeps LooksAtSegSums Fits (λ p. Fits p × FitsIn p)
        (λ own left does fits_own. subst (λ (p : Sums). Fits p × FitsIn p) (sym does.1) (fits_own, looked_in own fits_own does.0)) carried looked looks
        (parts-fit lengths segments start summed carried are cut rooms first carries) in
        let made : AllZip (λ own left. (all_fitting (exact_sums own) ≡ Ok left.room) × (length left.room ≡ length own.room)) looked end =
        each-where (ScansSegSums op) (λ own left. (all_fitting (exact_sums own) ≡ Ok left.room) × (length left.room ≡ length own.room))
        (λ p. Fits p × FitsIn p) (λ own left does holds. scanned_in op is_add own left does holds.0 holds.1) looked end last found in
        let sums : joined (map exact_sums looked) ≡ joined (map exact_sums carried) =
        ap joined (alike LooksAtSegSums exact_sums exact_sums (λ own left does. ap exact_sums does.1) carried looked looks) in
        let whole : by_segments lengths (checked_seg_scan_of xs) ≡ Ok (room_of end) =
        whole-call lengths segments start summed carried are cut numbers first carries ∙ ap all_fitting (sym sums)
        ∙ joined-values Overflow fitting exact_sums (λ p. p.room) looked end
        (each-also _ (λ own left. all_fitting (exact_sums own) ≡ Ok left.room) (λ own left both. both.0) looked end made) in
        let long : length (room_of end) ≡ length (room_of start) =
        long-zipped (λ p. p.room) (λ p. p.room) looked end (each-also _ (λ own left. length left.room ≡ length own.room) (λ own left both. both.1) looked end made)
        ∙ ap (λ r. length (joined r)) (room_seen ∙ room_held ∙ room_told) in
        subst (λ m. RoomTold m done (room_of start) (room_of end)) (sym whole) (tells_done (room_of end) (room_of start) long)
