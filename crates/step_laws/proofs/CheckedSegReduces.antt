-- Checked reduces by segments by steps, where 64 bits hold the sum of as many integers as a vector has.
use Rattle.std.proofs.Common.{◌≡◌, ◌+ℤ◌, ◌<◌, ◌≤◌, ◌^◌, ◌+◌, ◌∙◌, ◌∷◌, ℕ, ℤ, pos, FitsSigned, List, [], length, map, take, nat_lt, Ok, refl, sym, ap, arith, All, subst, zip}
use Rattle.std.proofs.Common.{Result, Some, slice_get, ⊎_elim}
use Rattle.std.proofs.lemmas.Bool.{cases_lt}
use Rattle.std.proofs.lemmas.List.{map-id}
use Rattle.std.specs.Int.{w64}
use Rattle.std.specs.List.{AllPass, AllZip}
use Rattle.call_laws.proofs.Carries.{reduce-plain}
use Rattle.call_laws.specs.CheckedParts.{checked_seg_reduce_after}
use Rattle.call_laws.specs.OverRanks.{reduces_over_ranks}
use Rattle.cvl_base.specs.CheckedSums.{checked_seg_reduce_of, fitting}
use Rattle.cvl_base.specs.declared.fault.Fault.{Fault}
use Rattle.cvl_base.specs.declared.fault.FaultNo.TheVariants.{Overflow}
use Rattle.cvl_base.specs.Exact.{total_of}
use Rattle.cvl_base.specs.Gives.{◌>>=◌}
use Rattle.cvl_base.specs.ItemWords.{is_number}
use Rattle.cvl_base.specs.Limits.{most_places}
use Rattle.cvl_base.specs.Lists.{joined}
use Rattle.cvl_base.specs.SegmentedCalls.{seg_reduce_of}
use Rattle.long_sums.specs.LongSums.{long_sum_of}
use Rattle.part_calls.specs.Sums.{all_fitting}
use Rattle.scan_walks.proofs.Fitted.{all_fit, overflows}
use Rattle.scan_walks.proofs.WholeSums.{all_whole, whole_laws}
use Rattle.scan_walks.specs.Fronts.{fitting_front}
use Rattle.segment_parts.proofs.Starts.{length-start_reduces, part-fits}
use Rattle.segment_parts.specs.Behinds.{behind_each}
use Rattle.segment_parts.specs.CheckedSums.{checked_part_reduce_by, checked_part_reduces_of, long_behinds_of}
use Rattle.segment_parts.specs.Reduces.{start_reduces_of}
use Rattle.c_calls.specs.Calls.{by_segments, lengths_of}
use Rattle.c_calls.specs.Told.{RoomTold, done}
use Rattle.step_laws.specs.CheckedReduceSteps.{HeadTotals, LongGoesOn, LooksAtStarts, SumsStarts}
use Rattle.step_laws.specs.Looks.{Fails, Passes}
use Rattle.step_laws.specs.ReduceParts.{ArePartsOf, GoesOnAlone, HaveRooms, ReducePart, behinds_of, elements_of, room_of, segments_in, starts_of, told_of}
use Rattle.step_laws.proofs.Answered.{fills, is_done, is_given, past_limit, tells_done, within}
use Rattle.step_laws.proofs.BehindParts.{exact-behinds, itself, pair}
use Rattle.step_laws.proofs.ByElement.{made-elements}
use Rattle.step_laws.proofs.Fitting.{no-overflow}
use Rattle.step_laws.proofs.PartFaults.{HasFault, failed, of_part, whole-failed}
use Rattle.step_laws.proofs.Parted.{alike, each-also, each-where, keeps}
use Rattle.step_laws.proofs.SegReduced.{Fits, all-fit, few-elements, still-fits, zip-maps}
use Rattle.step_laws.proofs.SegmentLengths.{are_lengths, few-of}
use Rattle.step_laws.proofs.StartReduces.{each-reduces, head_of, ranks_of, read_in, reduces_in, whole-reduces}
use Rattle.step_laws.proofs.Valued.{joined-values, long-zipped}

abbrev Sums : Type 0
Sums = ReducePart ℤ ℤ

-- the sums of the segments that start in a part, over whole numbers
abbrev exact_sums : Sums → List ℤ
exact_sums p = start_reduces_of ◌+ℤ◌ (pos 0) p.behind p.head p.lengths p.elements

each-exact : (parts : List Sums) → map (reduces_in ◌+ℤ◌ (pos 0) itself) parts ≡ map exact_sums parts
each-exact [] = refl
each-exact (p ∷ parts) = (λ i. start_reduces_of ◌+ℤ◌ (pos 0) p.behind p.head p.lengths (map-id p.elements i) ∷ each-exact parts i)

-- ---- what a look says

-- a part's call, if the part fits
call-of : (p : Sums) → Fits p → checked_part_reduce_by p.behind p.head (map pos p.lengths) p.elements ≡ all_fitting (exact_sums p)
call-of p fit =
    let call : List ℕ → Result (List ℤ) Fault = λ segments. checked_part_reduces_of p.behind p.head segments p.elements in
    within p.elements (by_segments (map pos p.lengths) call) fit.few_elements
    ∙ ap (λ r. r >>= call) (are_lengths p.lengths fit.few_lengths fit.small)
    ∙ ap (λ r. r >>= all_fitting) (part-fits ◌+ℤ◌ (pos 0) p.behind p.head p.lengths p.elements fit.part)

-- the sums of a part fit
abbrev FitsIn : Sums → Type 0
FitsIn p = all_fitting (exact_sums p) ≡ Ok (exact_sums p)

looked_in : (p : Sums) → Fits p → Passes (checked_part_reduce_by p.behind p.head (map pos p.lengths) p.elements) → FitsIn p
looked_in p fit look =
    let zs = exact_sums p in let front = fitting_front zs in
    let some : RoomTold (all_fitting zs) look.0 [] [] = subst (λ m. RoomTold m look.0 [] []) (call-of p fit) look.1 in
    ⊎_elim
    (λ (lt : front < length zs). absurd (no-overflow (0 + front) look.0 (subst (λ m. RoomTold m look.0 [] []) (overflows 0 zs lt) some) look.2))
    (λ (ge : length zs ≤ front). all_fit 0 zs ge)
    (cases_lt front (length zs))

-- a part whose sums fit fills its room with them
summed_in : (own left : Sums) → SumsStarts own left → Fits own → FitsIn own → (all_fitting (exact_sums own) ≡ Ok left.room) × (length left.room ≡ length own.room)
summed_in own left does fit fits =
    let zs = exact_sums own in
    let long : length zs ≡ length own.room = length-start_reduces ◌+ℤ◌ (pos 0) own.behind own.head own.lengths own.elements ∙ sym fit.room in
    let now : left.room ≡ zs =
    is_done zs own.room left.room does.0.0 long (subst (λ m. RoomTold m does.0.0 own.room left.room) (call-of own fit ∙ fits) does.0.1) in
    (fits ∙ ap Ok (sym now), ap length now ∙ long)

-- ---- the whole

module _ (fits : (xs : List ℤ) → length xs ≤ 2 ^ 32 → AllPass is_number xs → FitsSigned w64 (total_of xs)) where
  -- what goes on behind each part, in 64 bits, is what goes on there in whole numbers
  known-exactly : (start told known : List Sums) → AllPass is_number (elements_of start) → length (elements_of start) ≤ most_places
      → AllZip HeadTotals start told → LongGoesOn told known → behinds_of known ≡ behind_each ◌+ℤ◌ (pos 0) (map pair start)
  known-exactly start told known numbers few first goes =
      let starts : starts_of told ≡ starts_of start =
      alike HeadTotals (λ p. nat_lt 0 (length p.lengths)) (λ p. nat_lt 0 (length p.lengths)) (λ own left does. ap (λ (p : Sums). nat_lt 0 (length p.lengths)) does.1) start told first in
      let tells : told_of told ≡ map (head_of ◌+ℤ◌ (pos 0) itself) start =
      alike HeadTotals (head_of ◌+ℤ◌ (pos 0) itself) (λ p. p.told)
      (λ own left does.
      sym (past_limit _ _ (total_of (take own.head own.elements)) left.told (is_given _ own.told left.told does.0)) ∙ sym (ap total_of (map-id (take own.head own.elements)))) start told first in
      let given = fills (long_behinds_of (starts_of told) (told_of told)) (behinds_of told) (behinds_of known) goes.0 in
      let pairs : zip (starts_of told) (told_of told) ≡ map pair start =
      (λ i. zip (starts i) (tells i)) ∙ zip-maps (λ (p : Sums). nat_lt 0 (length p.lengths)) (head_of ◌+ℤ◌ (pos 0) itself) start in
      sym (past_limit _ _ (behind_each long_sum_of (pos 0) (zip (starts_of told) (told_of told))) (behinds_of known) given.0)
      ∙ ap (behind_each long_sum_of (pos 0)) pairs ∙ exact-behinds fits start (omega (arith, few)) numbers

  module _ (calls : (xs : List ℤ) (lengths : List ℕ) → checked_seg_reduce_after (pos 0) xs lengths ≡ checked_seg_reduce_of xs lengths) where
    -- the call has the sums of all parts, if they fit
    whole-call : (lengths : List ℤ) (segments : List ℕ) (start told known : List Sums) → lengths_of lengths ≡ Ok segments → ArePartsOf segments start
        → AllPass is_number (elements_of start) → HaveRooms start → AllZip HeadTotals start told → LongGoesOn told known
        → by_segments lengths (checked_seg_reduce_of (elements_of start)) ≡ all_fitting (joined (map exact_sums known))
    whole-call lengths segments start told known is are numbers rooms first goes =
        let xs : List ℤ = elements_of start in
        let few = few-of lengths segments is in
        let behinds = known-exactly start told known numbers (few-elements segments start are rooms few.0 few.1) first goes in
        let pair_told : map pair told ≡ map pair start = alike HeadTotals pair pair (λ own left does. ap (λ (p : Sums). pair p) does.1) start told first in
        let pair_known : map pair known ≡ map pair told = alike GoesOnAlone pair pair (λ own left does. ap (λ (p : Sums). pair p) does) told known goes.1 in
        let lists = λ (p : Sums). segments_in p in
        let list_told : map lists told ≡ map lists start = alike HeadTotals lists lists (λ own left does. ap lists does.1) start told first in
        let list_known : map lists known ≡ map lists told = alike GoesOnAlone lists lists (λ own left does. ap lists does) told known goes.1 in
        let known_behinds : behinds_of known ≡ behind_each ◌+ℤ◌ (pos 0) (map pair known) = behinds ∙ ap (behind_each ◌+ℤ◌ (pos 0)) (sym (pair_known ∙ pair_told)) in
        let sums : reduces_over_ranks ◌+ℤ◌ (pos 0) (ranks_of itself start) ≡ joined (map exact_sums known) =
        ap (λ parts. reduces_over_ranks ◌+ℤ◌ (pos 0) (map (read_in itself) parts)) (sym (list_known ∙ list_told))
        ∙ each-reduces ◌+ℤ◌ (pos 0) itself known known_behinds ∙ ap joined (each-exact known) in
        ap (λ r. r >>= checked_seg_reduce_of xs) is ∙ sym (calls xs segments)
        ∙ ap (λ r. r >>= all_fitting)
        (reduce-plain ◌+ℤ◌ (pos 0) xs segments ∙ ap (λ ys. seg_reduce_of ◌+ℤ◌ (pos 0) ys segments) (sym (map-id xs))
        ∙ whole-reduces whole_laws itself segments start are (all_whole (map itself xs)))
        ∙ ap all_fitting sums

    parts-fit : (lengths : List ℤ) (segments : List ℕ) (start told known : List Sums) → lengths_of lengths ≡ Ok segments → ArePartsOf segments start → HaveRooms start
        → AllZip HeadTotals start told → LongGoesOn told known → All Fits known
    parts-fit lengths segments start told known is are rooms first goes =
        let few = few-of lengths segments is in
        let fit : All Fits start = all-fit segments start are rooms few.0 few.1 in
        let then_fit : All Fits told = keeps HeadTotals Fits Fits (λ own left does f. subst Fits (sym does.1) (still-fits own left.told own.behind f)) start told first fit in
        keeps GoesOnAlone Fits Fits (λ own left does f. subst Fits (sym does) (still-fits own own.told left.behind f)) told known goes.1 then_fit

    -- a part that finds a sum that does not fit finds a fault of the whole
    pub look-fails : (lengths : List ℤ) (segments : List ℕ) (start told known : List Sums) → lengths_of lengths ≡ Ok segments → ArePartsOf segments start
        → AllPass is_number (elements_of start) → HaveRooms start → AllZip HeadTotals start told → LongGoesOn told known → (k : ℕ) (own : Sums) → slice_get known k ≡ Some own
        → Fails (checked_part_reduce_by own.behind own.head (map pos own.lengths) own.elements) → HasFault (by_segments lengths (checked_seg_reduce_of (elements_of start)))
    look-fails lengths segments start told known is are numbers rooms first goes k own here fails =
        let fit_own = of_part known k own here Fits (parts-fit lengths segments start told known is are rooms first goes) in
        let fails_whole : HasFault (all_fitting (joined (map exact_sums known))) =
        whole-failed (all_fitting (joined (map exact_sums known))) (λ p. all_fitting (exact_sums p)) known k own (made-elements Overflow fitting exact_sums known) here
        (λ ys is_own. failed _ fails ys (call-of own fit_own ∙ is_own)) in
        (fails_whole.0, whole-call lengths segments start told known is are numbers rooms first goes ∙ fails_whole.1)

    pub checked_reduces : (lengths : List ℤ) (segments : List ℕ) (start told known looked end : List Sums) → lengths_of lengths ≡ Ok segments
        → ArePartsOf segments start → AllPass is_number (elements_of start) → HaveRooms start
        → AllZip HeadTotals start told → LongGoesOn told known → AllZip LooksAtStarts known looked → AllZip SumsStarts looked end
        → RoomTold (by_segments lengths (checked_seg_reduce_of (elements_of start))) done (room_of start) (room_of end)
    checked_reduces lengths segments start told known looked end is are numbers rooms first goes looks last =
        let xs : List ℤ = elements_of start in
        let room_told : map (λ p. p.room) told ≡ map (λ p. p.room) start = alike HeadTotals (λ p. p.room) (λ p. p.room) (λ own left does. ap (λ (p : Sums). p.room) does.1) start told first in
        let room_known : map (λ p. p.room) known ≡ map (λ p. p.room) told = alike GoesOnAlone (λ p. p.room) (λ p. p.room) (λ own left does. ap (λ (p : Sums). p.room) does) told known goes.1 in
        let room_seen : map (λ p. p.room) looked ≡ map (λ p. p.room) known = alike LooksAtStarts (λ p. p.room) (λ p. p.room) (λ own left does. ap (λ (p : Sums). p.room) does.1) known looked looks in
        let found : All (λ p. Fits p × FitsIn p) looked =
        keeps LooksAtStarts Fits (λ p. Fits p × FitsIn p) (λ own left does f. subst (λ (p : Sums). Fits p × FitsIn p) (sym does.1) (f, looked_in own f does.0)) known looked looks
        (parts-fit lengths segments start told known is are rooms first goes) in
        let made : AllZip (λ own left. (all_fitting (exact_sums own) ≡ Ok left.room) × (length left.room ≡ length own.room)) looked end =
        each-where SumsStarts (λ own left. (all_fitting (exact_sums own) ≡ Ok left.room) × (length left.room ≡ length own.room))
        (λ p. Fits p × FitsIn p) (λ own left does holds. summed_in own left does holds.0 holds.1) looked end last found in
        let sums : joined (map exact_sums looked) ≡ joined (map exact_sums known) =
        ap joined (alike LooksAtStarts exact_sums exact_sums (λ own left does. ap exact_sums does.1) known looked looks) in
        let whole : by_segments lengths (checked_seg_reduce_of xs) ≡ Ok (room_of end) =
        whole-call lengths segments start told known is are numbers rooms first goes ∙ ap all_fitting (sym sums)
        ∙ joined-values Overflow fitting exact_sums (λ p. p.room) looked end
        (each-also _ (λ own left. all_fitting (exact_sums own) ≡ Ok left.room) (λ own left both. both.0) looked end made) in
        let long : length (room_of end) ≡ length (room_of start) =
        long-zipped (λ p. p.room) (λ p. p.room) looked end (each-also _ (λ own left. length left.room ≡ length own.room) (λ own left both. both.1) looked end made)
        ∙ ap (λ r. length (joined r)) (room_seen ∙ room_known ∙ room_told) in
        subst (λ m. RoomTold m done (room_of start) (room_of end)) (sym whole) (tells_done (room_of end) (room_of start) long)
