-- Scans and reduces by steps, of an operator that is known or not, for integers and booleans alike.
use Rattle.std.proofs.Common.{◌≡◌, ◌≤◌, ◌∙◌, Bool, List, [], ◌∷◌, length, map, Result, Ok, Err, refl, sym, ap, All, subst, true}
use Rattle.std.proofs.lemmas.Option.{none-some}
use mathlib.Core.List.{map-map}
use Rattle.std.specs.List.{AllPass, AllZip}
use Rattle.std.specs.Result.{result_ok}
use Rattle.cvl_base.specs.declared.fault.Fault.{Fault}
use Rattle.cvl_base.specs.Folds.{fold_of, scan_of}
use Rattle.cvl_base.specs.Limits.{most_places}
use Rattle.cvl_base.specs.Lists.{joined}
use Rattle.cvl_base.specs.Monoid.{MonoidLaws}
use Rattle.operators.proofs.FoldLaws.{length-scan_of}
use Rattle.c_calls.specs.Calls.{by_operator, in_limit}
use Rattle.c_calls.specs.Told.{RoomTold, Told, done}
use Rattle.c_calls.specs.declared.status.CvlStatus.{CvlStatus}
use Rattle.step_laws.specs.Parts.{CarriesAlone, FillsAlone, HaveRooms, Part, TellsAlone, befores_of, elements_of, room_of, told_of}
use Rattle.step_laws.proofs.Answered.{fills, is_done, is_given, past_limit, tells_done, within}
use Rattle.call_laws.proofs.InParts.{fold-parts, scan-parts}
use Rattle.call_laws.specs.InParts.{scans_after}
use Rattle.step_laws.proofs.Parted.{alike, alike_where, all-parts, as-long, keeps, some-fewer}

module _ {Operator Item : Type 0} {is_item : Item → Bool} (unit : Operator → Item) (join : Operator → Item → Item → Item)
    (laws : (o : Operator) → MonoidLaws is_item (unit o) (join o)) where
  -- the calls, by an operator or the fault that there is none
  abbrev reduce : Result Operator Fault → List Item → Result Item Fault
  reduce operator xs = by_operator operator (λ o. in_limit xs (Ok (fold_of (join o) (unit o) xs)))

  abbrev scan : Result Operator Fault → List Item → Result (List Item) Fault
  scan operator xs = by_operator operator (λ o. in_limit xs (Ok (scan_of (join o) (unit o) xs)))

  abbrev scan_from : Result Operator Fault → Item → List Item → Result (List Item) Fault
  scan_from operator before xs = by_operator operator (λ o. in_limit xs (Ok (scan_of (join o) before xs)))

  abbrev Scans : Result Operator Fault → Part Item Item Item → Part Item Item Item → Type 0
  Scans operator own left =
      ((status : CvlStatus) × RoomTold (scan_from operator own.before own.elements) status own.room left.room) × FillsAlone own left

  -- what a part tells is the reduce of its elements
  abbrev Sums : Operator → Part Item Item Item → Part Item Item Item → Type 0
  Sums o own left = (fold_of (join o) (unit o) own.elements ≡ left.told) × TellsAlone own left

  -- a part has room for its elements, of which there are not too many
  abbrev Fits : Part Item Item Item → Type 0
  Fits p = (length p.room ≡ length p.elements) × (length p.elements ≤ most_places)

  -- what an export that is done tells of a part is the reduce of its elements, where the operator is known
  pub told-sum : (operator : Result Operator Fault) (o : Operator) → operator ≡ Ok o → (xs : List Item) (before now : Item)
      → Told (reduce operator xs) done before now → fold_of (join o) (unit o) xs ≡ now
  told-sum operator o is xs before now told =
      let known : Told (reduce (Ok o) xs) done before now = subst (λ r. Told (reduce r xs) done before now) is told in
      past_limit _ _ (fold_of (join o) (unit o) xs) now (is_given _ before now known)

  after-each : (o : Operator) (parts : List (Part Item Item Item))
      → map (λ p. scan_of (join o) p.before p.elements) parts ≡ scans_after (join o) (map (λ p. p.before) parts) (map (λ p. p.elements) parts)
  after-each o [] = refl
  after-each o (p ∷ parts) = ap (λ rest. scan_of (join o) p.before p.elements ∷ rest) (after-each o parts)

  fits : (parts : List (Part Item Item Item)) → HaveRooms parts → All (λ p. length p.elements ≤ most_places) parts → All Fits parts
  fits parts rooms few = λ k d within. (rooms k d within, few k d within)

  pub scans : (operator : Result Operator Fault) (start summed carried end : List (Part Item Item Item))
      → AllPass is_item (elements_of start) → length (elements_of start) ≤ most_places → HaveRooms start
      → ((o : Operator) → operator ≡ Ok o → AllZip (Sums o) start summed)
      → RoomTold (scan operator (told_of summed)) done (befores_of summed) (befores_of carried) → AllZip CarriesAlone summed carried
      → AllZip (Scans operator) carried end → RoomTold (scan operator (elements_of start)) done (room_of start) (room_of end)
  scans (Err f) start summed carried end items few rooms all told kept scanned =
      let given = fills (Err f) (befores_of summed) (befores_of carried) told in absurd (none-some (befores_of carried) (ap result_ok given.0))
  scans (Ok o) start summed carried end items few rooms all told kept scanned =
      let reduced : AllZip (Sums o) start summed = all o refl in
      let sums : told_of summed ≡ map (λ p. fold_of (join o) (unit o) p.elements) start =
      alike (Sums o) (λ p. fold_of (join o) (unit o) p.elements) (λ p. p.told) (λ own left does. sym does.0) start summed reduced in
      let same : map (λ p. p.elements) summed ≡ map (λ p. p.elements) start =
      alike (Sums o) (λ p. p.elements) (λ p. p.elements) (λ own left does. ap (λ (p : Part Item Item Item). p.elements) does.1) start summed reduced in
      let still : map (λ p. p.elements) carried ≡ map (λ p. p.elements) summed =
      alike CarriesAlone (λ p. p.elements) (λ p. p.elements) (λ own left does. ap (λ (p : Part Item Item Item). p.elements) does) summed carried kept in
      let given = fills _ (befores_of summed) (befores_of carried) told in
      let befores : scan_of (join o) (unit o) (told_of summed) ≡ befores_of carried =
      past_limit _ _ (scan_of (join o) (unit o) (told_of summed)) (befores_of carried) given.0 in
      let at_first : All Fits start = fits start rooms (some-fewer (λ p. p.elements) most_places start few) in
      let then : All Fits summed = keeps (Sums o) Fits Fits (λ own left does fit. subst Fits (sym does.1) fit) start summed reduced at_first in
      let last : All Fits carried = keeps CarriesAlone Fits Fits (λ own left does fit. subst Fits (sym does) fit) summed carried kept then in
      let written : map (λ p. p.room) end ≡ map (λ p. scan_of (join o) p.before p.elements) carried =
      alike_where (Scans (Ok o)) Fits (λ p. scan_of (join o) p.before p.elements) (λ p. p.room)
      (λ own left does fit. is_done (scan_of (join o) own.before own.elements) own.room left.room does.0.0
      (length-scan_of (join o) own.before own.elements ∙ sym fit.0)
      (subst (λ m. RoomTold m does.0.0 own.room left.room) (within own.elements (Ok (scan_of (join o) own.before own.elements)) fit.1) does.0.1))
      carried end scanned last in
      let folds : map (λ p. fold_of (join o) (unit o) p.elements) start ≡ map (fold_of (join o) (unit o)) (map (λ p. p.elements) start) =
      sym (map-map (fold_of (join o) (unit o)) (λ (p : Part Item Item Item). p.elements) start) in
      let started : befores_of carried ≡ scan_of (join o) (unit o) (map (fold_of (join o) (unit o)) (map (λ p. p.elements) start)) =
      sym befores ∙ ap (scan_of (join o) (unit o)) (sums ∙ folds) in
      let parts : List (List Item) = map (λ p. p.elements) start in
      let whole : room_of end ≡ scan_of (join o) (unit o) (elements_of start) =
      ap joined (written ∙ after-each o carried
      ∙ ap (λ bs. scans_after (join o) bs (map (λ p. p.elements) carried)) started
      ∙ ap (scans_after (join o) (scan_of (join o) (unit o) (map (fold_of (join o) (unit o)) parts))) (still ∙ same))
      ∙ sym (scan-parts (laws o) (unit o) parts (laws o).unit_is_item (all-parts (λ p. p.elements) (λ x. is_item x ≡ true) start items)) in
      let long : length (scan_of (join o) (unit o) (elements_of start)) ≡ length (room_of start) =
      length-scan_of (join o) (unit o) (elements_of start) ∙ sym (as-long (λ p. p.elements) (λ p. p.room) start rooms) in
      subst (λ m. RoomTold m done (room_of start) (room_of end)) (sym (within (elements_of start) (Ok (scan_of (join o) (unit o) (elements_of start))) few))
      (subst (λ xs. RoomTold (Ok (scan_of (join o) (unit o) (elements_of start))) done (room_of start) xs) (sym whole)
      (tells_done (scan_of (join o) (unit o) (elements_of start)) (room_of start) long))

  pub reduces : (operator : Result Operator Fault) (start summed : List (Part Item Item Item)) (out told : Item)
      → AllPass is_item (elements_of start) → length (elements_of start) ≤ most_places
      → ((o : Operator) → operator ≡ Ok o → AllZip (Sums o) start summed) → Told (reduce operator (told_of summed)) done out told
      → Told (reduce operator (elements_of start)) done out told
  reduces (Err f) start summed out told items few all joins = absurd (none-some told (ap result_ok (is_given (Err f) out told joins)))
  reduces (Ok o) start summed out told items few all joins =
      let sums : told_of summed ≡ map (λ p. fold_of (join o) (unit o) p.elements) start =
      alike (Sums o) (λ p. fold_of (join o) (unit o) p.elements) (λ p. p.told) (λ own left does. sym does.0) start summed (all o refl) in
      let given : fold_of (join o) (unit o) (told_of summed) ≡ told = past_limit _ _ _ told (is_given _ out told joins) in
      let parts : List (List Item) = map (λ p. p.elements) start in
      let folds = sums ∙ sym (map-map (fold_of (join o) (unit o)) (λ (p : Part Item Item Item). p.elements) start) in
      let whole : fold_of (join o) (unit o) (elements_of start) ≡ told =
      fold-parts (laws o) (unit o) parts (laws o).unit_is_item (all-parts (λ p. p.elements) (λ x. is_item x ≡ true) start items)
      ∙ ap (fold_of (join o) (unit o)) (sym folds) ∙ given in
      subst (λ m. Told m done out told) (sym (within (elements_of start) (Ok (fold_of (join o) (unit o) (elements_of start))) few)) (refl, sym whole)
