-- Scans by segments by steps, of an operator that is known or not, for integers and booleans alike.
use Rattle.std.proofs.Common.{◌≡◌, ◌++◌, ◌+◌, ◌≤◌, ◌∙◌, ℕ, ℤ, pos, Bool, true, false, List, [], ◌∷◌, length, map, drop, sum, Result, Ok, Err}
use Rattle.std.proofs.Common.{refl, sym, ap, arith, subst, All, get_or, length-append}
use mathlib.Core.List.{map-map}
use Rattle.std.proofs.lemmas.List.{length-map}
use Rattle.std.proofs.lemmas.List.Elements.{All-cons, All-head, All-nil, All-tail}
use Rattle.std.proofs.lemmas.Option.{none-some, same_Some}
use Rattle.std.specs.List.{AllPass, AllZip}
use Rattle.std.specs.Result.{result_ok}
use Rattle.call_laws.proofs.OverRanks.{joined-together, seg_scan-over_ranks}
use Rattle.call_laws.specs.OverRanks.{scans_over_ranks, together}
use Rattle.cvl_base.proofs.Elementwise.{if_as_long-fits}
use Rattle.cvl_base.proofs.Nests.{joined-cut, length-cut, lengths-cut}
use Rattle.cvl_base.specs.declared.fault.Fault.{Fault}
use Rattle.cvl_base.specs.Gives.{◌>>=◌}
use Rattle.cvl_base.specs.Limits.{most_places}
use Rattle.cvl_base.specs.Lists.{joined}
use Rattle.cvl_base.specs.Monoid.{MonoidLaws}
use Rattle.cvl_base.specs.Nests.{cut_of}
use Rattle.cvl_base.specs.SegmentedCalls.{seg_scan_of}
use Rattle.segment_parts.proofs.Scanned.{length-scans_in_part, part-fits}
use Rattle.segment_parts.specs.Carries.{before_each, seg_carries_of}
use Rattle.segment_parts.specs.Parts.{part_scan_of}
use Rattle.c_calls.specs.Calls.{by_operator, by_segments, in_limit, lengths_of}
use Rattle.c_calls.specs.Told.{RoomTold, done}
use Rattle.c_calls.specs.declared.status.CvlStatus.{CvlStatus}
use Rattle.step_laws.specs.Pieces.{AreCut, IsPiece, Piece, if_some, segments_in, tail_of}
use Rattle.step_laws.specs.SegmentSteps.{CarriesAlone, FillsAlone, HaveRooms, SegPart, TellsAlone, befores_of, elements_of, pieces_of, room_of, starts_of, told_of}
use Rattle.step_laws.proofs.Answered.{fills, is_done, tells_done, within}
use Rattle.step_laws.proofs.Parted.{alike, alike_where, all-parts, as-long, keeps, some-fewer}
use Rattle.step_laws.proofs.PieceScans.{all_scans, befores, carries-cut, scans-cut, scans_in, tells}
use Rattle.step_laws.proofs.SegmentLengths.{are_lengths, few-of, nested}
use Rattle.step_laws.proofs.RunsCounted.{length-followed}

-- ---- how many segments pieces have

module _ {X : Type 0} where
  -- no piece has more whole segments than all have together
  fewer_lengths : (most : ℕ) (ps : List (Piece X)) → length (together (map segments_in ps)).1 ≤ most → All (λ p. length p.lengths ≤ most) ps
  fewer_lengths most [] all = All-nil (λ p. length p.lengths ≤ most)
  fewer_lengths most (p ∷ ps) all =
      let segments = segments_in p in let behind = together (map segments_in ps) in
      let whole = cut_of p.lengths (drop p.head p.elements) in
      let count = length-followed segments.0 segments.1 behind in
      let own : length segments.1 ≡ length whole + length (if_some (tail_of p)) = length-append whole (if_some (tail_of p)) in
      All-cons (λ q. length q.lengths ≤ most) p ps (omega (arith, own, length-cut p.lengths (drop p.head p.elements), count, all)) (fewer_lengths most ps (omega (arith, count, all)))

-- what holds of all values of a function holds of the function at all
at-each : {A B : Type 0} (f : A → B) (P : B → Type 0) (xs : List A) → All P (map f xs) → All (λ x. P (f x)) xs
at-each f P [] all = All-nil (λ x. P (f x))
at-each f P (x ∷ xs) all = All-cons (λ y. P (f y)) x xs (All-head P (f x) (map f xs) all) (at-each f P xs (All-tail P (f x) (map f xs) all))

-- ---- the scan of the whole

module _ {Item : Type 0} (join : Item → Item → Item) (unit : Item) (segments : List ℕ) (ps : List (Piece Item)) (cut : AreCut segments ps) where
  pub whole-scan : seg_scan_of join unit (joined (map (λ p. p.elements) ps)) segments ≡ Ok (scans_over_ranks join unit unit (map segments_in ps))
  whole-scan =
      let parts = map segments_in ps in let xs = joined (map (λ p. p.elements) ps) in
      let lists = cut.whole.0 in let nests = nested segments xs lists cut.whole.1 in
      let none : (together parts).0 ≡ [] = ap (λ t. t.0) cut.whole.2 in
      let are : (together parts).1 ≡ lists = ap (λ t. t.1) cut.whole.2 in
      let elements = sym (joined-together parts) ∙ (λ i. none i ++ joined (are i)) ∙ ap joined nests.1 ∙ joined-cut segments xs nests.0 in
      let lengths : map length (together parts).1 ≡ segments = ap (map length) (are ∙ nests.1) ∙ lengths-cut segments xs (omega (arith, nests.0)) in
      sym (λ i. seg_scan_of join unit (elements i) (lengths i)) ∙ seg_scan-over_ranks join unit parts none

-- ---- the steps

-- a piece has a room for its elements, of which there are not too many, and enough for its lengths
pub record HasRoom {Item : Type 0} (piece : Piece Item) (own_room : List Item) : Type 0 where
  pub room : length own_room ≡ length piece.elements
  pub few_elements : length piece.elements ≤ most_places
  pub enough : piece.head + sum piece.lengths ≤ length piece.elements
  pub few_lengths : length piece.lengths ≤ most_places

abbrev pub Fits : {Item : Type 0} → SegPart Item → Type 0
Fits p = HasRoom p.piece p.room

module _ {Operator Item : Type 0} {is_item : Item → Bool} (unit : Operator → Item) (join : Operator → Item → Item → Item)
    (laws : (o : Operator) → MonoidLaws is_item (unit o) (join o)) where
  -- the calls, by an operator or the fault that there is none
  abbrev seg_scan : Result Operator Fault → List Item → List ℤ → Result (List Item) Fault
  seg_scan operator xs lengths = by_operator operator (λ o. by_segments lengths (seg_scan_of (join o) (unit o) xs))

  abbrev carries : Result Operator Fault → List Bool → List Item → Result (List Item) Fault
  carries operator starts told = by_operator operator (λ o. seg_carries_of (join o) (unit o) starts told)

  abbrev pub part_scan : Result Operator Fault → Item → ℕ → List ℤ → List Item → Result (List Item) Fault
  part_scan operator before head lengths xs =
      by_operator operator (λ o. in_limit xs (by_segments lengths (λ segments. part_scan_of (join o) (unit o) before head segments xs)))

  abbrev Scans : Result Operator Fault → SegPart Item → SegPart Item → Type 0
  Scans operator own left =
      ((status : CvlStatus) × RoomTold (part_scan operator own.before own.piece.head (map pos own.piece.lengths) own.piece.elements) status own.room left.room)
      × FillsAlone own left

  -- what a part tells is the reduce of its elements since the last start
  abbrev pub Sums : Operator → SegPart Item → SegPart Item → Type 0
  Sums o own left = (tells (join o) (unit o) own.piece ≡ left.told) × TellsAlone own left

  -- the scan that a part writes
  abbrev scans_own : Operator → SegPart Item → List Item
  scans_own o p = scans_in (join o) (unit o) p.before p.piece

  pub length-own : (o : Operator) (p : SegPart Item) → Fits p → length (scans_own o p) ≡ length p.room
  length-own o p fit = length-scans_in_part (join o) (unit o) p.before p.piece.head p.piece.lengths p.piece.elements fit.enough ∙ sym fit.room

  pub writes-own : (o : Operator) (own left : SegPart Item) → Scans (Ok o) own left → Fits own → left.room ≡ scans_own o own
  writes-own o own left does fit =
      let p = own.piece in
      let small : sum p.lengths ≤ most_places = omega (arith, fit.enough, fit.few_elements) in
      let call : List ℕ → Result (List Item) Fault = λ segments. part_scan_of (join o) (unit o) own.before p.head segments p.elements in
      let gives : part_scan (Ok o) own.before p.head (map pos p.lengths) p.elements ≡ Ok (scans_own o own) =
      within p.elements (by_segments (map pos p.lengths) call) fit.few_elements
      ∙ ap (λ r. r >>= call) (are_lengths p.lengths fit.few_lengths small)
      ∙ part-fits (join o) (unit o) own.before p.head p.lengths p.elements fit.enough in
      is_done (scans_own o own) own.room left.room does.0.0 (length-own o own fit) (subst (λ m. RoomTold m does.0.0 own.room left.room) gives does.0.1)

  after-each : (o : Operator) (parts : List (SegPart Item))
      → joined (map (scans_own o) parts) ≡ all_scans (laws o) (befores_of parts) (pieces_of parts)
  after-each o [] = refl
  after-each o (p ∷ parts) = ap (λ rest. scans_own o p ++ rest) (after-each o parts)

  pub all-fit : (segments : List ℕ) (parts : List (SegPart Item)) → length segments ≤ most_places → sum segments ≤ most_places → AreCut segments (pieces_of parts) → HaveRooms parts
      → All Fits parts
  all-fit segments parts short small cut rooms =
      let pieces = pieces_of parts in
      let nests = nested segments (elements_of parts) cut.whole.0 cut.whole.1 in
      let lists : length (together (map segments_in pieces)).1 ≡ length segments =
      ap (λ t. length t.1) cut.whole.2 ∙ ap length nests.1 ∙ length-cut segments (elements_of parts) in
      let own = at-each (λ p. p.piece) IsPiece parts cut.each in
      let lengths = at-each (λ p. p.piece) (λ p. length p.lengths ≤ most_places) parts (fewer_lengths most_places pieces (omega (arith, lists, short))) in
      let elements = at-each (λ p. p.piece) (λ p. length p.elements ≤ most_places) parts (some-fewer (λ p. p.elements) most_places pieces (omega (arith, nests.0, small))) in
      λ k d below. record { room = rooms k d below; few_elements = elements k d below; enough = (own k d below).fits; few_lengths = lengths k d below }

  pub seg_scans : (operator : Result Operator Fault) (lengths : List ℤ) (segments : List ℕ) (start summed carried end : List (SegPart Item)) → lengths_of lengths ≡ Ok segments
      → AreCut segments (pieces_of start) → AllPass is_item (elements_of start) → HaveRooms start
      → ((o : Operator) → operator ≡ Ok o → AllZip (Sums o) start summed)
      → RoomTold (carries operator (starts_of summed) (told_of summed)) done (befores_of summed) (befores_of carried) → AllZip CarriesAlone summed carried
      → AllZip (Scans operator) carried end → RoomTold (seg_scan operator (elements_of start) lengths) done (room_of start) (room_of end)
  seg_scans (Err f) lengths segments start summed carried end are cut items rooms all told kept scanned =
      let given = fills (Err f) (befores_of summed) (befores_of carried) told in absurd (none-some (befores_of carried) (ap result_ok given.0))
  seg_scans (Ok o) lengths segments start summed carried end are cut items rooms all told kept scanned =
      let reduced : AllZip (Sums o) start summed = all o refl in
      let pieces = pieces_of start in
      let same : pieces_of summed ≡ pieces =
      alike (Sums o) (λ p. p.piece) (λ p. p.piece) (λ own left does. ap (λ (p : SegPart Item). p.piece) does.1) start summed reduced in
      let still : pieces_of carried ≡ pieces_of summed =
      alike CarriesAlone (λ p. p.piece) (λ p. p.piece) (λ own left does. ap (λ (p : SegPart Item). p.piece) does) summed carried kept in
      let sums : told_of summed ≡ map (tells (join o) (unit o)) pieces =
      alike (Sums o) (λ p. tells (join o) (unit o) p.piece) (λ p. p.told) (λ own left does. sym does.0) start summed reduced
      ∙ sym (map-map (tells (join o) (unit o)) (λ (p : SegPart Item). p.piece) start) in
      let starts : starts_of summed ≡ map (λ p. p.starts) pieces =
      sym (map-map (λ (p : Piece Item). p.starts) (λ (p : SegPart Item). p.piece) summed) ∙ ap (map (λ p. p.starts)) same in
      let given = fills _ (befores_of summed) (befores_of carried) told in
      let as_many : length (starts_of summed) ≡ length (told_of summed) =
      length-map summed (λ (p : SegPart Item). p.piece.starts) ∙ sym (length-map summed (λ (p : SegPart Item). p.told)) in
      let carry : before_each (join o) (unit o) (starts_of summed) (told_of summed) ≡ befores_of carried =
      same_Some _ (befores_of carried) (ap result_ok (sym (if_as_long-fits (starts_of summed) (told_of summed) _ as_many) ∙ given.0)) in
      let befores_are : befores_of carried ≡ befores (laws o) false (unit o) pieces =
      sym carry ∙ (λ i. before_each (join o) (unit o) (starts i) (sums i)) ∙ carries-cut (laws o) pieces in
      let limits = few-of lengths segments are in
      let at_first : All Fits start = all-fit segments start limits.0 limits.1 cut rooms in
      let then : All Fits summed = keeps (Sums o) Fits Fits (λ own left does fit. subst Fits (sym does.1) fit) start summed reduced at_first in
      let last : All Fits carried = keeps CarriesAlone Fits Fits (λ own left does fit. subst Fits (sym does) fit) summed carried kept then in
      let written : map (λ p. p.room) end ≡ map (scans_own o) carried = alike_where (Scans (Ok o)) Fits (scans_own o) (λ p. p.room) (writes-own o) carried end scanned last in
      let parts_items = all-parts (λ (p : Piece Item). p.elements) (λ x. is_item x ≡ true) pieces items in
      let scans = scans_over_ranks (join o) (unit o) (unit o) (map segments_in pieces) in
      let whole : room_of end ≡ scans =
      ap joined written ∙ after-each o carried ∙ (λ i. all_scans (laws o) (befores_are i) ((still ∙ same) i)) ∙ scans-cut (laws o) pieces cut.each cut.next parts_items in
      let same_room : map (λ p. p.room) carried ≡ map (λ p. p.room) start =
      alike CarriesAlone (λ p. p.room) (λ p. p.room) (λ own left does. ap (λ (p : SegPart Item). p.room) does) summed carried kept
      ∙ alike (Sums o) (λ p. p.room) (λ p. p.room) (λ own left does. ap (λ (p : SegPart Item). p.room) does.1) start summed reduced in
      let long : length scans ≡ length (room_of start) =
      ap length (sym whole ∙ ap joined written)
      ∙ as-long (λ (p : SegPart Item). p.room) (scans_own o) carried (λ k d below. length-own o (get_or carried k d) (last k d below)) ∙ ap (λ rs. length (joined rs)) same_room in
      let gives : seg_scan (Ok o) (elements_of start) lengths ≡ Ok scans =
      ap (λ r. r >>= seg_scan_of (join o) (unit o) (elements_of start)) are ∙ whole-scan (join o) (unit o) segments pieces cut in
      subst (λ m. RoomTold m done (room_of start) (room_of end)) (sym gives)
      (subst (λ xs. RoomTold (Ok scans) done (room_of start) xs) (sym whole) (tells_done scans (room_of start) long))
