-- Reduces by segments by steps, of an operator that is known or not, for integers, booleans and counts alike.
use Rattle.std.proofs.Common.{◌≡◌, ◌≤◌, ◌∙◌, ℕ, ℤ, pos, Bool, true, IsTrue, List, [], ◌∷◌, length, map, sum, nat_lt, Result, Ok, Err, refl, sym, ap, arith, All, subst, zip}
use Rattle.std.proofs.lemmas.List.{length-map}
use Rattle.std.proofs.lemmas.Option.{none-some, same_Some}
use Rattle.std.specs.List.{AllPass, AllZip}
use Rattle.std.specs.Result.{result_ok}
use Rattle.call_laws.specs.OverRanks.{reduces_over_ranks}
use Rattle.cvl_base.specs.declared.fault.Fault.{Fault}
use Rattle.cvl_base.specs.Gives.{◌>>=◌}
use Rattle.cvl_base.specs.Limits.{most_places}
use Rattle.cvl_base.specs.Lists.{joined}
use Rattle.cvl_base.specs.Monoid.{MonoidLaws}
use Rattle.cvl_base.specs.SegmentedCalls.{seg_reduce_of}
use Rattle.range_walks.specs.Ranges.{reduces_of}
use Rattle.scan_walks.proofs.Segmented.{length-reduces_of, seg_reduce-fits}
use Rattle.segment_parts.proofs.Starts.{length-start_reduces, part-fits}
use Rattle.segment_parts.specs.Behinds.{behind_each, seg_behinds_of}
use Rattle.segment_parts.specs.Reduces.{is_part, part_reduces_of}
use Rattle.c_calls.specs.Calls.{by_operator, by_segments, in_limit, lengths_of}
use Rattle.c_calls.specs.Told.{RoomTold, done}
use Rattle.c_calls.specs.declared.status.CvlStatus.{CvlStatus}
use Rattle.step_laws.specs.ReduceParts.{ArePartsOf, FillsAlone, GoesOnAlone, HaveRooms, ReducePart, TellsAlone, behinds_of, elements_of, room_of, segments_in, starts_of, told_of}
use Rattle.step_laws.proofs.Answered.{fills, is_done, past_limit, tells_done, within}
use Rattle.step_laws.proofs.Parted.{alike, alike_where, as-long, keeps, some-fewer}
use Rattle.step_laws.proofs.SegmentLengths.{are_lengths, few-of, nested, some-less}
use Rattle.step_laws.proofs.StartReduces.{each-reduces, head_of, pair_of, ranks_of, read_in, reduces_in, whole-reduces}

pub zip-maps : {A X Y : Type 0} (f : A → X) (g : A → Y) (xs : List A) → zip (map f xs) (map g xs) ≡ map (λ x. (f x, g x)) xs
zip-maps f g [] = refl
zip-maps f g (x ∷ xs) = ap (λ ps. (f x, g x) ∷ ps) (zip-maps f g xs)

-- a part has as many elements as its lengths say, and a room for its reduces, of which there are not too many
pub record Fits {X Y : Type 0} (p : ReducePart X Y) : Type 0 where
  pub part : IsTrue (is_part p.head p.lengths (length p.elements))
  pub room : length p.room ≡ length p.lengths
  pub few_elements : length p.elements ≤ most_places
  pub few_lengths : length p.lengths ≤ most_places
  pub small : sum p.lengths ≤ most_places

-- what is told of a part and what goes on behind it do not matter
pub still-fits : {X Y : Type 0} (p : ReducePart X Y) (told behind : Y) → Fits p → Fits (record p { told = told; behind = behind })
still-fits p told behind fits = record {
  part = fits.part;
  room = fits.room;
  few_elements = fits.few_elements;
  few_lengths = fits.few_lengths;
  small = fits.small;
}

module _ {X Y : Type 0} (segments : List ℕ) (parts : List (ReducePart X Y)) (are : ArePartsOf segments parts) (rooms : HaveRooms parts)
    (few : length segments ≤ most_places) (small : sum segments ≤ most_places) where
  pub few-elements : length (elements_of parts) ≤ most_places
  few-elements = omega (arith, (nested segments (elements_of parts) are.whole.0 are.whole.1).0, small)

  pub all-fit : All Fits parts
  all-fit =
      let fewer = some-fewer (λ p. p.elements) most_places parts few-elements in
      let shorter = some-fewer (λ p. p.lengths) most_places parts (subst (λ ns. length ns ≤ most_places) are.in_order few) in
      let less = some-less (λ p. p.lengths) most_places parts (subst (λ ns. sum ns ≤ most_places) are.in_order small) in
      λ k d within. record {
        part = are.each k d within;
        room = rooms k d within;
        few_elements = fewer k d within;
        few_lengths = shorter k d within;
        small = less k d within;
      }

module _ {Operator X Item : Type 0} {is_item : Item → Bool} (unit : Operator → Item) (join : Operator → Item → Item → Item)
    (laws : (o : Operator) → MonoidLaws is_item (unit o) (join o)) (read : X → Item) where
  -- the calls, by an operator or the fault that there is none
  abbrev pub seg_reduce : Result Operator Fault → List Item → List ℤ → Result (List Item) Fault
  seg_reduce operator xs lengths = by_operator operator (λ o. by_segments lengths (seg_reduce_of (join o) (unit o) xs))

  abbrev pub behinds : Result Operator Fault → List Bool → List Item → Result (List Item) Fault
  behinds operator starts told = by_operator operator (λ o. seg_behinds_of (join o) (unit o) starts told)

  abbrev pub part_reduce : Result Operator Fault → Item → ℕ → List ℤ → List X → Result (List Item) Fault
  part_reduce operator behind head lengths xs =
      by_operator operator (λ o. in_limit xs (by_segments lengths (λ segments. part_reduces_of (join o) (unit o) behind head segments (map read xs))))

  abbrev pub ReducesStarts : Result Operator Fault → ReducePart X Item → ReducePart X Item → Type 0
  ReducesStarts operator own left =
      ((status : CvlStatus) × RoomTold (part_reduce operator own.behind own.head (map pos own.lengths) own.elements) status own.room left.room)
      × FillsAlone own left

  -- what a part tells is the reduce of its head
  abbrev pub Heads : Operator → ReducePart X Item → ReducePart X Item → Type 0
  Heads o own left = (head_of (join o) (unit o) read own ≡ left.told) × TellsAlone own left

  module _ (o : Operator) where
    -- a part that fits has written the reduces of the segments that start in it
    starts-written : (own left : ReducePart X Item) → ReducesStarts (Ok o) own left → Fits own → left.room ≡ reduces_in (join o) (unit o) read own
    starts-written own left does fit =
        let xs = map read own.elements in let values = reduces_in (join o) (unit o) read own in
        let part : is_part own.head own.lengths (length xs) ≡ true = ap (is_part own.head own.lengths) (length-map own.elements read) ∙ fit.part in
        let call = λ (segments : List ℕ). part_reduces_of (join o) (unit o) own.behind own.head segments xs in
        let meaning : part_reduce (Ok o) own.behind own.head (map pos own.lengths) own.elements ≡ Ok values =
        within own.elements (by_segments (map pos own.lengths) call) fit.few_elements
        ∙ ap (λ lengths. lengths >>= call) (are_lengths own.lengths fit.few_lengths fit.small)
        ∙ part-fits (join o) (unit o) own.behind own.head own.lengths xs part in
        is_done values own.room left.room does.0.0 (length-start_reduces (join o) (unit o) own.behind own.head own.lengths xs ∙ sym fit.room)
        (subst (λ m. RoomTold m does.0.0 own.room left.room) meaning does.0.1)

    module _ (start told known end : List (ReducePart X Item)) (heads : AllZip (Heads o) start told) (kept : AllZip GoesOnAlone told known) where
      -- what goes on behind each part, as it is known
      known-behinds : seg_behinds_of (join o) (unit o) (starts_of told) (told_of told) ≡ Ok (behinds_of known)
          → behinds_of known ≡ behind_each (join o) (unit o) (map (pair_of (join o) (unit o) read) known)
      known-behinds given =
          let Part = ReducePart X Item in let pair = pair_of (join o) (unit o) read in
          let starts : starts_of told ≡ starts_of start =
          alike (Heads o) (λ p. nat_lt 0 (length p.lengths)) (λ p. nat_lt 0 (length p.lengths)) (λ own left does. ap (λ (p : Part). nat_lt 0 (length p.lengths)) does.1) start told heads in
          let tells : told_of told ≡ map (head_of (join o) (unit o) read) start =
          alike (Heads o) (head_of (join o) (unit o) read) (λ p. p.told) (λ own left does. sym does.0) start told heads in
          let then : map pair told ≡ map pair start = alike (Heads o) pair pair (λ own left does. ap (λ (p : Part). pair p) does.1) start told heads in
          let last : map pair known ≡ map pair told = alike GoesOnAlone pair pair (λ own left does. ap (λ (p : Part). pair p) does) told known kept in
          let pairs : zip (starts_of told) (told_of told) ≡ map pair known =
          (λ i. zip (starts i) (tells i)) ∙ zip-maps (λ (p : Part). nat_lt 0 (length p.lengths)) (head_of (join o) (unit o) read) start ∙ sym then ∙ sym last in
          sym (past_limit _ _ (behind_each (join o) (unit o) (zip (starts_of told) (told_of told))) (behinds_of known) given) ∙ ap (behind_each (join o) (unit o)) pairs

      -- the room is the reduces of all segments
      all-written : All Fits start → AllZip (ReducesStarts (Ok o)) known end → behinds_of known ≡ behind_each (join o) (unit o) (map (pair_of (join o) (unit o) read) known)
          → room_of end ≡ reduces_over_ranks (join o) (unit o) (ranks_of read start)
      all-written fit reduced known_behinds =
          let Part = ReducePart X Item in let lists = λ (p : Part). segments_in p in
          let then : All Fits told = keeps (Heads o) Fits Fits (λ own left does fits. subst Fits (sym does.1) (still-fits own left.told own.behind fits)) start told heads fit in
          let last : All Fits known = keeps GoesOnAlone Fits Fits (λ own left does fits. subst Fits (sym does) (still-fits own own.told left.behind fits)) told known kept then in
          let written : map (λ p. p.room) end ≡ map (reduces_in (join o) (unit o) read) known =
          alike_where (ReducesStarts (Ok o)) Fits (reduces_in (join o) (unit o) read) (λ p. p.room) starts-written known end reduced last in
          let same : map lists told ≡ map lists start = alike (Heads o) lists lists (λ own left does. ap lists does.1) start told heads in
          let still : map lists known ≡ map lists told = alike GoesOnAlone lists lists (λ own left does. ap lists does) told known kept in
          ap joined written ∙ sym (each-reduces (join o) (unit o) read known known_behinds)
          ∙ ap (λ parts. reduces_over_ranks (join o) (unit o) (map (read_in read) parts)) (still ∙ same)

  pub reduces : (operator : Result Operator Fault) (lengths : List ℤ) (segments : List ℕ) (start told known end : List (ReducePart X Item)) → lengths_of lengths ≡ Ok segments
      → ArePartsOf segments start → AllPass is_item (map read (elements_of start)) → HaveRooms start
      → ((o : Operator) → operator ≡ Ok o → All Fits start → AllZip (Heads o) start told)
      → RoomTold (behinds operator (starts_of told) (told_of told)) done (behinds_of told) (behinds_of known) → AllZip GoesOnAlone told known
      → AllZip (ReducesStarts operator) known end → RoomTold (seg_reduce operator (map read (elements_of start)) lengths) done (room_of start) (room_of end)
  reduces (Err f) lengths segments start told known end is are items rooms heads goes kept reduced =
      let given = fills (Err f) (behinds_of told) (behinds_of known) goes in absurd (none-some (behinds_of known) (ap result_ok given.0))
  reduces (Ok o) lengths segments start told known end is are items rooms heads goes kept reduced =
      let xs = map read (elements_of start) in let values = reduces_of (join o) (unit o) segments xs in
      let few = few-of lengths segments is in
      let fit : All Fits start = all-fit segments start are rooms few.0 few.1 in
      let told_heads = heads o refl fit in
      let given = fills _ (behinds_of told) (behinds_of known) goes in
      let ends : room_of end ≡ reduces_over_ranks (join o) (unit o) (ranks_of read start) =
      all-written o start told known end told_heads kept fit reduced (known-behinds o start told known end told_heads kept given.0) in
      let total : sum segments ≡ length xs = (nested segments (elements_of start) are.whole.0 are.whole.1).0 ∙ sym (length-map (elements_of start) read) in
      let meaning : seg_reduce (Ok o) xs lengths ≡ Ok values = ap (λ r. r >>= seg_reduce_of (join o) (unit o) xs) is ∙ seg_reduce-fits (join o) (unit o) xs segments total in
      let same : values ≡ room_of end =
      same_Some values (room_of end)
      (ap result_ok (sym (seg_reduce-fits (join o) (unit o) xs segments total) ∙ whole-reduces (laws o) read segments start are items ∙ ap Ok (sym ends))) in
      let long : length values ≡ length (room_of start) =
      length-reduces_of (join o) (unit o) xs segments ∙ ap length are.in_order ∙ sym (as-long (λ p. p.lengths) (λ p. p.room) start rooms) in
      subst (λ m. RoomTold m done (room_of start) (room_of end)) (sym meaning)
      (subst (λ ys. RoomTold (Ok values) done (room_of start) ys) same (tells_done values (room_of start) long))
