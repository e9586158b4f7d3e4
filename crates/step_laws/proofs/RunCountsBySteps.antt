-- Counts of the runs of each segment by steps.
use Rattle.std.proofs.Common.{◌≡◌, ◌++◌, ◌+◌, ◌≤◌, ◌∙◌, not, ℕ, ℤ, pos, Bool, Option, None, List, [], ◌∷◌, length, map, take, drop, sum, zip, All, Ok, refl, sym, ap}
use Rattle.std.proofs.Common.{arith, subst, nat_lt}
use Rattle.std.proofs.Common.{append_assoc, length-append, take_at, drop_at}
use mathlib.Core.List.{map-map}
use Rattle.std.proofs.lemmas.List.{length-map, take-append-drop, length-take-le}
use Rattle.std.proofs.lemmas.List.Elements.{All-cons, All-head, All-nil, All-tail}
use Rattle.std.specs.List.{AllZip}
use Rattle.c_calls.specs.Calls.{by_segments, in_limit, lengths_of}
use Rattle.c_calls.specs.Told.{RoomTold, done}
use Rattle.call_laws.specs.OverRanks.{together}
use Rattle.cvl_base.proofs.Lists.{sum-cons}
use Rattle.cvl_base.proofs.Nests.{length-cut, lengths-cut}
use Rattle.cvl_base.specs.declared.fault.FaultNo.TheVariants as no
use Rattle.cvl_base.specs.Faults.{fault}
use Rattle.cvl_base.specs.Gives.{◌>>=◌, fault_if}
use Rattle.cvl_base.specs.Integers.{sum_of}
use Rattle.cvl_base.specs.Limits.{most_places}
use Rattle.cvl_base.specs.Lists.{joined}
use Rattle.cvl_base.specs.Nests.{cut_of}
use Rattle.run_lengths.specs.Runs.{run_count_of}
use Rattle.run_parts.specs.Counts.{part_run_counts_of}
use Rattle.run_parts.specs.Runs.{in_front_of, range_of, runs_behind}
use Rattle.run_parts.proofs.PartRuns.{bounds}
use Rattle.segment_parts.specs.Behinds.{behind_each, goes_on, seg_behinds_of}
use Rattle.segment_parts.proofs.Starts.{length-join_last}
use Rattle.segment_parts.specs.Reduces.{join_last}
use Rattle.segment_values.specs.Values.{each_of}
use Rattle.step_laws.proofs.Answered.{fills, is_done, is_given, past_limit, tells_done, within}
use Rattle.step_laws.proofs.Parted.{alike, alike_where, as-long, keeps, some-fewer}
use Rattle.step_laws.proofs.RunCuts.{IsPart, elements-are, front-is, go_on}
use Rattle.step_laws.proofs.RunsCounted.{begun_in, counts-together, counts_on, goes-on, pairs_on, size_on}
use Rattle.step_laws.proofs.RunsTold.{from-parts}
use Rattle.step_laws.proofs.RunsTogether.{GoOn, behind-parted, last_of, last_of-append}
use Rattle.step_laws.proofs.SegmentLengths.{are_lengths, few-of, nested, some-less}
use Rattle.step_laws.specs.ReduceParts.{GoesOnAlone, HaveRooms, ReducePart, behinds_of, elements_of, room_of, segments_in, starts_of, told_of}
use Rattle.step_laws.specs.RunParts.{AreAt, AreRunPartsOf, RunPart, parts_of}
use Rattle.step_laws.specs.RunSteps.{CountsRuns, TellsFronts}

-- what a part holds and leaves of the room once its segments are counted
module _ {X : Type 0} (differ : X → X → Bool) where
  abbrev pub counts_of_part : ReducePart X ℤ → List ℤ
  counts_of_part p = join_last sum_of (map (run_count_of differ) (cut_of p.lengths (drop p.head p.elements))) p.behind

  abbrev pub front_count : List X → RunPart X → ℕ
  front_count xs p = length (runs_behind differ (in_front_of p.from xs) (range_of p.from p.part.head xs))

  -- the fronts of parts are those of their pairs
  fronts-are : (xs before : List X) (parts : List (RunPart X)) → xs ≡ before ++ elements_of (parts_of parts) → AreAt (length before) parts → All IsPart (parts_of parts)
      → zip (starts_of (parts_of parts)) (map (λ p. pos (front_count xs p)) parts) ≡ pairs_on differ (last_of None before) (map segments_in (parts_of parts))
  fronts-are xs before [] whole at each = refl
  fronts-are xs before (p ∷ parts) whole at each =
      let r = p.part in
      let els = r.elements in
      let rest = elements_of (parts_of parts) in
      let is = All-head IsPart r (parts_of parts) each in
      let inside : r.head ≤ length els = omega (arith, (bounds r.head r.lengths (length els) is).0) in
      let long : length (take r.head els) ≡ r.head = length-take-le r.head els inside in
      let split : els ++ rest ≡ take r.head els ++ (drop r.head els ++ rest) =
      ap (λ ys. ys ++ rest) (sym (take-append-drop r.head els)) ∙ append_assoc (take r.head els) (drop r.head els) rest in
      let here : range_of p.from r.head xs ≡ take r.head els =
      (λ i. take r.head (drop (at.0 i) (whole i))) ∙ ap (take r.head) (drop_at before (els ++ rest) (length before) refl ∙ split)
      ∙ take_at (take r.head els) (drop r.head els ++ rest) r.head long in
      let front : in_front_of p.from xs ≡ last_of None before = (λ i. in_front_of (at.0 i) (whole i)) ∙ front-is before (els ++ rest) in
      let own : front_count xs p ≡ begun_in differ (last_of None before) (take r.head els) =
      (λ i. length (runs_behind differ (front i) (here i))) ∙ ap length (behind-parted differ (last_of None before) (take r.head els)) in
      let starts : nat_lt 0 (length r.lengths) ≡ nat_lt 0 (length (cut_of r.lengths (drop r.head els))) = ap (nat_lt 0) (sym (length-cut r.lengths (drop r.head els))) in
      let behind : last_of (last_of None before) ((segments_in r).0 ++ joined (segments_in r).1) ≡ last_of None (before ++ els) =
      ap (last_of (last_of None before)) (elements-are r is) ∙ sym (last_of-append None before els) in
      let others = fronts-are xs (before ++ els) parts (whole ∙ sym (append_assoc before els rest))
      (subst (λ n. AreAt n parts) (sym (length-append before els)) at.1) (All-tail IsPart r (parts_of parts) each) in
      (λ i. (starts i, pos (own i)) ∷ (others ∙ ap (λ f. pairs_on differ f (map segments_in (parts_of parts))) (sym behind)) i)

  -- the counts of parts that know what goes on behind them
  counts-are : (front : Option X) (parts : List (ReducePart X ℤ)) → size_on differ (map segments_in parts) ≤ most_places
      → behinds_of parts ≡ behind_each sum_of (pos 0) (pairs_on differ front (map segments_in parts))
      → map counts_of_part parts ≡ counts_on differ front (map segments_in parts)
  counts-are front [] few behinds = refl
  counts-are front (p ∷ parts) few behinds =
      let s = segments_in p in
      let next = last_of front (s.0 ++ joined s.1) in
      let smaller : size_on differ (map segments_in parts) ≤ most_places =
      omega (arith, few, sum-cons (length (s.0 ++ joined s.1)) (map (λ (q : List X × List (List X)). length (q.0 ++ joined q.1)) (map segments_in parts))) in
      let listed : p.behind ∷ behinds_of parts
      ≡ goes_on sum_of (pos 0) (pairs_on differ next (map segments_in parts)) ∷ behind_each sum_of (pos 0) (pairs_on differ next (map segments_in parts)) = behinds in
      let first : p.behind ≡ goes_on sum_of (pos 0) (pairs_on differ next (map segments_in parts)) = cc in
      let rest : behinds_of parts ≡ behind_each sum_of (pos 0) (pairs_on differ next (map segments_in parts)) = cc in
      (λ i. join_last sum_of (map (run_count_of differ) s.1) ((first ∙ (goes-on differ next (map segments_in parts) smaller).0) i) ∷ counts-are next parts smaller rest i)

  sizes-of-parts : (parts : List (ReducePart X ℤ)) → All IsPart parts → size_on differ (map segments_in parts) ≡ length (elements_of parts)
  sizes-of-parts [] each = refl
  sizes-of-parts (p ∷ parts) each =
      let s = segments_in p in
      omega (
        arith,
        sum-cons (length (s.0 ++ joined s.1)) (map (λ (q : List X × List (List X)). length (q.0 ++ joined q.1)) (map segments_in parts)),
        sizes-of-parts parts (All-tail IsPart p parts each),
        ap length (elements-are p (All-head IsPart p parts each)),
        length-append p.elements (elements_of parts),
      )

-- a part has as many elements as its lengths say, and a room for its counts
pub record MayCount {X : Type 0} (p : ReducePart X ℤ) : Type 0 where
  pub part : IsPart p
  pub room : length p.room ≡ length p.lengths
  pub few_elements : length p.elements ≤ most_places
  pub few_lengths : length p.lengths ≤ most_places
  pub small : sum p.lengths ≤ most_places

module _ {X : Type 0} (differ : X → X → Bool) where
  pub counted : (own left : RunPart X) → CountsRuns differ own left → MayCount own.part → left.part.room ≡ counts_of_part differ own.part
  counted own left does may =
      let p = own.part in
      let values = counts_of_part differ p in
      let call = λ (ns : List ℕ). part_run_counts_of differ p.behind p.head ns p.elements in
      let cuts = cut_of p.lengths (drop p.head p.elements) in
      let is : in_limit p.elements (by_segments (map pos p.lengths) call) ≡ Ok values =
      within p.elements (by_segments (map pos p.lengths) call) may.few_elements ∙ ap (λ r. r >>= call) (are_lengths p.lengths may.few_lengths may.small)
      ∙ ap (λ b. fault_if (not b) (fault no.LengthMismatch) (Ok values)) may.part in
      let long : length values ≡ length p.room =
      length-join_last sum_of (map (run_count_of differ) cuts) p.behind ∙ length-map cuts (run_count_of differ) ∙ length-cut p.lengths (drop p.head p.elements) ∙ sym may.room in
      is_done values p.room left.part.room does.0.0 long (subst (λ m. RoomTold m does.0.0 p.room left.part.room) is does.0.1)

module _ {X : Type 0} (differ : X → X → Bool) (lengths : List ℤ) (segments : List ℕ) (start : List (RunPart X)) (is : lengths_of lengths ≡ Ok segments)
    (are : AreRunPartsOf segments start) (rooms : HaveRooms (parts_of start)) where
  abbrev xs : List X
  xs = elements_of (parts_of start)

  abbrev ps : List (List X × List (List X))
  ps = map segments_in (parts_of start)

  abbrev lists : List (List X)
  lists = are.cut.whole.0

  nests : (sum segments ≡ length xs) × (lists ≡ cut_of segments xs)
  nests = nested segments xs lists are.cut.whole.1

  few : length xs ≤ most_places
  few = omega (arith, nests.0, (few-of lengths segments is).1)

  small : size_on differ ps ≤ most_places
  small = omega (arith, sizes-of-parts differ (parts_of start) are.cut.each, few)

  goes : GoOn ps
  goes =
      go_on (parts_of start) are.cut.each are.firsts
      (ap (map length) (ap (λ t. t.1) are.cut.whole.2 ∙ nests.1) ∙ lengths-cut segments xs (omega (arith, nests.0)) ∙ are.cut.in_order)

  may : All MayCount (parts_of start)
  may =
      let bound = few-of lengths segments is in
      let fewer = some-fewer (λ (p : ReducePart X ℤ). p.elements) most_places (parts_of start) few in
      let shorter = some-fewer (λ (p : ReducePart X ℤ). p.lengths) most_places (parts_of start) (subst (λ ns. length ns ≤ most_places) are.cut.in_order bound.0) in
      let less = some-less (λ (p : ReducePart X ℤ). p.lengths) most_places (parts_of start) (subst (λ ns. sum ns ≤ most_places) are.cut.in_order bound.1) in
      λ k d lt. record { part = are.cut.each k d lt; room = rooms k d lt; few_elements = fewer k d lt; few_lengths = shorter k d lt; small = less k d lt }

  -- what a part tells of its head
  front-told : (own left : RunPart X) → TellsFronts differ xs own left → left.part.told ≡ pos (front_count differ xs own)
  front-told own left does =
      let value = pos (front_count differ xs own) in
      let given = is_given _ own.part.told left.part.told does.0 in
      sym (past_limit _ _ value left.part.told
      (sym (within xs (fault_if (nat_lt (length xs) (own.from + own.part.head)) (fault no.LengthMismatch) (Ok value)) few) ∙ given))

  module _ (told known end : List (RunPart X)) (first : AllZip (TellsFronts differ xs) start told)
      (behinds : RoomTold (seg_behinds_of sum_of (pos 0) (starts_of (parts_of told)) (told_of (parts_of told))) done (behinds_of (parts_of told)) (behinds_of (parts_of known)))
      (alone : AllZip GoesOnAlone (parts_of told) (parts_of known)) (last : AllZip (CountsRuns differ) known end) where
    tells : told_of (parts_of told) ≡ map (λ p. pos (front_count differ xs p)) start
    tells =
        map-map (λ (p : ReducePart X ℤ). p.told) (λ (p : RunPart X). p.part) told
        ∙ alike (TellsFronts differ xs) (λ p. pos (front_count differ xs p)) (λ p. p.part.told) front-told start told first

    starts : starts_of (parts_of told) ≡ starts_of (parts_of start)
    starts =
        map-map (λ (p : ReducePart X ℤ). nat_lt 0 (length p.lengths)) (λ (p : RunPart X). p.part) told
        ∙ alike (TellsFronts differ xs) (λ p. nat_lt 0 (length p.part.lengths)) (λ p. nat_lt 0 (length p.part.lengths))
        (λ own left does. ap (λ (p : RunPart X). nat_lt 0 (length p.part.lengths)) does.1) start told first
        ∙ sym (map-map (λ (p : ReducePart X ℤ). nat_lt 0 (length p.lengths)) (λ (p : RunPart X). p.part) start)

    pairs : zip (starts_of (parts_of told)) (told_of (parts_of told)) ≡ pairs_on differ None ps
    pairs = (λ i. zip (starts i) (tells i)) ∙ fronts-are differ xs [] start refl are.at are.cut.each

    known-behinds : behinds_of (parts_of known) ≡ behind_each sum_of (pos 0) (pairs_on differ None ps)
    known-behinds =
        let given = fills _ (behinds_of (parts_of told)) (behinds_of (parts_of known)) behinds in
        sym (past_limit _ _ (behind_each sum_of (pos 0) (zip (starts_of (parts_of told)) (told_of (parts_of told)))) (behinds_of (parts_of known)) given.0)
        ∙ ap (behind_each sum_of (pos 0)) pairs

    still : map segments_in (parts_of known) ≡ ps
    still =
        alike GoesOnAlone segments_in segments_in (λ own left does. ap (λ (p : ReducePart X ℤ). segments_in p) does) (parts_of told) (parts_of known) alone
        ∙ map-map segments_in (λ (p : RunPart X). p.part) told
        ∙ alike (TellsFronts differ xs) (λ p. segments_in p.part) (λ p. segments_in p.part) (λ own left does. ap (λ (p : RunPart X). segments_in p.part) does.1) start told first
        ∙ sym (map-map segments_in (λ (p : RunPart X). p.part) start)

    may-told : All MayCount (parts_of told)
    may-told =
        of-parts told (keeps (TellsFronts differ xs) (λ p. MayCount p.part) (λ p. MayCount p.part)
        (λ own left does m. subst (λ (p : RunPart X). MayCount p.part) (sym does.1)
        (record { part = m.part; room = m.room; few_elements = m.few_elements; few_lengths = m.few_lengths; small = m.small }))
        start told first (from-parts MayCount start may))
      where
        of-parts : (parts : List (RunPart X)) → All (λ p. MayCount p.part) parts → All MayCount (parts_of parts)
        of-parts [] holds = All-nil (λ (p : ReducePart X ℤ). MayCount p)
        of-parts (p ∷ parts) holds =
            All-cons (λ (q : ReducePart X ℤ). MayCount q) p.part (parts_of parts) (All-head (λ (q : RunPart X). MayCount q.part) p parts holds)
            (of-parts parts (All-tail (λ (q : RunPart X). MayCount q.part) p parts holds))

    may-known : All (λ p. MayCount p.part) known
    may-known =
        from-parts MayCount known
        (keeps GoesOnAlone MayCount MayCount
        (λ own left does m. subst (λ (p : ReducePart X ℤ). MayCount p) (sym does)
        (record { part = m.part; room = m.room; few_elements = m.few_elements; few_lengths = m.few_lengths; small = m.small }))
        (parts_of told) (parts_of known) alone may-told)

    rooms-are : room_of (parts_of end) ≡ map (run_count_of differ) lists
    rooms-are =
        ap joined (map-map (λ (p : ReducePart X ℤ). p.room) (λ (p : RunPart X). p.part) end
        ∙ alike_where (CountsRuns differ) (λ p. MayCount p.part) (λ p. counts_of_part differ p.part) (λ p. p.part.room) (counted differ) known end last may-known
        ∙ sym (map-map (counts_of_part differ) (λ (p : RunPart X). p.part) known)
        ∙ counts-are differ None (parts_of known) (subst (λ qs. size_on differ qs ≤ most_places) (sym still) small)
        (known-behinds ∙ ap (λ qs. behind_each sum_of (pos 0) (pairs_on differ None qs)) (sym still))
        ∙ ap (counts_on differ None) still)
        ∙ sym (counts-together differ None ps goes small) ∙ ap (λ t. map (run_count_of differ) t.1) are.cut.whole.2

    pub run_counts : RoomTold (by_segments lengths (each_of (run_count_of differ) xs)) done (room_of (parts_of start)) (room_of (parts_of end))
    run_counts =
        let values = map (run_count_of differ) lists in
        let meaning : by_segments lengths (each_of (run_count_of differ) xs) ≡ Ok values =
        ap (λ r. r >>= each_of (run_count_of differ) xs) is ∙ ap (λ r. r >>= λ segs. Ok (map (run_count_of differ) segs)) are.cut.whole.1 in
        let long : length values ≡ length (room_of (parts_of start)) =
        length-map lists (run_count_of differ) ∙ ap length nests.1 ∙ length-cut segments xs ∙ ap length are.cut.in_order
        ∙ sym (as-long (λ (p : ReducePart X ℤ). p.lengths) (λ (p : ReducePart X ℤ). p.room) (parts_of start) rooms) in
        subst (λ m. RoomTold m done (room_of (parts_of start)) (room_of (parts_of end))) (sym meaning)
        (subst (λ ys. RoomTold (Ok values) done (room_of (parts_of start)) ys) (sym rooms-are) (tells_done values (room_of (parts_of start)) long))
