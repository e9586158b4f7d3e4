-- Merges by flags by steps.
use Rattle.std.proofs.Common.{◌≡◌, ◌≢◌, ◌∙◌, ◌+◌, ◌≤◌, ◌==◌, ◌&&◌, ℕ, pos, Bool, true, false, not, List, [], ◌∷◌, ◌++◌, length, map, sum, Ok, Err, refl, sym, ap, arith, subst}
use Rattle.std.proofs.Common.{All, eqb, get_or, ⊎_elim}
use mathlib.Core.List.{map-map}
use Rattle.std.proofs.lemmas.Bool.{ne_eqb}
use Rattle.std.proofs.lemmas.Bool.Decides.{eqb_tells}
use Rattle.std.proofs.lemmas.List.{length-map}
use Rattle.std.proofs.lemmas.List.Elements.{All-head, All-tail}
use Rattle.std.specs.List.{AllZip}
use Rattle.cvl_base.proofs.Lists.{sum-cons}
use Rattle.cvl_base.specs.declared.fault.FaultNo.TheVariants as no
use Rattle.cvl_base.specs.Faults.{fault}
use Rattle.cvl_base.specs.Gives.{fault_if}
use Rattle.cvl_base.specs.Limits.{most_places}
use Rattle.cvl_base.specs.Lists.{joined}
use Rattle.cvl_base.specs.Packs.{count_of}
use Rattle.flag_calls.specs.Flags.{flags_of}
use Rattle.flag_merges.specs.Merges.{merge_of, merged}
use Rattle.flag_merges.proofs.BySegments.{merged-append}
use Rattle.flag_merges.proofs.Counted.{are_fitting, count-append, count-append-not, counts_both, merge_right, merged_long}
use Rattle.part_cuts.proofs.Told.{length-places_of}
use Rattle.part_cuts.specs.Places.{exact_count_places_of, exact_places_of, places_of}
use Rattle.part_cuts.specs.Pairs.{remaining_places_of}
use Rattle.c_calls.specs.Calls.{in_limit}
use Rattle.c_calls.specs.Told.{RoomTold, done, status_of_fault}
use Rattle.c_calls.specs.declared.status.CvlStatus.{CvlStatus}
use Rattle.step_laws.proofs.Answered.{done_if_long, fills, is_done, is_given, past_limit, tells_done, within}
use Rattle.step_laws.proofs.CutPlaces.{count-places, exact-given, exact-fits, exact-misfits, ranges-joined, ranges-long, rest-fits, rest-given, rest-misfits}
use Rattle.step_laws.proofs.Parted.{alike, alike_where, as-long, each-alike, keeps, some-fewer}
use Rattle.step_laws.specs.MergeSteps.{CountsTrue, CutsFalses, CutsTrues, GetsAlone, HaveRanges, HaveRooms, MergePart, Merges, flags_in, room_of, told_of}
use Rattle.step_laws.specs.PackSteps.{ranges_of}

-- ---- counts of flags

-- how many flags are false
abbrev pub falses_of : List Bool → ℕ
falses_of flags = count_of (map not flags)

-- what adds up over lists adds up over all parts
sum-parts : {P : Type 0} (count : List Bool → ℕ) → count [] ≡ 0 → ((xs ys : List Bool) → count (xs ++ ys) ≡ count xs + count ys) → (flags : P → List Bool) (parts : List P)
    → sum (map (λ p. count (flags p)) parts) ≡ count (joined (map flags parts))
sum-parts count none add flags [] = sym none
sum-parts count none add flags (p ∷ parts) =
    sum-cons (count (flags p)) (map (λ q. count (flags q)) parts) ∙ ap (λ n. count (flags p) + n) (sum-parts count none add flags parts)
    ∙ sym (add (flags p) (joined (map flags parts)))

-- ---- merges

module _ {X : Type 0} where
  -- as many elements as flags are true and false
  abbrev pub AreFor : List Bool → List X → List X → Type 0
  AreFor flags xs ys = (count_of flags ≡ length xs) × (falses_of flags ≡ length ys)

  merge-fits : (flags : List Bool) (xs ys : List X) → AreFor flags xs ys → merge_of flags xs ys ≡ Ok (merged flags xs ys)
  merge-fits flags xs ys are = merge_right (fault no.LengthMismatch) flags xs ys (are_fitting flags (length xs) (length ys) are.0 are.1)

  merge-misfits : (flags : List Bool) (xs ys : List X) → (AreFor flags xs ys → ⊥) → merge_of flags xs ys ≡ Err (fault no.LengthMismatch)
  merge-misfits flags xs ys other =
      ⊎_elim
      (λ (trues : (eqb (count_of flags) (length xs) ≡ true) × (count_of flags ≡ length xs)).
      (λ i. fault_if (not (trues.0 i && (falses_of flags == length ys))) (fault no.LengthMismatch) (Ok (merged flags xs ys)))
      ∙ (λ i. fault_if (not (ne_eqb (falses_of flags) (length ys) (λ same. other (trues.1, same)) i)) (fault no.LengthMismatch) (Ok (merged flags xs ys))))
      (λ (differ : (eqb (count_of flags) (length xs) ≡ false) × (count_of flags ≢ length xs)).
      (λ i. fault_if (not (differ.0 i && (falses_of flags == length ys))) (fault no.LengthMismatch) (Ok (merged flags xs ys))))
      (eqb_tells (count_of flags) (length xs))

  -- a part that has as many elements as its flags say, and a room of its length
  abbrev Fits : MergePart X → Type 0
  Fits p = AreFor p.flags p.trues p.falses × (length p.room ≡ length p.flags) × (length p.flags ≤ most_places)

  abbrev own-merge : MergePart X → List X
  own-merge p = merged p.flags p.trues p.falses

  merged-joined : (parts : List (MergePart X)) → All Fits parts
      → merged (flags_in parts) (joined (map (λ p. p.trues) parts)) (joined (map (λ p. p.falses) parts)) ≡ joined (map own-merge parts)
  merged-joined [] fit = refl
  merged-joined (p ∷ parts) fit =
      let own = All-head Fits p parts fit in
      merged-append p.flags (flags_in parts) p.trues (joined (map (λ q. q.trues) parts)) p.falses (joined (map (λ q. q.falses) parts)) own.0.0 own.0.1
      ∙ ap (λ zs. own-merge p ++ zs) (merged-joined parts (All-tail Fits p parts fit))

  -- what a part writes
  merges : (own left : MergePart X) → Merges own left → Fits own → left.room ≡ own-merge own
  merges own left ((status, told), alone) (are, long, few) =
      let meant : in_limit own.flags (merge_of own.flags own.trues own.falses) ≡ Ok (own-merge own) =
      within own.flags (merge_of own.flags own.trues own.falses) few ∙ merge-fits own.flags own.trues own.falses are in
      is_done (own-merge own) own.room left.room status (merged_long own.flags own.trues own.falses are.0 are.1 ∙ sym long)
      (subst (λ m. RoomTold m status own.room left.room) meant told)

  -- ---- the steps

  abbrev trues-in : List (MergePart X) → List ℕ
  trues-in parts = map (λ p. count_of p.flags) parts

  abbrev falses-in : List (MergePart X) → List ℕ
  falses-in parts = map (λ p. falses_of p.flags) parts

  abbrev flag-lists : List (MergePart X) → List (List Bool)
  flag-lists parts = map (λ p. p.flags) parts

  module _ (start counted : List (MergePart X)) (first : AllZip CountsTrue start counted) where
    told-trues : told_of counted ≡ map pos (trues-in start)
    told-trues =
        alike CountsTrue (λ (p : MergePart X). pos (count_of p.flags)) (λ (p : MergePart X). p.told)
        (λ own left does.
        sym (past_limit _ _ (pos (count_of (flags_of does.0.0))) left.told (is_given _ own.told left.told does.0.2)) ∙ ap (λ flags. pos (count_of flags)) does.0.1)
        start counted first
        ∙ sym (map-map pos (λ (p : MergePart X). count_of p.flags) start)

    flags-counted : flag-lists counted ≡ flag-lists start
    flags-counted =
        alike CountsTrue (λ (p : MergePart X). p.flags) (λ (p : MergePart X). p.flags) (λ own left does. ap (λ (p : MergePart X). p.flags) does.1) start counted first

    lengths-counted : map (λ (p : MergePart X). length p.flags) counted ≡ map (λ (p : MergePart X). length p.flags) start
    lengths-counted =
        alike CountsTrue (λ (p : MergePart X). length p.flags) (λ (p : MergePart X). length p.flags) (λ own left does. ap (λ (p : MergePart X). length p.flags) does.1) start counted first

    trues-total : sum (trues-in start) ≡ count_of (flags_in start)
    trues-total = sum-parts count_of refl count-append (λ (p : MergePart X). p.flags) start

    falses-total : sum (falses-in start) ≡ falses_of (flags_in start)
    falses-total = sum-parts falses_of refl count-append-not (λ (p : MergePart X). p.flags) start

    both : All (λ (p : MergePart X). length p.flags ≡ count_of p.flags + falses_of p.flags) start
    both = λ k d within. sym (counts_both (get_or start k d).flags)

    -- the place of each part in the vector for the true flags
    trues-places : (len : ℕ) → exact_count_places_of (told_of counted) len ≡ exact_places_of (trues-in start) len
    trues-places len = ap (λ told. exact_count_places_of told len) told-trues ∙ count-places (trues-in start) len

    cut-trues : (len : ℕ) (before places : List ℕ) → CutsTrues counted len done before places → (sum (trues-in start) ≡ len) × (places ≡ places_of (trues-in start))
    cut-trues len before places cuts =
        exact-given (trues-in start) len places (sym (trues-places len) ∙ (fills (exact_count_places_of (told_of counted) len) before places cuts).0)

    -- and in the other vector
    falses-places : (places : List ℕ) (len : ℕ) → places ≡ places_of (trues-in start)
        → remaining_places_of (places_of (map (λ (p : MergePart X). length p.flags) counted)) places len
        ≡ remaining_places_of (places_of (map (λ (p : MergePart X). length p.flags) start)) (places_of (trues-in start)) len
    falses-places places len are = (λ i. remaining_places_of (places_of (lengths-counted i)) (are i) len)

    cut-falses : (places : List ℕ) (len : ℕ) (behind rest : List ℕ) → places ≡ places_of (trues-in start) → CutsFalses counted places len done behind rest
        → (sum (falses-in start) ≡ len) × (rest ≡ places_of (falses-in start))
    cut-falses places len behind rest are cuts =
        let given = (fills (remaining_places_of (places_of (map (λ (p : MergePart X). length p.flags) counted)) places len) behind rest cuts).0 in
        rest-given (λ (p : MergePart X). length p.flags) (λ (p : MergePart X). count_of p.flags) (λ (p : MergePart X). falses_of p.flags) start both len rest
        (sym (falses-places places len are) ∙ given)

    module _ (placed : List (MergePart X)) (gets : AllZip GetsAlone counted placed) where
      flags-placed : flag-lists placed ≡ flag-lists start
      flags-placed =
          alike GetsAlone (λ (p : MergePart X). p.flags) (λ (p : MergePart X). p.flags) (λ own left does. ap (λ (p : MergePart X). p.flags) does) counted placed gets ∙ flags-counted

      counted-placed : (count : List Bool → ℕ) → map (λ (p : MergePart X). count p.flags) placed ≡ map (λ (p : MergePart X). count p.flags) start
      counted-placed count =
          sym (map-map count (λ (p : MergePart X). p.flags) placed) ∙ ap (map count) flags-placed ∙ map-map count (λ (p : MergePart X). p.flags) start

      rooms-placed : HaveRooms start → HaveRooms placed
      rooms-placed long =
          keeps GetsAlone (λ (p : MergePart X). length p.room ≡ length p.flags) (λ (p : MergePart X). length p.room ≡ length p.flags)
          (λ own left does is. ap (λ (p : MergePart X). length p.room) does ∙ is ∙ sym (ap (λ (p : MergePart X). length p.flags) does)) counted placed gets
          (keeps CountsTrue (λ (p : MergePart X). length p.room ≡ length p.flags) (λ (p : MergePart X). length p.room ≡ length p.flags)
          (λ own left does is. ap (λ (p : MergePart X). length p.room) does.1 ∙ is ∙ sym (ap (λ (p : MergePart X). length p.flags) does.1)) start counted first long)

      -- ranges as long as counts say
      ranged : (own : MergePart X → List X) (count : List Bool → ℕ) (places : List ℕ) (xs : List X)
          → sum (map (λ (p : MergePart X). count p.flags) start) ≡ length xs → places ≡ places_of (map (λ (p : MergePart X). count p.flags) start)
          → map own placed ≡ ranges_of places xs → All (λ p. count p.flags ≡ length (own p)) placed × (joined (map own placed) ≡ xs)
      ranged own count places xs total are have =
          let counts = map (λ (p : MergePart X). count p.flags) start in
          let ranges : map own placed ≡ ranges_of (places_of counts) xs = have ∙ ap (λ ps. ranges_of ps xs) are in
          let long : map (λ p. length (own p)) placed ≡ map (λ (p : MergePart X). count p.flags) placed =
          sym (map-map length own placed) ∙ ap (map length) ranges ∙ ranges-long counts xs total ∙ sym (counted-placed count) in
          (each-alike (λ (p : MergePart X). count p.flags) (λ p. length (own p)) placed (sym long), ap joined ranges ∙ ranges-joined counts xs total)

      pub fits : (end : List (MergePart X)) (xs ys : List X) (before places behind rest : List ℕ) → length (flags_in start) ≤ most_places → HaveRooms start
          → CutsTrues counted (length xs) done before places → CutsFalses counted places (length ys) done behind rest → HaveRanges places xs rest ys placed
          → AllZip Merges placed end → RoomTold (in_limit (flags_in start) (merge_of (flags_in start) xs ys)) done (room_of start) (room_of end)
      fits end xs ys before places behind rest few long cuts_trues cuts_falses have last =
          let flags = flags_in start in
          let trues = cut-trues (length xs) before places cuts_trues in
          let falses = cut-falses places (length ys) behind rest trues.1 cuts_falses in
          let own_trues = ranged (λ (p : MergePart X). p.trues) count_of places xs trues.0 trues.1 have.0 in
          let own_falses = ranged (λ (p : MergePart X). p.falses) falses_of rest ys falses.0 falses.1 have.1 in
          let same : flags_in placed ≡ flags = ap joined flags-placed in
          let fewer : All (λ (p : MergePart X). length p.flags ≤ most_places) placed =
          some-fewer (λ (p : MergePart X). p.flags) most_places placed (subst (λ fs. length fs ≤ most_places) (sym same) few) in
          let rooms : HaveRooms placed = rooms-placed long in
          let at_last : All Fits placed = λ k d lt. ((own_trues.0 k d lt, own_falses.0 k d lt), rooms k d lt, fewer k d lt) in
          let written : map (λ (p : MergePart X). p.room) end ≡ map own-merge placed =
          alike_where Merges Fits own-merge (λ (p : MergePart X). p.room) merges placed end last at_last in
          let whole : room_of end ≡ merged flags xs ys =
          ap joined written ∙ sym (merged-joined placed at_last) ∙ (λ i. merged (same i) (own_trues.1 i) (own_falses.1 i)) in
          let are : AreFor flags xs ys = (sym trues-total ∙ trues.0, sym falses-total ∙ falses.0) in
          let meant : in_limit flags (merge_of flags xs ys) ≡ Ok (room_of end) =
          within flags (merge_of flags xs ys) few ∙ merge-fits flags xs ys are ∙ ap Ok (sym whole) in
          let full : length (room_of end) ≡ length (room_of start) =
          ap length whole ∙ merged_long flags xs ys are.0 are.1 ∙ sym (as-long (λ (p : MergePart X). p.flags) (λ (p : MergePart X). p.room) start long) in
          subst (λ m. RoomTold m done (room_of start) (room_of end)) (sym meant) (tells_done (room_of end) (room_of start) full)

    -- an answer that is not done
    refused : (xs ys : List X) (status : CvlStatus) → length (flags_in start) ≤ most_places → status ≡ status_of_fault (fault no.LengthMismatch)
        → (AreFor (flags_in start) xs ys → ⊥) → RoomTold (in_limit (flags_in start) (merge_of (flags_in start) xs ys)) status (room_of start) (room_of start)
    refused xs ys status few is other =
        let flags = flags_in start in
        subst (λ m. RoomTold m status (room_of start) (room_of start)) (sym (within flags (merge_of flags xs ys) few ∙ merge-misfits flags xs ys other)) (is, refl)

    pub other_trues : (xs ys : List X) (status : CvlStatus) (before places : List ℕ) → length (flags_in start) ≤ most_places → length before ≡ length start + 1
        → CutsTrues counted (length xs) status before places → status ≢ done
        → RoomTold (in_limit (flags_in start) (merge_of (flags_in start) xs ys)) status (room_of start) (room_of start)
    other_trues xs ys status before places few long cuts fails =
        let ns = trues-in start in
        let cut : RoomTold (exact_places_of ns (length xs)) status before places = subst (λ m. RoomTold m status before places) (trues-places (length xs)) cuts in
        ⊎_elim
        (λ (adds : (eqb (sum ns) (length xs) ≡ true) × (sum ns ≡ length xs)).
        absurd (fails (done_if_long (places_of ns) before places status (omega (arith, length-places_of ns, length-map start (λ (p : MergePart X). count_of p.flags), long))
        (subst (λ m. RoomTold m status before places) (exact-fits ns (length xs) adds.1) cut))))
        (λ (differ : (eqb (sum ns) (length xs) ≡ false) × (sum ns ≢ length xs)).
        let none : RoomTold (Err (fault no.LengthMismatch)) status before places = subst (λ m. RoomTold m status before places) (exact-misfits ns (length xs) differ.1) cut in
        refused xs ys status few none.0 (λ are. differ.1 (trues-total ∙ are.0)))
        (eqb_tells (sum ns) (length xs))

    pub other_falses : (xs ys : List X) (status : CvlStatus) (before places behind rest : List ℕ) → length (flags_in start) ≤ most_places
        → length behind ≡ length start + 1 → CutsTrues counted (length xs) done before places → CutsFalses counted places (length ys) status behind rest → status ≢ done
        → RoomTold (in_limit (flags_in start) (merge_of (flags_in start) xs ys)) status (room_of start) (room_of start)
    other_falses xs ys status before places behind rest few long cuts_trues cuts fails =
        let ms = falses-in start in
        let whole = λ (p : MergePart X). length p.flags in let trues = λ (p : MergePart X). count_of p.flags in let falses = λ (p : MergePart X). falses_of p.flags in
        let are = cut-trues (length xs) before places cuts_trues in
        let cut : RoomTold (remaining_places_of (places_of (map whole start)) (places_of (trues-in start)) (length ys)) status behind rest =
        subst (λ m. RoomTold m status behind rest) (falses-places places (length ys) are.1) cuts in
        ⊎_elim
        (λ (adds : (eqb (sum ms) (length ys) ≡ true) × (sum ms ≡ length ys)).
        absurd (fails (done_if_long (places_of ms) behind rest status (omega (arith, length-places_of ms, length-map start (λ (p : MergePart X). falses_of p.flags), long))
        (subst (λ m. RoomTold m status behind rest) (rest-fits whole trues falses start both (length ys) adds.1) cut))))
        (λ (differ : (eqb (sum ms) (length ys) ≡ false) × (sum ms ≢ length ys)).
        let none : RoomTold (Err (fault no.LengthMismatch)) status behind rest =
        subst (λ m. RoomTold m status behind rest) (rest-misfits whole trues falses start both (length ys) differ.1) cut in
        refused xs ys status few none.0 (λ for_all. differ.1 (falses-total ∙ for_all.1)))
        (eqb_tells (sum ms) (length ys))
