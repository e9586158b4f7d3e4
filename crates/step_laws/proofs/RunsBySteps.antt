-- Runs by steps: the front of the room has those of the whole.
use Rattle.std.proofs.Common.{◌≡◌, ◌≢◌, ◌++◌, ◌+◌, ◌<◌, ◌≤◌, ◌∙◌, ℕ, ℤ, Bool, List, [], ◌∷◌, length, map, take, drop, sum, All, Ok, Err, refl, sym, ap, arith, subst, ⊎_elim}
use mathlib.Core.List.{map-map}
use Rattle.std.proofs.lemmas.Bool.{cases_lt, le-ltb, lt-ltb}
use Rattle.std.proofs.lemmas.List.{take-append-drop}
use Rattle.std.specs.List.{AllZip}
use Rattle.c_calls.specs.Calls.{by_segments, lengths_of}
use Rattle.c_calls.specs.Told.{FrontTold, Told, at_front, done, front_of}
use Rattle.c_calls.specs.declared.status.CvlStatus.{CvlStatus}
use Rattle.call_laws.specs.OverRanks.{together}
use Rattle.cvl_base.specs.declared.fault.FaultNo.TheVariants as no
use Rattle.cvl_base.specs.Faults.{fault}
use Rattle.cvl_base.specs.Folds.{scan_of}
use Rattle.cvl_base.specs.Gives.{fault_if}
use Rattle.cvl_base.specs.Limits.{most_places}
use Rattle.cvl_base.specs.Lists.{joined}
use Rattle.part_records.specs.Places.{fits_room, layout_of}
use Rattle.run_lengths.specs.Runs.{its_length, its_start, numbers_from, seg_run_numbers_of}
use Rattle.run_lengths.proofs.Fronts.{length-numbers}
use Rattle.run_parts.specs.Places.{RunLayout, run_layout_by, run_layout_or, runs_fitted}
use Rattle.run_parts.specs.Runs.{lengths_of_runs}
use Rattle.run_parts.proofs.Written.{lengths-are}
use Rattle.step_laws.proofs.Packed.{ends, has-room, joined-ranges, length-ranges, places-on}
use Rattle.step_laws.proofs.Parted.{alike, alike_where, each-alike, keeps}
use Rattle.step_laws.proofs.RunNumbers.{counts-together, goes_on_behind, lengths-together, starts-together}
use Rattle.step_laws.proofs.RunsPut.{Ready, behinds-few, lengths-all, lengths-put, put_lengths, put_starts, starts-all, starts-put}
use Rattle.step_laws.proofs.RunsTold.{Fits, all-fit, all-runs, begins-told, counts-are, few-elements, laid, laid-out, lengths-told, meaning, ns, qs, size-all, tells, xs}
use Rattle.step_laws.specs.PackSteps.{SameBehind, ranges_of}
use Rattle.step_laws.specs.RunParts.{AreRunPartsOf, HaveMemory, HaveRanges, KnowBehinds, RangesAlone, RunPart, places_of, rooms_of}
use Rattle.step_laws.specs.RunSteps.{LaysOutRuns, PutsLengths, PutsStarts, TellsRuns}

module _ {X : Type 0} (differ : X → X → Bool) (lengths : List ℤ) (segments : List ℕ) (start told : List (RunPart X)) (is : lengths_of lengths ≡ Ok segments)
    (are : AreRunPartsOf segments start) (memory : HaveMemory start) (before now : RunLayout) (room : List ℤ)
    (places : length before.layout.places ≡ length start + 1) (behinds : length before.behinds ≡ length start)
    (first : AllZip (TellsRuns differ (xs differ lengths segments start is are)) start told) where
  abbrev pub whole : List X
  whole = xs differ lengths segments start is are

  abbrev pub parts : List (List X × List (List X))
  parts = qs differ lengths segments start is are

  abbrev pub counts : List ℕ
  counts = ns differ lengths segments start is are memory told first

  abbrev pub all : RunLayout
  all = laid differ lengths segments start is are memory told first

  module _ (status : CvlStatus) (lays : LaysOutRuns (length whole) told (length room) status before now) where
    known : run_layout_by (length before.layout.places) (length before.behinds) (map (λ p. p.count) told) (map (λ p. p.begin) told) (places_of (length whole) told) ≡ Ok all
    known = laid-out differ lengths segments start is are memory told first (length before.layout.places) (length before.behinds) places behinds

    answered : Told (fits_room (length room) (layout_of counts)) status tt tt
    answered = subst (λ m. Told (runs_fitted (length room) m) status tt tt) known lays.0

    pub now-is : now ≡ all
    now-is = lays.1 ∙ ap (run_layout_or before) known

  many : (number : ℕ → ℕ → ℤ) → length (numbers_from number 0 (together parts).1) ≡ sum counts
  many number = length-numbers number 0 (together parts).1 ∙ counts-together parts

  pub too_short : (number : ℕ → ℕ → ℤ) (status : CvlStatus) → LaysOutRuns (length whole) told (length room) status before now → status ≢ done
      → FrontTold (by_segments lengths (seg_run_numbers_of number differ whole)) status (front_of room before.layout.total) (front_of room now.layout.total)
  too_short number status lays fails =
      let ks = numbers_from number 0 (together parts).1 in
      let total : now.layout.total ≡ sum counts = ap (λ (l : RunLayout). l.layout.total) (now-is status lays) in
      let told_all = answered status lays in
      ⊎_elim
      (λ (short : length room < sum counts).
      let none : Told (Err (fault no.LengthMismatch)) status tt tt =
      subst (λ b. Told (fault_if b (fault no.LengthMismatch) (Ok tt)) status tt tt) (lt-ltb (length room) (sum counts) short) told_all in
      let no_front : at_front room ks ≡ Err (fault no.LengthMismatch) =
      ap (λ b. fault_if b (fault no.LengthMismatch) (Ok (ks ++ drop (length ks) room))) (lt-ltb (length room) (length ks) (omega (arith, many number, short))) in
      let result : FrontTold (Ok ks) status (front_of room before.layout.total) (front_of room now.layout.total) =
      (subst (λ r. Told r status room room) (sym no_front) (none.0, refl), total ∙ sym (many number)) in
      subst (λ m. FrontTold m status (front_of room before.layout.total) (front_of room now.layout.total)) (sym (meaning differ lengths segments start is are number)) result)
      (λ (fit : sum counts ≤ length room).
      let ok : Told (Ok tt) status tt tt =
      subst (λ b. Told (fault_if b (fault no.LengthMismatch) (Ok tt)) status tt tt) (le-ltb (length room) (sum counts) fit) told_all in
      absurd (fails ok.0))
      (cases_lt (length room) (sum counts))

  module _ (placed end : List (RunPart X)) (after : List ℤ) (lays : LaysOutRuns (length whole) told (length room) done before now) (gets : AllZip RangesAlone told placed)
      (ranged : HaveRanges now.layout.places room placed) (know : KnowBehinds now.behinds placed) where
    there : sum counts ≤ length room
    there = has-room (length room) (layout_of counts) (answered done lays)

    total : now.layout.total ≡ sum counts
    total = ap (λ (l : RunLayout). l.layout.total) (now-is done lays)

    at_places : now.layout.places ≡ 0 ∷ ends 0 counts
    at_places =
        ap (λ (l : RunLayout). l.layout.places) (now-is done lays) ∙ ap (λ n. scan_of ◌+◌ 0 counts ++ n ∷ []) (omega arith) ∙ places-on 0 counts

    pub behinds-are : map (λ (p : RunPart X). p.behind) placed ≡ goes_on_behind parts
    behinds-are = know ∙ ap (λ (l : RunLayout). l.behinds) (now-is done lays)

    still : {Y : Type 0} (f : RunPart X → Y) → ((own left : RunPart X) → RangesAlone own left → f left ≡ f own) → map f placed ≡ map f told
    still f same = alike RangesAlone f f same told placed gets

    pub lengths-are-placed : map (λ (p : RunPart X). take p.count p.own) placed ≡ map (λ (q : List X × List (List X)). lengths_of_runs q.1) parts
    lengths-are-placed =
        still (λ (p : RunPart X). take p.count p.own) (λ own left does. ap (λ (p : RunPart X). take p.count p.own) does)
        ∙ lengths-told differ lengths segments start is are memory told first

    begins-placed : map (λ (p : RunPart X). p.begin) placed ≡ map (λ (p : RunPart X). p.begin) told
    begins-placed = still (λ (p : RunPart X). p.begin) (λ own left does. ap (λ (p : RunPart X). p.begin) does)

    rooms-long : map (λ (p : RunPart X). length p.part.room) placed ≡ map (λ (p : RunPart X). p.count) placed
    rooms-long =
        sym (map-map length (λ (p : RunPart X). p.part.room) placed) ∙ ap (map length) (ranged ∙ ap (λ ps. ranges_of ps room) at_places)
        ∙ length-ranges 0 counts room (omega (arith, there)) ∙ sym (counts-are differ lengths segments start is are memory told first)
        ∙ sym (still (λ (p : RunPart X). p.count) (λ own left does. ap (λ (p : RunPart X). p.count) does))

    record HasTold (p : RunPart X) : Type 0 where
      enough : p.count ≤ length p.own
      few : length p.own ≤ most_places
      begin : p.begin ≤ most_places

    told-each : All HasTold told
    told-each =
        keeps (TellsRuns differ whole) (Fits differ lengths segments start is are memory) HasTold
        (λ own left does fit.
        let t = tells differ lengths segments start is are memory own left does fit in
        record { enough = t.enough; few = t.few; begin = omega (arith, t.begin, fit.there, few-elements differ lengths segments start is are) })
        start told first (all-fit differ lengths segments start is are memory)

    placed-each : All HasTold placed
    placed-each =
        keeps RangesAlone HasTold HasTold
        (λ own left does t. subst HasTold (sym does) (record { enough = t.enough; few = t.few; begin = t.begin }))
        told placed gets told-each

    pub ready : All Ready placed
    ready =
        let rooms = each-alike (λ (p : RunPart X). length p.part.room) (λ (p : RunPart X). p.count) placed rooms-long in
        let few = behinds-few placed parts behinds-are (omega (arith, size-all differ lengths segments start is are, few-elements differ lengths segments start is are)) in
        λ k d lt. record {
          room = rooms k d lt;
          enough = (placed-each k d lt).enough;
          few = (placed-each k d lt).few;
          behind = few k d lt;
          begin = (placed-each k d lt).begin;
        }

    -- parts that put these lists have written the numbers of all runs
    pub written : (number : ℕ → ℕ → ℤ) (lists : List (List ℤ)) → joined lists ≡ numbers_from number 0 (together parts).1 → rooms_of end ≡ lists
        → HaveRanges now.layout.places after end → SameBehind now.layout room after
        → FrontTold (by_segments lengths (seg_run_numbers_of number differ whole)) done (front_of room before.layout.total) (front_of after now.layout.total)
    written number lists together_are ends_with left_ranged behind =
        let ks = numbers_from number 0 (together parts).1 in
        let front : take (sum counts) after ≡ ks =
        sym (joined-ranges 0 counts after) ∙ ap joined (sym (left_ranged ∙ ap (λ ps. ranges_of ps after) at_places) ∙ ends_with) ∙ together_are in
        let back : drop (sum counts) after ≡ drop (length ks) room =
        ap (λ n. drop n after) (sym total) ∙ behind ∙ ap (λ n. drop n room) (total ∙ sym (many number)) in
        let all_written : after ≡ ks ++ drop (length ks) room =
        sym (take-append-drop (sum counts) after) ∙ (λ i. front i ++ back i) in
        let fits : at_front room ks ≡ Ok (ks ++ drop (length ks) room) =
        ap (λ b. fault_if b (fault no.LengthMismatch) (Ok (ks ++ drop (length ks) room))) (le-ltb (length room) (length ks) (omega (arith, many number, there))) in
        let result : FrontTold (Ok ks) done (front_of room before.layout.total) (front_of after now.layout.total) =
        (subst (λ r. Told r done room after) (sym fits) (refl, all_written), total ∙ sym (many number)) in
        subst (λ m. FrontTold m done (front_of room before.layout.total) (front_of after now.layout.total)) (sym (meaning differ lengths segments start is are number)) result

    pub with_lengths : AllZip PutsLengths placed end → HaveRanges now.layout.places after end → SameBehind now.layout room after
        → FrontTold (by_segments lengths (seg_run_numbers_of its_length differ whole)) done (front_of room before.layout.total) (front_of after now.layout.total)
    with_lengths put =
        written its_length (map put_lengths placed)
        (ap joined (lengths-all placed parts lengths-are-placed behinds-are)
        ∙ sym (lengths-together parts (omega (arith, size-all differ lengths segments start is are, few-elements differ lengths segments start is are)))
        ∙ sym (lengths-are 0 (together parts).1))
        (alike_where PutsLengths Ready put_lengths (λ p. p.part.room) lengths-put placed end put ready)

    pub with_starts : AllZip PutsStarts placed end → HaveRanges now.layout.places after end → SameBehind now.layout room after
        → FrontTold (by_segments lengths (seg_run_numbers_of its_start differ whole)) done (front_of room before.layout.total) (front_of after now.layout.total)
    with_starts put =
        let none : (together parts).0 ≡ [] = ap (λ t. t.0) (all-runs differ lengths segments start is are) in
        written its_start (map put_starts placed)
        (ap joined (starts-all 0 placed parts (omega (arith, size-all differ lengths segments start is are, few-elements differ lengths segments start is are)) lengths-are-placed
        (begins-placed ∙ begins-told differ lengths segments start is are memory told first))
        ∙ sym (starts-together 0 parts) ∙ ap (λ n. numbers_from its_start n (together parts).1) (omega (arith, ap length none)))
        (alike_where PutsStarts Ready put_starts (λ p. p.part.room) starts-put placed end put ready)
