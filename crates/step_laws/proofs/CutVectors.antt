-- The vectors of a call, cut where the segments of its parts stand.
use Rattle.std.proofs.Common.{◌≡◌, ◌≢◌, ◌∙◌, ◌+◌, ◌<◌, ◌≤◌, ◌^◌, ℕ, ℤ, pos, true, false, List, length, map, sum, Result, Ok, Err, sym, ap, arith, subst}
use Rattle.std.proofs.Common.{eqb, unsigned_abs, ⊎_elim}
use mathlib.Core.List.{map-map}
use Rattle.std.proofs.lemmas.Bool.Decides.{eqb_tells}
use Rattle.std.proofs.lemmas.List.{length-map}
use Rattle.std.specs.List.{AllZip}
use Rattle.cvl_base.proofs.Nests.{nest-misfits}
use Rattle.cvl_base.specs.declared.fault.Fault.{Fault}
use Rattle.cvl_base.specs.declared.fault.FaultNo.TheVariants as no
use Rattle.cvl_base.specs.Faults.{fault}
use Rattle.cvl_base.specs.Limits.{most_places}
use Rattle.cvl_base.specs.Lists.{joined}
use Rattle.cvl_base.specs.Nests.{nest}
use Rattle.cvl_base.specs.Packs.{count_of}
use Rattle.flag_calls.specs.Flags.{flags_of}
use Rattle.part_cuts.proofs.Told.{length-places_of}
use Rattle.part_cuts.specs.Pairs.{added_places_of}
use Rattle.part_cuts.specs.Places.{exact_count_places_of, exact_places_of, places_of}
use Rattle.c_calls.specs.Calls.{by_segments, lengths_of}
use Rattle.c_calls.specs.Told.{RoomTold, done, status_of_fault}
use Rattle.c_calls.specs.declared.status.CvlStatus.{CvlStatus}
use Rattle.step_laws.proofs.Answered.{done_if_long, fills, is_given, past_limit}
use Rattle.step_laws.proofs.BySegments.{own-sizes, sizes, sum-parts, told-sizes}
use Rattle.step_laws.proofs.Counted.{counted-parts}
use Rattle.step_laws.proofs.CutPlaces.{both-fits, both-given, both-misfits, count-places, exact-fits, exact-given, exact-misfits, ranges-joined, ranges-long}
use Rattle.step_laws.proofs.Parted.{alike}
use Rattle.step_laws.specs.CountSteps.{Counts}
use Rattle.step_laws.specs.CutSteps.{IsCutBy}
use Rattle.step_laws.specs.LengthSteps.{Measures}
use Rattle.step_laws.specs.PackSteps.{ranges_of}
use Rattle.step_laws.specs.Parts.{Part, elements_of, told_of}

-- an answer that is given exactly if parts are together as long as a vector, and is not: they are not
not_as_long : {X : Type 0} (answer : Result (List X) Fault) (given before now : List X) (total len : ℕ) (status : CvlStatus) → length given ≡ length before
    → (total ≡ len → answer ≡ Ok given) → (total ≢ len → answer ≡ Err (fault no.LengthMismatch)) → RoomTold answer status before now → status ≢ done
    → (total ≢ len) × (status ≡ status_of_fault (fault no.LengthMismatch))
not_as_long answer given before now total len status long fits misfits told fails =
    ⊎_elim
    (λ (adds : (eqb total len ≡ true) × (total ≡ len)).
    absurd (fails (done_if_long given before now status long (subst (λ m. RoomTold m status before now) (fits adds.1) told))))
    (λ (differ : (eqb total len ≡ false) × (total ≢ len)).
    let none : RoomTold (Err (fault no.LengthMismatch)) status before now = subst (λ m. RoomTold m status before now) (misfits differ.1) told in
    (differ.1, none.0))
    (eqb_tells total len)

-- places that are not given are those of parts that are not as long together
misfit : (lengths : List ℕ) (len : ℕ) (status : CvlStatus) (before places : List ℕ) → length before ≡ length lengths + 1
    → RoomTold (exact_places_of lengths len) status before places → status ≢ done → (sum lengths ≢ len) × (status ≡ status_of_fault (fault no.LengthMismatch))
misfit lengths len status before places long told fails =
    not_as_long (exact_places_of lengths len) (places_of lengths) before places (sum lengths) len status (omega (arith, length-places_of lengths, long))
    (exact-fits lengths len) (exact-misfits lengths len) told fails

-- places of parts with these lengths cut a vector of as many elements
pub cut-by : {X : Type 0} (lengths places : List ℕ) (xs : List X) → sum lengths ≡ length xs → places ≡ places_of lengths → IsCutBy places lengths xs
cut-by lengths places xs total are = record {
  begin = are;
  together = ap (λ ps. joined (ranges_of ps xs)) are ∙ ranges-joined lengths xs total;
  long = ap (λ ps. map length (ranges_of ps xs)) are ∙ ranges-long lengths xs total;
}

module _ (start measured : List (Part ℤ ℕ ℤ)) (first : AllZip Measures start measured) where
  -- the lengths of each part, added up
  abbrev pub totals : List ℕ
  totals = map (λ (p : Part ℤ ℕ ℤ). sum (map unsigned_abs p.elements)) start

  pub told-totals : told_of measured ≡ totals
  told-totals =
      alike Measures (λ (p : Part ℤ ℕ ℤ). sum (map unsigned_abs p.elements)) (λ (p : Part ℤ ℕ ℤ). p.told)
      (λ own left does. told-sizes own.elements left.told (is_given (by_segments own.elements (λ lengths. Ok (sum lengths))) own.told left.told does.0)) start measured first

  pub cut-lengths : {X : Type 0} (xs : List X) (before places : List ℕ) → RoomTold (exact_places_of (told_of measured) (length xs)) done before places → IsCutBy places totals xs
  cut-lengths xs before places told =
      let given = (fills (exact_places_of (told_of measured) (length xs)) before places told).0 in
      let is = exact-given totals (length xs) places (sym (ap (λ ts. exact_places_of ts (length xs)) told-totals) ∙ given) in
      cut-by totals places xs is.0 is.1

  pub other-lengths : {X : Type 0} (xs : List X) (status : CvlStatus) (before places segments : List ℕ) → length before ≡ length start + 1 → lengths_of (elements_of start) ≡ Ok segments
      → RoomTold (exact_places_of (told_of measured) (length xs)) status before places → status ≢ done
      → (nest segments xs ≡ Err (fault no.LengthMismatch)) × (status ≡ status_of_fault (fault no.LengthMismatch))
  other-lengths xs status before places segments long are told fails =
      let cut : RoomTold (exact_places_of totals (length xs)) status before places =
      subst (λ ts. RoomTold (exact_places_of ts (length xs)) status before places) told-totals told in
      let whole : sum segments ≡ sum totals = ap sum (own-sizes (λ (p : Part ℤ ℕ ℤ). p.elements) start segments are) ∙ sum-parts (sizes (λ (p : Part ℤ ℕ ℤ). p.elements)) start in
      let many : length before ≡ length totals + 1 = omega (arith, length-map start (λ (p : Part ℤ ℕ ℤ). sum (map unsigned_abs p.elements)), long) in
      let differ = misfit totals (length xs) status before places many cut fails in
      (nest-misfits segments xs (λ same. differ.0 (sym whole ∙ same)), differ.1)

module _ (start counted : List (Part ℕ ℤ ℤ)) (first : AllZip Counts start counted) where
  -- the true flags of each part
  abbrev counts : List ℕ
  counts = map (λ (p : Part ℕ ℤ ℤ). count_of (flags_of p.elements)) start

  told-counts : told_of counted ≡ map pos counts
  told-counts =
      alike Counts (λ (p : Part ℕ ℤ ℤ). pos (count_of (flags_of p.elements))) (λ (p : Part ℕ ℤ ℤ). p.told)
      (λ own left does. sym (past_limit _ _ (pos (count_of (flags_of own.elements))) left.told (is_given _ own.told left.told does.0))) start counted first
      ∙ sym (map-map pos (λ (p : Part ℕ ℤ ℤ). count_of (flags_of p.elements)) start)

  pub cut-counts : {X : Type 0} (xs : List X) (before places : List ℕ) → RoomTold (exact_count_places_of (told_of counted) (length xs)) done before places → IsCutBy places counts xs
  cut-counts xs before places told =
      let given = (fills (exact_count_places_of (told_of counted) (length xs)) before places told).0 in
      let is = exact-given counts (length xs) places (sym (ap (λ ts. exact_count_places_of ts (length xs)) told-counts ∙ count-places counts (length xs)) ∙ given) in
      cut-by counts places xs is.0 is.1

  pub other-counts : {X : Type 0} (xs : List X) (status : CvlStatus) (before places : List ℕ) → length before ≡ length start + 1
      → RoomTold (exact_count_places_of (told_of counted) (length xs)) status before places → status ≢ done
      → (count_of (flags_of (elements_of start)) ≢ length xs) × (status ≡ status_of_fault (fault no.LengthMismatch))
  other-counts xs status before places long told fails =
      let cut : RoomTold (exact_places_of counts (length xs)) status before places =
      subst (λ m. RoomTold m status before places) (ap (λ ts. exact_count_places_of ts (length xs)) told-counts ∙ count-places counts (length xs)) told in
      let many : length before ≡ length counts + 1 = omega (arith, length-map start (λ (p : Part ℕ ℤ ℤ). count_of (flags_of p.elements)), long) in
      let differ = misfit counts (length xs) status before places many cut fails in
      let total : count_of (flags_of (elements_of start)) ≡ sum counts =
      counted-parts (map (λ (p : Part ℕ ℤ ℤ). p.elements) start) ∙ ap sum (map-map (λ bytes. count_of (flags_of bytes)) (λ (p : Part ℕ ℤ ℤ). p.elements) start) in
      (λ same. differ.0 (sym total ∙ same), differ.1)

module _ {P X : Type 0} (one other : P → ℕ) (parts : List P) where
  pub cut-both : (xs : List X) (before places : List ℕ) → RoomTold (added_places_of (places_of (map one parts)) (places_of (map other parts)) (length xs)) done before places
      → IsCutBy places (map (λ p. one p + other p) parts) xs
  cut-both xs before places told =
      let is = both-given one other parts (length xs) places
      (fills (added_places_of (places_of (map one parts)) (places_of (map other parts)) (length xs)) before places told).0 in
      cut-by (map (λ p. one p + other p) parts) places xs is.0 is.1

  pub other-both : (xs : List X) (status : CvlStatus) (before places : List ℕ) → length xs ≤ most_places → length before ≡ length parts + 1
      → RoomTold (added_places_of (places_of (map one parts)) (places_of (map other parts)) (length xs)) status before places → status ≢ done
      → (sum (map (λ p. one p + other p) parts) ≢ length xs) × (status ≡ status_of_fault (fault no.LengthMismatch))
  other-both xs status before places few long told fails =
      let sums = map (λ p. one p + other p) parts in
      let small : length xs < 2 ^ 64 = omega (arith, few) in
      not_as_long (added_places_of (places_of (map one parts)) (places_of (map other parts)) (length xs)) (places_of sums) before places (sum sums) (length xs) status
      (omega (arith, length-places_of sums, length-map parts (λ p. one p + other p), long))
      (both-fits one other parts (length xs) small) (both-misfits one other parts (length xs) small) told fails
