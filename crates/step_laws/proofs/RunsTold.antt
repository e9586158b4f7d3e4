-- What the parts of a call on runs tell, and where their runs go.
use Rattle.std.proofs.Common.{◌≡◌, ◌++◌, ◌+◌, ◌-◌, ◌≤◌, ◌∙◌, ◌||◌, ◌&&◌, ◌==◌, not, ℕ, suc, ℤ, pos, Bool, Option, None, List, [], ◌∷◌, length, map, take, drop, sum}
use Rattle.std.proofs.Common.{zip, All, Ok, refl, sym, ap, arith, subst}
use Rattle.std.proofs.Common.{length-append, take_at, length-drop}
use mathlib.Core.List.{map-map}
use Rattle.std.proofs.lemmas.Bool.{eq-eqb, le-ltb}
use Rattle.std.proofs.lemmas.List.{length-map}
use Rattle.std.proofs.lemmas.List.Elements.{All-cons, All-head, All-nil, All-tail}
use Rattle.std.specs.List.{AllZip}
use Rattle.c_calls.specs.Calls.{by_segments, lengths_of}
use Rattle.c_calls.specs.Told.{FrontTold, Told, front_of}
use Rattle.call_laws.specs.OverRanks.{together}
use Rattle.cvl_base.proofs.Lists.{sum-cons}
use Rattle.cvl_base.proofs.Nests.{lengths-cut}
use Rattle.cvl_base.specs.declared.fault.FaultNo.TheVariants as no
use Rattle.cvl_base.specs.Faults.{fault}
use Rattle.cvl_base.specs.Gives.{◌>>=◌, fault_if}
use Rattle.cvl_base.specs.Limits.{most_places}
use Rattle.cvl_base.specs.Lists.{joined}
use Rattle.part_records.specs.Places.{layout_of}
use Rattle.run_lengths.specs.Runs.{numbers_from, runs_in, seg_run_numbers_of}
use Rattle.run_parts.specs.Calls.{part_runs_by}
use Rattle.run_parts.specs.Places.{RunLayout, last_or, run_behinds, run_layout_by, run_layout_of}
use Rattle.run_parts.specs.Runs.{begin_or, lengths_of_runs, part_runs_of, run_lengths_of}
use Rattle.segment_parts.specs.Reduces.{is_part}
use Rattle.step_laws.proofs.Answered.{within}
use Rattle.step_laws.proofs.Packed.{ends}
use Rattle.step_laws.proofs.Parted.{alike, alike_where, some-fewer}
use Rattle.step_laws.proofs.RunCuts.{IsPart, elements-are, go_on, own_runs, runs-told}
use Rattle.step_laws.proofs.RunNumbers.{HaveElements, begins_by_parts, behinds-together, goes_on_behind, last-ends, size_of, size_of_all, zipped-ends}
use Rattle.step_laws.proofs.RunsTogether.{most-part, parted, run_part, runs_on, size-part, some-part, together-runs, last_of}
use Rattle.step_laws.proofs.SegmentLengths.{are_lengths, few-of, nested, some-less}
use Rattle.step_laws.specs.ReduceParts.{ReducePart, elements_of, segments_in}
use Rattle.step_laws.specs.RunParts.{AreAt, AreRunPartsOf, HaveMemory, RunPart, parts_of, places_of}
use Rattle.step_laws.specs.RunSteps.{TellsRuns}

length-ends : (place : ℕ) (sizes : List ℕ) → length (ends place sizes) ≡ length sizes
length-ends place [] = refl
length-ends place (n ∷ sizes) = ap suc (length-ends (place + n) sizes)

module _ {X : Type 0} where
  pub from-parts : (P : ReducePart X ℤ → Type 0) (parts : List (RunPart X)) → All P (parts_of parts) → All (λ p. P p.part) parts
  from-parts P [] holds = All-nil (λ (p : RunPart X). P p.part)
  from-parts P (p ∷ parts) holds =
      All-cons (λ (q : RunPart X). P q.part) p parts (All-head P p.part (parts_of parts) holds) (from-parts P parts (All-tail P p.part (parts_of parts) holds))

  places-fit : (place : ℕ) (parts : List (RunPart X)) → AreAt place parts → All (λ p. p.from + length p.part.elements ≤ place + length (elements_of (parts_of parts))) parts
  places-fit place [] at = All-nil (λ (p : RunPart X). p.from + length p.part.elements ≤ place + 0)
  places-fit place (p ∷ parts) at =
      let els = p.part.elements in let rest = elements_of (parts_of parts) in
      let most : (place + length els) + length rest ≡ place + length (els ++ rest) = omega (arith, length-append els rest) in
      All-cons (λ (q : RunPart X). q.from + length q.part.elements ≤ place + length (els ++ rest)) p parts (omega (arith, at.0, length-append els rest))
      (subst (λ m. All (λ (q : RunPart X). q.from + length q.part.elements ≤ m) parts) most (places-fit (place + length els) parts at.1))

  -- the places of parts are where their sizes end
  places-are : (place whole : ℕ) (parts : List (RunPart X)) → AreAt place parts → whole ≡ place + length (elements_of (parts_of parts))
      → places_of whole parts ≡ place ∷ ends place (map (λ p. length p.part.elements) parts)
  places-are place whole [] at is = let here : whole ≡ place = omega (arith, is) in ap (λ w. w ∷ []) here
  places-are place whole (p ∷ parts) at is =
      let n = length p.part.elements in let rest = elements_of (parts_of parts) in
      (λ i. at.0 i ∷ places-are (place + n) whole parts at.1 (omega (arith, is, length-append p.part.elements rest)) i)

  -- where the first runs begin that parts have, if they have these runs and sizes
  begins-are : (runs_in_part : RunPart X → List (List X)) (place : ℕ) (parts : List (RunPart X)) (qs : List (List X × List (List X))) → AreAt place parts
      → map runs_in_part parts ≡ map (λ q. q.1) qs → map (λ p. length p.part.elements) parts ≡ map size_of qs
      → map (λ p. p.from + length p.part.elements - length (joined (runs_in_part p))) parts ≡ begins_by_parts place qs
  begins-are own place [] [] at runs sizes = refl
  begins-are own place [] (q ∷ qs) at runs sizes = absurd (cc)
  begins-are own place (p ∷ parts) [] at runs sizes = absurd (cc)
  begins-are own place (p ∷ parts) (q ∷ qs) at runs sizes =
      let listed : own p ∷ map own parts ≡ q.1 ∷ map (λ (r : List X × List (List X)). r.1) qs = runs in
      let first : own p ≡ q.1 = cc in
      let others : map own parts ≡ map (λ (r : List X × List (List X)). r.1) qs = cc in
      let sized : length p.part.elements ∷ map (λ (r : RunPart X). length r.part.elements) parts ≡ size_of q ∷ map size_of qs = sizes in
      let long : length p.part.elements ≡ size_of q = cc in
      let rest : map (λ (r : RunPart X). length r.part.elements) parts ≡ map size_of qs = cc in
      (λ i. (at.0 i + long i - length (joined (first i))) ∷ begins-are own (place + size_of q) parts qs (subst (λ n. AreAt (place + n) parts) long at.1) others rest i)

  length-begins : (place : ℕ) (qs : List (List X × List (List X))) → length (begins_by_parts place qs) ≡ length qs
  length-begins place [] = refl
  length-begins place (q ∷ qs) = ap suc (length-begins (place + size_of q) qs)

  joined-size : (parts : List (RunPart X)) → length (elements_of (parts_of parts)) ≡ sum (map (λ p. length p.part.elements) parts)
  joined-size [] = refl
  joined-size (p ∷ parts) =
      length-append p.part.elements (elements_of (parts_of parts)) ∙ ap (λ n. length p.part.elements + n) (joined-size parts)
      ∙ sym (sum-cons (length p.part.elements) (map (λ (q : RunPart X). length q.part.elements) parts))

  module _ (differ : X → X → Bool) where
    sizes-on : (front : Option X) (parts : List (RunPart X)) → All IsPart (parts_of parts)
        → map size_of (runs_on differ front (map segments_in (parts_of parts))) ≡ map (λ p. length p.part.elements) parts
    sizes-on front [] each = refl
    sizes-on front (p ∷ parts) each =
        let s = segments_in p.part in
        let own = size-part differ front s ∙ ap length (elements-are p.part (All-head IsPart p.part (parts_of parts) each)) in
        (λ i. own i ∷ sizes-on (last_of front (s.0 ++ joined s.1)) parts (All-tail IsPart p.part (parts_of parts) each) i)

    have-on : (front : Option X) (ps : List (List X × List (List X))) → HaveElements (runs_on differ front ps)
    have-on front [] = tt
    have-on front (p ∷ ps) = (some-part differ front p, have-on (last_of front (p.0 ++ joined p.1)) ps)

    fewer-on : (front : Option X) (parts : List (RunPart X)) → All IsPart (parts_of parts)
        → sum (map (λ q. length q.1) (runs_on differ front (map segments_in (parts_of parts)))) ≤ length (elements_of (parts_of parts))
    fewer-on front [] each = omega arith
    fewer-on front (p ∷ parts) each =
        let s = segments_in p.part in
        let next = last_of front (s.0 ++ joined s.1) in
        omega (
          arith,
          most-part differ front s,
          ap length (elements-are p.part (All-head IsPart p.part (parts_of parts) each)),
          fewer-on next parts (All-tail IsPart p.part (parts_of parts) each),
          length-append p.part.elements (elements_of (parts_of parts)),
          sum-cons (length (run_part differ front s).1) (map (λ (q : List X × List (List X)). length q.1) (runs_on differ next (map segments_in (parts_of parts)))),
        )

-- ---- the steps of one call

-- what a part told
pub record Tells {X : Type 0} (runs : List (List X)) (own left : RunPart X) : Type 0 where
  pub count : left.count ≡ length runs
  pub begin : left.begin ≡ own.from + length own.part.elements - length (joined runs)
  pub lengths : take left.count left.own ≡ lengths_of_runs runs
  pub enough : left.count ≤ length left.own
  pub few : length left.own ≤ most_places
  pub alone : left ≡ record own { own = left.own; begin = left.begin; count = left.count }

module _ {X : Type 0} (differ : X → X → Bool) (lengths : List ℤ) (segments : List ℕ) (start : List (RunPart X)) (is : lengths_of lengths ≡ Ok segments)
    (are : AreRunPartsOf segments start) where
  abbrev pub xs : List X
  xs = elements_of (parts_of start)

  abbrev pub ps : List (List X × List (List X))
  ps = map segments_in (parts_of start)

  -- each part's runs, behind the elements that go on runs before it
  abbrev pub qs : List (List X × List (List X))
  qs = runs_on differ None ps

  total : sum segments ≡ length xs
  total = (nested segments xs are.cut.whole.0 are.cut.whole.1).0

  pub few-elements : length xs ≤ most_places
  few-elements = omega (arith, total, (few-of lengths segments is).1)

  pub all-runs : together qs ≡ ([], runs_in differ are.cut.whole.0)
  all-runs =
      let cuts = (nested segments xs are.cut.whole.0 are.cut.whole.1).1 in
      let same : map length (together ps).1 ≡ joined (map (λ (p : ReducePart X ℤ). p.lengths) (parts_of start)) =
      ap (map length) (ap (λ t. t.1) are.cut.whole.2 ∙ cuts) ∙ lengths-cut segments xs (omega (arith, total)) ∙ are.cut.in_order in
      together-runs differ None ps (go_on (parts_of start) are.cut.each are.firsts same)
      ∙ ap (λ (t : List X × List (List X)). ((parted differ None t.0).0, (parted differ None t.0).1 ++ runs_in differ t.1)) are.cut.whole.2

  pub own-are : map (own_runs differ xs) start ≡ map (λ q. q.1) qs
  own-are = runs-told differ xs [] start refl are.at are.cut.each

  pub sizes-are : map size_of qs ≡ map (λ p. length p.part.elements) start
  sizes-are = sizes-on differ None start are.cut.each

  pub size-all : size_of_all qs ≡ length xs
  size-all = ap sum sizes-are ∙ sym (joined-size start)

  pub have : HaveElements qs
  have = have-on differ None ps

  pub meaning : (number : ℕ → ℕ → ℤ) → by_segments lengths (seg_run_numbers_of number differ xs) ≡ Ok (numbers_from number 0 (together qs).1)
  meaning number =
      ap (λ r. r >>= seg_run_numbers_of number differ xs) is
      ∙ ap (λ r. r >>= λ lists. Ok (numbers_from number 0 (runs_in differ lists))) are.cut.whole.1
      ∙ ap (λ (t : List X × List (List X)). Ok (numbers_from number 0 t.1)) (sym all-runs)

  -- a part's runs are no more than its elements
  fewer-own : All (λ p. length (own_runs differ xs p) ≤ length p.part.elements) start
  fewer-own = fewer start None own-are are.cut.each
    where
      fewer : (parts : List (RunPart X)) (front : Option X) → map (own_runs differ xs) parts ≡ map (λ q. q.1) (runs_on differ front (map segments_in (parts_of parts))) → All IsPart (parts_of parts)
          → All (λ p. length (own_runs differ xs p) ≤ length p.part.elements) parts
      fewer [] front same each = All-nil (λ (p : RunPart X). length (own_runs differ xs p) ≤ length p.part.elements)
      fewer (p ∷ parts) front same each =
          let s = segments_in p.part in
          let next = last_of front (s.0 ++ joined s.1) in
          let listed : own_runs differ xs p ∷ map (own_runs differ xs) parts
          ≡ (run_part differ front s).1 ∷ map (λ (q : List X × List (List X)). q.1) (runs_on differ next (map segments_in (parts_of parts))) = same in
          let first : own_runs differ xs p ≡ (run_part differ front s).1 = cc in
          let others : map (own_runs differ xs) parts ≡ map (λ (q : List X × List (List X)). q.1) (runs_on differ next (map segments_in (parts_of parts))) = cc in
          All-cons (λ (q : RunPart X). length (own_runs differ xs q) ≤ length q.part.elements) p parts
          (omega (arith, ap length first, most-part differ front s, ap length (elements-are p.part (All-head IsPart p.part (parts_of parts) each))))
          (fewer parts next others (All-tail IsPart p.part (parts_of parts) each))

  module _ (memory : HaveMemory start) where
    pub record Fits (p : RunPart X) : Type 0 where
      pub there : p.from + length p.part.elements ≤ length xs
      pub part : IsPart p.part
      pub own_memory : length p.own ≡ length p.part.elements
      pub few_lengths : length p.part.lengths ≤ most_places
      pub small : sum p.part.lengths ≤ most_places
      pub fewer : length (own_runs differ xs p) ≤ length p.part.elements

    pub all-fit : All Fits start
    all-fit =
        let few = few-of lengths segments is in
        let there = places-fit 0 start are.at in
        let each = from-parts IsPart start are.cut.each in
        let shorter = from-parts (λ r. length r.lengths ≤ most_places) start
        (some-fewer (λ (r : ReducePart X ℤ). r.lengths) most_places (parts_of start) (subst (λ ns. length ns ≤ most_places) are.cut.in_order few.0)) in
        let less = from-parts (λ r. sum r.lengths ≤ most_places) start
        (some-less (λ (r : ReducePart X ℤ). r.lengths) most_places (parts_of start) (subst (λ ns. sum ns ≤ most_places) are.cut.in_order few.1)) in
        λ k d lt. record {
          there = omega (arith, there k d lt);
          part = each k d lt;
          own_memory = memory k d lt;
          few_lengths = shorter k d lt;
          small = less k d lt;
          fewer = fewer-own k d lt;
        }

    pub tells : (own left : RunPart X) → TellsRuns differ xs own left → Fits own → Tells (own_runs differ xs own) own left
    tells own left does fit =
        let n = length own.part.elements in
        let runs = own_runs differ xs own in
        let ls = lengths_of_runs runs in
        let head = own.part.head in
        let call = λ (ns : List ℕ). part_runs_of differ own.from (length own.own) head ns xs in
        let is_runs : part_runs_by differ own.from (length own.own) head (map pos own.part.lengths) xs ≡ Ok runs =
        within xs (by_segments (map pos own.part.lengths) call) few-elements
        ∙ ap (λ r. r >>= call) (are_lengths own.part.lengths fit.few_lengths fit.small)
        ∙ ap (λ m. part_runs_of differ own.from m head own.part.lengths xs) fit.own_memory
        ∙ ap (λ b. fault_if (b || not (is_part head own.part.lengths n)) (fault no.LengthMismatch) (Ok runs)) (le-ltb (length xs) (own.from + n) fit.there)
        ∙ ap (λ b. fault_if (not b) (fault no.LengthMismatch) (Ok runs)) fit.part in
        let told : FrontTold (Ok ls) does.0.0 (front_of own.own own.count) (front_of left.own left.count) =
        subst (λ m. FrontTold (run_lengths_of m) does.0.0 (front_of own.own own.count) (front_of left.own left.count)) is_runs does.0.1 in
        let long : length ls ≡ length runs = length-map runs (λ (run : List X). pos (length run)) in
        let room : length ls ≤ length own.own = omega (arith, long, fit.fewer, fit.own_memory) in
        let full : Told (Ok (ls ++ drop (length ls) own.own)) does.0.0 own.own left.own =
        subst (λ m. Told m does.0.0 own.own left.own)
        (ap (λ b. fault_if b (fault no.LengthMismatch) (Ok (ls ++ drop (length ls) own.own))) (le-ltb (length own.own) (length ls) room)) told.0 in
        let count : left.count ≡ length runs = told.1 ∙ long in
        let whole : length left.own ≡ length own.own =
        omega (arith, ap length full.1, length-append ls (drop (length ls) own.own), length-drop (length ls) own.own, room) in
        record {
          count = count;
          begin = does.1 ∙ ap (begin_or own.begin (own.from + length own.own)) is_runs ∙ ap (λ m. own.from + m - length (joined runs)) fit.own_memory;
          lengths = (λ i. take (told.1 i) (full.1 i)) ∙ take_at ls (drop (length ls) own.own) (length ls) refl;
          enough = omega (arith, count, long, room, whole);
          few = omega (arith, whole, fit.own_memory, fit.there, few-elements);
          alone = does.2;
        }

    -- ---- what all of them told

    module _ (told : List (RunPart X)) (first : AllZip (TellsRuns differ xs) start told) where
      pub counts-are : map (λ p. p.count) told ≡ map (λ q. length q.1) qs
      counts-are =
          alike_where (TellsRuns differ xs) Fits (λ p. length (own_runs differ xs p)) (λ p. p.count) (λ own left does fit. (tells own left does fit).count) start told first all-fit
          ∙ sym (map-map length (own_runs differ xs) start) ∙ ap (map length) own-are ∙ map-map length (λ (q : List X × List (List X)). q.1) qs

      pub begins-told : map (λ p. p.begin) told ≡ begins_by_parts 0 qs
      begins-told =
          alike_where (TellsRuns differ xs) Fits (λ p. p.from + length p.part.elements - length (joined (own_runs differ xs p))) (λ p. p.begin)
          (λ own left does fit. (tells own left does fit).begin) start told first all-fit
          ∙ begins-are (own_runs differ xs) 0 start qs are.at own-are (sym sizes-are)

      pub lengths-told : map (λ p. take p.count p.own) told ≡ map (λ q. lengths_of_runs q.1) qs
      lengths-told =
          alike_where (TellsRuns differ xs) Fits (λ p. lengths_of_runs (own_runs differ xs p)) (λ p. take p.count p.own) (λ own left does fit. (tells own left does fit).lengths)
          start told first all-fit
          ∙ sym (map-map lengths_of_runs (own_runs differ xs) start) ∙ ap (map lengths_of_runs) own-are ∙ map-map lengths_of_runs (λ (q : List X × List (List X)). q.1) qs

      places-told : places_of (length xs) told ≡ 0 ∷ ends 0 (map size_of qs)
      places-told =
          ap (λ fs. fs ++ length xs ∷ [])
          (alike (TellsRuns differ xs) (λ p. p.from) (λ p. p.from) (λ own left does. ap (λ (p : RunPart X). p.from) does.2) start told first)
          ∙ places-are 0 (length xs) start are.at (omega arith) ∙ ap (λ ns. 0 ∷ ends 0 ns) (sym sizes-are)

      abbrev pub ns : List ℕ
      ns = map (λ q. length q.1) qs

      pub few-runs : sum ns ≤ length xs
      few-runs = fewer-on differ None start are.cut.each

      as-many : length qs ≡ length start
      as-many = sym (length-map qs size_of) ∙ ap length sizes-are ∙ length-map start (λ (p : RunPart X). length p.part.elements)

      -- where the runs of each part go, and what goes on behind each part
      abbrev pub laid : RunLayout
      laid = record { layout = layout_of ns; behinds = goes_on_behind qs }

      pub laid-out : (places behinds : ℕ) → places ≡ length start + 1 → behinds ≡ length start
          → run_layout_by places behinds (map (λ p. p.count) told) (map (λ p. p.begin) told) (places_of (length xs) told) ≡ Ok laid
      laid-out places behinds long also =
          let begins = begins_by_parts 0 qs in let sizes = map size_of qs in let from = 0 ∷ ends 0 sizes in
          let many : length ns ≡ length qs = length-map qs (λ (q : List X × List (List X)). length q.1) in
          let sized : length sizes ≡ length qs = length-map qs size_of in
          let one = eq-eqb (length begins) (length ns) (length-begins 0 qs ∙ sym many) in
          let two = eq-eqb (length from) (length ns + 1) (omega (arith, length-ends 0 sizes, many, sized)) in
          let three = eq-eqb places (length ns + 1) (omega (arith, long, many, as-many)) in
          let four = eq-eqb behinds (length ns) (omega (arith, also, many, as-many)) in
          let all = run_layout_of ns begins from in
          let go : run_behinds (last_or 0 from) (zip begins (drop 1 from)) ≡ goes_on_behind qs =
          (λ i. run_behinds (last-ends 0 sizes i) (zipped-ends 0 qs i)) ∙ behinds-together 0 qs have in
          (λ i. run_layout_by places behinds (counts-are i) (begins-told i) (places-told i))
          ∙ ap (λ b. fault_if b (fault no.TooLong) (fault_if (not (length begins == length ns && (length from == length ns + 1)
          && (places == length ns + 1) && (behinds == length ns))) (fault no.LengthMismatch) (Ok all)))
          (le-ltb most_places (sum ns) (omega (arith, few-runs, few-elements)))
          ∙ (λ i. fault_if (not (one i && two i && three i && four i)) (fault no.LengthMismatch) (Ok all))
          ∙ ap (λ bs. Ok (record { layout = layout_of ns; behinds = bs })) go
