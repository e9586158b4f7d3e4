-- Where the parts of a segmented vector begin and end, and which segments start in each.
use Rattle.std.proofs.Common.{◌≡◌, ◌∙◌, ◌+◌, ◌-◌, ◌<◌, ◌≤◌, ◌++◌, ℕ, zero, suc, if◌then◌else◌, List, [], ◌∷◌, length, sum, take, drop, slice_range, All}
use Rattle.std.proofs.Common.{refl, sym, ap, arith, subst, ⊎_elim, length-drop, length-take, take-add, take_all, take-take}
use Rattle.std.proofs.lemmas.Bool.{cases_lt, le-ltb, lt-ltb}
use Rattle.std.proofs.lemmas.List.Elements.{All-cons, All-nil}
use Rattle.std.proofs.lemmas.List.Folds.{drop_split}
use Rattle.std.proofs.lemmas.List.Sums.{sum_by-append, sum_by-take-le}
use Rattle.std.specs.List.{zip}
use Rattle.cvl_base.proofs.Lists.{sum-cons}
use Rattle.part_cuts.specs.Starts.{first_start, start_of, starts_before}
use Rattle.segment_parts.specs.Reduces.{but_last}
use Rattle.step_laws.specs.CutSegments.{AscendFrom, CutPart, CutIntoParts, between, cut_parts_of, firsts_of, head_of, lengths_of}

-- ---- lists

-- the sum of all lengths but the last
pub but_last-more : (l l2 : ℕ) (lengths : List ℕ) → sum (but_last (l ∷ l2 ∷ lengths)) ≡ l + sum (but_last (l2 ∷ lengths))
but_last-more l l2 lengths =
    let less : length (l ∷ l2 ∷ lengths) - 1 ≡ suc (length (l2 ∷ lengths) - 1) = omega arith in
    ap (λ k. sum (take k (l ∷ l2 ∷ lengths))) less ∙ sum-cons l (but_last (l2 ∷ lengths))

module _ {X : Type 0} (xs : List X) (from to : ℕ) where
  pub slice-rest : from ≤ to → slice_range xs from to ++ drop to xs ≡ drop from xs
  slice-rest le = sym (drop_split xs from to le)

  pub length-slice : to ≤ length xs → length (slice_range xs from to) ≡ to - from
  length-slice fits = omega (arith, length-take (to - from) (drop from xs), length-drop from xs, fits)

-- ---- the first segment that starts at a place or behind it

-- so many of some segments start before a place, if the first of them starts at `start`
record Found (place start : ℕ) (lengths : List ℕ) (k : ℕ) : Type 0 where
  pub within : k ≤ length lengths
  pub reached : place ≤ start + sum (take k lengths)
  pub before : (j : ℕ) → j < k → start + sum (take j lengths) < place

before-more : (place start l : ℕ) (lengths : List ℕ) (k : ℕ) → start < place → ((j : ℕ) → j < k → (start + l) + sum (take j lengths) < place)
    → (j : ℕ) → j < suc k → start + sum (take j (l ∷ lengths)) < place
before-more place start l lengths k lt before zero less = let none : sum (take zero (l ∷ lengths)) ≡ 0 = refl in omega (arith, lt, none)
before-more place start l lengths k lt before (suc j) less = omega (arith, before j (omega (arith, less)), sum-cons l (take j lengths))

starts-yes : (place start l : ℕ) (lengths : List ℕ) → start < place → starts_before place start (l ∷ lengths) ≡ suc (starts_before place (start + l) lengths)
starts-yes place start l lengths lt = ap (λ b. if b then suc (starts_before place (start + l) lengths) else 0) (lt-ltb start place lt)

starts-no : (place start l : ℕ) (lengths : List ℕ) → place ≤ start → starts_before place start (l ∷ lengths) ≡ 0
starts-no place start l lengths ge = ap (λ b. if b then suc (starts_before place (start + l) lengths) else 0) (le-ltb start place ge)

found : (place start : ℕ) (lengths : List ℕ) → place ≤ start + sum lengths → Found place start lengths (starts_before place start lengths)
found place start [] le = record { within = omega arith; reached = le; before = λ j less. absurd (omega (arith, less)) }
found place start (l ∷ lengths) le =
    ⊎_elim
    (λ (lt : start < place).
    let rest = found place (start + l) lengths (omega (arith, le, sum-cons l lengths)) in
    let k = starts_before place (start + l) lengths in
    subst (Found place start (l ∷ lengths)) (sym (starts-yes place start l lengths lt)) (record {
      within = omega (arith, rest.within);
      reached = omega (arith, rest.reached, sum-cons l (take k lengths));
      before = before-more place start l lengths k lt rest.before;
    }))
    (λ (ge : place ≤ start).
    let none : sum (take 0 (l ∷ lengths)) ≡ 0 = refl in
    subst (Found place start (l ∷ lengths)) (sym (starts-no place start l lengths ge)) (record {
      within = omega arith;
      reached = omega (arith, ge, none);
      before = λ j less. absurd (omega (arith, less));
    }))
    (cases_lt start place)

-- more segments start before a later place
starts-more : (from to start : ℕ) (lengths : List ℕ) → from ≤ to → starts_before from start lengths ≤ starts_before to start lengths
starts-more from to start [] le = omega arith
starts-more from to start (l ∷ lengths) le =
    ⊎_elim
    (λ (lt : start < from).
    omega (arith, starts-yes from start l lengths lt, starts-yes to start l lengths (omega (arith, lt, le)), starts-more from to (start + l) lengths le))
    (λ (ge : from ≤ start). omega (arith, starts-no from start l lengths ge))
    (cases_lt start from)

-- none starts before the first element
pub none-before : (lengths : List ℕ) → first_start 0 lengths ≡ 0
none-before [] = refl
none-before (l ∷ lengths) = refl

-- ---- where segments start

pub all-before : (lengths : List ℕ) → start_of lengths (length lengths) ≡ sum lengths
all-before lengths = ap sum (take_all (length lengths) lengths (omega arith))

module _ (lengths : List ℕ) (first next : ℕ) where
  pub start-on : first ≤ next → start_of lengths next ≡ start_of lengths first + sum (slice_range lengths first next)
  start-on le =
      let on : next ≡ first + (next - first) = omega (arith, le) in
      ap (start_of lengths) on ∙ ap sum (take-add first (next - first) lengths) ∙ sum_by-append (λ x. x) (take first lengths) (slice_range lengths first next)

module _ (lengths : List ℕ) (first next : ℕ) (some : first < next) (within : next ≤ length lengths) where
  pub but-last-slice : but_last (slice_range lengths first next) ≡ slice_range lengths first (next - 1)
  but-last-slice =
      let less : (next - first) - 1 ≡ (next - 1) - first = omega arith in
      ap (λ n. take (n - 1) (slice_range lengths first next)) (length-slice lengths first next within)
      ∙ take-take ((next - first) - 1) (next - first) (drop first lengths) (omega arith)
      ∙ ap (λ n. take n (drop first lengths)) less

  pub last-start : start_of lengths (next - 1) ≡ start_of lengths first + sum (but_last (slice_range lengths first next))
  last-start = start-on lengths first (next - 1) (omega (arith, some)) ∙ ap (λ ns. start_of lengths first + sum ns) (sym but-last-slice)

-- ---- boundaries

-- a segment is the first at a place or behind it, though empty ones before it may start at the place
pub record IsFirst (lengths : List ℕ) (place first : ℕ) : Type 0 where
  pub within : first ≤ length lengths
  pub reached : place ≤ start_of lengths first
  pub back : 0 < first → start_of lengths (first - 1) ≤ place
  pub before : 0 < first → place < start_of lengths first → start_of lengths (first - 1) < place

module _ (lengths : List ℕ) (place : ℕ) where
  first-is : place ≤ sum lengths → IsFirst lengths place (first_start place lengths)
  first-is le =
      let k = first_start place lengths in
      let f = found place 0 lengths (omega (arith, le)) in
      let before : 0 < k → start_of lengths (k - 1) < place = λ some. let b = f.before (k - 1) (omega (arith, some)) in omega (arith, b) in
      record {
        within = f.within;
        reached = omega (arith, f.reached);
        back = λ some. omega (arith, before some);
        before = λ some past. before some;
      }

  last-is : place ≡ sum lengths → IsFirst lengths place (length lengths)
  last-is end =
      let all = all-before lengths in
      record {
        within = omega arith;
        reached = omega (arith, all, end);
        back = λ some. omega (arith, sum_by-take-le (λ (n : ℕ). n) lengths (length lengths - 1), end);
        before = λ some past. absurd (omega (arith, all, end, past));
      }

-- what is known of a part
pub record Bounds (lengths : List ℕ) (len : ℕ) (c : CutPart) : Type 0 where
  pub some : c.from < c.to
  pub fits : c.to ≤ len
  pub begin : IsFirst lengths c.from c.first
  pub end : IsFirst lengths c.to c.next
  pub ascend : c.first ≤ c.next

-- a part from one boundary up to the next
abbrev pub cut : ℕ × ℕ → ℕ × ℕ → CutPart
cut begin end = record { from = begin.0; to = end.0; first = begin.1; next = end.1 }

-- this is known of each part from a boundary on, and behind the last one are no elements and no segments
abbrev pub Bounded : List ℕ → ℕ → ℕ × ℕ → List (ℕ × ℕ) → Type 0
Bounded lengths len b [] = (b.0 ≡ len) × (b.1 ≡ length lengths)
Bounded lengths len b (next ∷ others) = Bounds lengths len (cut b next) × Bounded lengths len next others

ascend-le : (from : ℕ) (places : List ℕ) (len : ℕ) → AscendFrom from places len → from ≤ len
ascend-le from [] len up = omega (arith, up)
ascend-le from (to ∷ places) len up = omega (arith, up.0, ascend-le to places len up.1)

module _ (lengths : List ℕ) (len : ℕ) (whole : sum lengths ≡ len) where
  bounded : (from to : ℕ) (places : List ℕ) → AscendFrom from (to ∷ places) len
      → Bounded lengths len (from, first_start from lengths) (zip (to ∷ places) (firsts_of lengths (to ∷ places)))
  bounded from to [] up =
      let begin = first-is lengths from (omega (arith, up.0, up.1, whole)) in (
        record {
          some = up.0;
          fits = omega (arith, up.1);
          begin = begin;
          end = last-is lengths to (up.1 ∙ sym whole);
          ascend = begin.within;
        },
        (up.1, refl),
      )
  bounded from to (next ∷ places) up =
      let few : to ≤ len = ascend-le to (next ∷ places) len up.1 in (
        record {
          some = up.0;
          fits = few;
          begin = first-is lengths from (omega (arith, up.0, few, whole));
          end = first-is lengths to (omega (arith, few, whole));
          ascend = starts-more from to 0 lengths (omega (arith, up.0));
        },
        bounded to next places up.1,
      )

  -- what follows from the bounds holds of the parts between places
  pub at-cuts : (Q : List CutPart → Type 0) → ((next : ℕ × ℕ) (others : List (ℕ × ℕ)) → Bounded lengths len (0, 0) (next ∷ others) → Q (between ((0, 0) ∷ next ∷ others)))
      → (places : List ℕ) → CutIntoParts places len → Q (cut_parts_of lengths places)
  at-cuts Q step [] cuts = absurd cuts
  at-cuts Q step (from ∷ []) cuts = absurd (omega (arith, cuts.0, cuts.1, cuts.2))
  at-cuts Q step (from ∷ to ∷ places) cuts =
      subst (λ n. Q (cut_parts_of lengths (n ∷ to ∷ places))) (sym cuts.0)
      (subst (λ f. Q (between ((0, f) ∷ zip (to ∷ places) (firsts_of lengths (to ∷ places))))) (sym (none-before lengths))
      (from-none places (subst (λ f. Bounded lengths len (0, f) (zip (to ∷ places) (firsts_of lengths (to ∷ places)))) (none-before lengths)
      (bounded 0 to places (subst (λ n. AscendFrom n (to ∷ places) len) cuts.0 cuts.2)))))
    where
      from-none : (places : List ℕ) → Bounded lengths len (0, 0) (zip (to ∷ places) (firsts_of lengths (to ∷ places)))
          → Q (between ((0, 0) ∷ zip (to ∷ places) (firsts_of lengths (to ∷ places))))
      from-none [] known = step (to, length lengths) [] known
      from-none (next ∷ places) known = step (to, first_start to lengths) (zip (next ∷ places) (firsts_of lengths (next ∷ places))) known

  pub each-cut : (b : ℕ × ℕ) (others : List (ℕ × ℕ)) → Bounded lengths len b others → All (Bounds lengths len) (between (b ∷ others))
  each-cut b [] known = All-nil (Bounds lengths len)
  each-cut b (next ∷ others) known = All-cons (Bounds lengths len) (cut b next) (between (next ∷ others)) known.0 (each-cut next others known.1)

-- ---- how many elements a part has of its head and of the segments that start in it

pub record Sizes (lengths : List ℕ) (c : CutPart) : Type 0 where
  pub lower : head_of lengths c + sum (but_last (lengths_of lengths c)) ≤ c.to - c.from
  pub upper : c.to - c.from ≤ head_of lengths c + sum (lengths_of lengths c)
  pub reach : c.first < c.next → c.from + (head_of lengths c + sum (lengths_of lengths c)) ≡ start_of lengths c.next
  pub last : c.first < c.next → c.from + (head_of lengths c + sum (but_last (lengths_of lengths c))) ≡ start_of lengths (c.next - 1)
  pub firsts : c.to - c.from < head_of lengths c + sum (lengths_of lengths c) → head_of lengths c + sum (but_last (lengths_of lengths c)) < c.to - c.from
  pub full : c.next ≤ c.first → head_of lengths c ≡ c.to - c.from

pub no-lengths : (lengths : List ℕ) (c : CutPart) → c.next ≤ c.first → lengths_of lengths c ≡ []
no-lengths lengths c none = let less : c.next - c.first ≡ 0 = omega (arith, none) in ap (λ n. take n (drop c.first lengths)) less

pub sizes : (lengths : List ℕ) (len : ℕ) (c : CutPart) → Bounds lengths len c → Sizes lengths c
sizes lengths len c b =
    ⊎_elim
    (λ (some : c.first < c.next).
    let all = start-on lengths c.first c.next b.ascend in
    let last = last-start lengths c.first c.next some b.end.within in
    let back = b.end.back (omega (arith, some)) in
    let reach : c.from + (head_of lengths c + sum (lengths_of lengths c)) ≡ start_of lengths c.next = omega (arith, b.begin.reached, all, last, back) in
    record {
      lower = omega (arith, b.begin.reached, last, back);
      upper = omega (arith, reach, b.end.reached);
      reach = λ starts. reach;
      last = λ starts. omega (arith, b.begin.reached, last, back);
      firsts = λ past.
          let before = b.end.before (omega (arith, some)) (omega (arith, past, reach, b.some)) in
          omega (arith, before, b.begin.reached, last);
      full = λ none. absurd (omega (arith, none, some));
    })
    (λ (none : c.next ≤ c.first).
    let same : c.next ≡ c.first = omega (arith, none, b.ascend) in
    let start : start_of lengths c.next ≡ start_of lengths c.first = ap (start_of lengths) same in
    let total : sum (lengths_of lengths c) ≡ 0 = ap sum (no-lengths lengths c none) in
    let total_less : sum (but_last (lengths_of lengths c)) ≡ 0 = ap (λ ns. sum (but_last ns)) (no-lengths lengths c none) in
    let full : head_of lengths c ≡ c.to - c.from = omega (arith, start, b.end.reached) in
    record {
      lower = omega (arith, full, total_less);
      upper = omega (arith, full);
      reach = λ starts. absurd (omega (arith, starts, none));
      last = λ starts. absurd (omega (arith, starts, none));
      firsts = λ past. absurd (omega (arith, past, full, total));
      full = λ same. full;
    })
    (cases_lt c.first c.next)
