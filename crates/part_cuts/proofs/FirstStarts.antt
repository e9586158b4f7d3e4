-- A walk over the lengths of segments, up to the first segment that starts at a place or behind it.
use Rattle.std.proofs.Common.{◌≡◌, ◌∙◌, ◌+◌, ◌-◌, ◌<◌, ◌≤◌, ◌^◌, ℕ, zero, suc, ℤ, pos, List, [], ◌∷◌, drop, get_or, length, map, sum, take, refl, sym, ap, arith, subst, cond}
use Rattle.std.proofs.Common.{inl, inr}
use Rattle.std.proofs.lemmas.Bool.{cases_lt, le-ltb, lt-ltb}
use Rattle.std.proofs.lemmas.List.{at_drop_all, at_drop_more, drop-map, get_or-map, length-map}
use Rattle.std.proofs.lemmas.List.FromFn.{get_or-map-range_with_len}
use Rattle.std.proofs.lemmas.List.Sums.{sum_by-append, sum_by-cons, sum_by-take-drop, sum_by_more, sum_by_more_le}
use Rattle.std.proofs.Math.Seq.{take-add}
use Rattle.part_cuts.specs.Evenly.{even_place, even_places}
use Rattle.part_cuts.specs.Starts.{AreShareStarts, first_start, start_behind, start_of, starts_before}

-- of all segments, the first of which starts at the front
pub from_front : (place : ℕ) (ns : List ℕ) → start_behind place 0 ns ≡ (first_start place ns, start_of ns (first_start place ns))
from_front place ns = ap (λ n. (first_start place ns, n)) (omega arith)

-- segments that start before the place are counted
on : (place start x : ℕ) (ns : List ℕ) → start < place → starts_before place start (x ∷ ns) ≡ suc (starts_before place (start + x) ns)
on place start x ns before = ap (λ b. cond b (suc (starts_before place (start + x) ns)) 0) (lt-ltb start place before)

-- and no others
pub none_before : (place start : ℕ) (ns : List ℕ) → place ≤ start → starts_before place start ns ≡ 0
none_before place start [] behind = refl
none_before place start (x ∷ ns) behind = ap (λ b. cond b (suc (starts_before place (start + x) ns)) 0) (le-ltb start place behind)

pub starts_before-le : (place start : ℕ) (ns : List ℕ) → starts_before place start ns ≤ length ns
starts_before-le place start [] = omega arith
starts_before-le place start (x ∷ ns) =
    elim (cases_lt start place) [
      | inl before ↦ omega (arith, on place start x ns before, starts_before-le place (start + x) ns)
      | inr behind ↦ omega (arith, none_before place start (x ∷ ns) behind)
    ]

-- the first k segments start before the place, and the next one starts at `next`
pub record Walked (place start : ℕ) (ns : List ℕ) (k next : ℕ) : Type 0 where
  pub at : next ≡ start + sum (take k ns)
  pub before : starts_before place start ns ≡ k + starts_before place next (drop k ns)

pub walked_none : (place start : ℕ) (ns : List ℕ) → Walked place start ns 0 start
walked_none place start ns = record { at = omega arith; before = omega arith }

module _ (place start : ℕ) (ns : List ℕ) (k next : ℕ) (walked : Walked place start ns k next) where
  pub walked_more : (end : ℕ) → k < length ns → next < place → end ≡ next + get_or ns k 0 → Walked place start ns (k + 1) end
  walked_more end within before is =
      let step : starts_before place next (drop k ns) ≡ suc (starts_before place end (drop (k + 1) ns)) =
      at_drop_more (starts_before place next) ns k 0 within ∙ on place next (get_or ns k 0) (drop (k + 1) ns) before
      ∙ ap (λ e. suc (starts_before place e (drop (k + 1) ns))) (sym is) in
      record {
        at = omega (arith, walked.at, is, sum_by_more (λ x. x) ns k 0 within);
        before = omega (arith, walked.before, step);
      }

  -- where the segment after these ends is not behind the end of all
  pub walked_within : k < length ns → next + get_or ns k 0 ≤ start + sum ns
  walked_within within = omega (arith, walked.at, sum_by_more_le (λ x. x) ns k 0 within)

  -- how many of all start before the place, and where the next one starts: by those that are left
  pub walked_on : start_behind place start ns ≡ (k + (start_behind place next (drop k ns)).0, (start_behind place next (drop k ns)).1)
  walked_on =
      let left = starts_before place next (drop k ns) in
      let sums : sum (take (k + left) ns) ≡ sum (take k ns) + sum (take left (drop k ns)) =
      ap sum (take-add k left ns) ∙ sum_by-append (λ x. x) (take k ns) (take left (drop k ns)) in
      ap (λ n. (n, start + sum (take n ns))) walked.before
      ∙ ap (λ n. (k + left, n)) (omega (arith, walked.at, sums))

  -- no other one does
  pub walked_to_place : place ≤ next → (k, next) ≡ start_behind place start ns
  walked_to_place behind =
      let none : starts_before place start ns ≡ k = omega (arith, walked.before, none_before place next (drop k ns) behind) in
      ap (λ n. (k, n)) walked.at ∙ ap (λ n. (n, start + sum (take n ns))) (sym none)

  -- there is no other one
  pub walked_to_end : length ns ≤ k → (k, next) ≡ start_behind place start ns
  walked_to_end ended =
      let none : starts_before place start ns ≡ k = omega (arith, walked.before, at_drop_all (starts_before place next) ns k ended) in
      ap (λ n. (k, n)) walked.at ∙ ap (λ n. (n, start + sum (take n ns))) (sym none)

-- segments may be left out that start before one that starts before the place
pub walked_past : (place start : ℕ) (ns : List ℕ) (k : ℕ) → k ≤ length ns → (0 < k → start + sum (take k ns) < place) → Walked place start ns k (start + sum (take k ns))
walked_past place start ns zero within before = subst (λ n. Walked place start ns 0 n) (omega arith) (walked_none place start ns)
walked_past place start [] (suc k) within before = absurd (omega arith)
walked_past place start (x ∷ ns) (suc k) within before =
    let all : start + sum (take (suc k) (x ∷ ns)) ≡ (start + x) + sum (take k ns) = omega (arith, sum_by-cons (λ n. n) x (take k ns)) in
    let here : start < place = omega (arith, before (omega arith), all) in
    let others : Walked place (start + x) ns k ((start + x) + sum (take k ns)) = walked_past place (start + x) ns k (omega arith) (λ some. omega (arith, before (omega arith), all)) in
    record {
      at = refl;
      before = on place start x ns here ∙ ap suc others.before ∙ ap (λ n. suc (k + starts_before place n (drop k ns))) (sym all) ∙ omega arith;
    }

-- the first part begins at the front
first_place : (len parts : ℕ) → even_place len parts 0 ≡ 0
first_place len parts = omega arith

-- the number at a place is the length there
pub length_at : (numbers : List ℤ) (ns : List ℕ) (k : ℕ) → numbers ≡ map pos ns → k < length numbers → get_or numbers k (pos 0) ≡ pos (get_or ns k 0)
length_at numbers ns k are within = ap (λ l. get_or l k (pos 0)) are ∙ get_or-map pos ns k 0 (pos 0) (omega (arith, within, ap length are, length-map ns pos))

-- a share of the segments whose number is in range
module _ (numbers : List ℤ) (ns places : List ℕ) (share : ℕ) (are : AreShareStarts numbers ns places) (within : share + 1 < length places) where
  pub starts_share : get_or places share 0 ≡ start_of ns (even_place (length ns) (length places - 1) share)
  starts_share =
      let parts = length places - 1 in
      ap (λ l. get_or l share 0) are.starts
      ∙ get_or-map (start_of ns) (even_places (length ns) parts) share 0 0 (omega (arith, ap length are.starts, length-map (even_places (length ns) parts) (start_of ns), within))
      ∙ ap (start_of ns) (get_or-map-range_with_len (even_place (length ns) parts) 0 (parts + 1) share share 0 (omega (arith, within)) (omega arith))

  -- the segments before the share start before a place, if it is the first share or its first segment does
  pub walked_share : (place first parts : ℕ) → length places ≡ parts + 1 → first ≡ even_place (length numbers) parts share → first ≤ length numbers
      → (0 < share → get_or places share 0 < place) → Walked place 0 ns first (get_or places share 0)
  walked_share place first parts more is inside before =
      let long : length numbers ≡ length ns = ap length are.are_lengths ∙ length-map ns pos in
      let at : first ≡ even_place (length ns) (length places - 1) share =
      is ∙ ap (λ n. even_place n parts share) long ∙ ap (λ n. even_place (length ns) n share) (omega (arith, more)) in
      let starts : get_or places share 0 ≡ 0 + sum (take first ns) = starts_share ∙ ap (start_of ns) (sym at) ∙ omega arith in
      let some : 0 < first → 0 < share = λ positive. elim (cases_lt 0 share) [
        | inl lt ↦ lt
        | inr none ↦
            let same : share ≡ 0 = omega (arith, none) in
            absurd (omega (arith, positive, at, ap (even_place (length ns) (length places - 1)) same, first_place (length ns) (length places - 1)))
      ] in
      subst (λ n. Walked place 0 ns first n) (sym starts)
      (walked_past place 0 ns first (omega (arith, inside, long)) (λ positive. omega (arith, before (some positive), starts)))

-- the lengths from one on are those of the segments from it on
pub left_are : (numbers : List ℤ) (ns : List ℕ) (k : ℕ) → numbers ≡ map pos ns → drop k numbers ≡ map pos (drop k ns)
left_are numbers ns k are = ap (drop k) are ∙ drop-map pos k ns

-- and end within all places
pub left_fit : (place : ℕ) (ns : List ℕ) (k next : ℕ) → Walked place 0 ns k next → sum ns < 2 ^ 64 → next + sum (drop k ns) < 2 ^ 64
left_fit place ns k next walked fits = omega (arith, walked.at, sum_by-take-drop (λ n. n) ns k, fits)
