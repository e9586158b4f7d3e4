-- The parts of a range: what continues the segment before it, and the segments that start in it.
use Rattle.range_walks.proofs.Cited.{rules, ◌≡◌, ℕ, suc, zero, ◌-◌, ◌<◌, ◌≤◌, min, Bool, false, true, List, [], ◌∷◌, ◌++◌, refl, length, map, take, drop, sym, ap, ◌∙◌, arith, sum, if◌then◌else◌}
use Rattle.range_walks.proofs.Cited.{drop-map, drop_min, length-drop, length-take, map-append, take-map, take_min, between_is, sum-cons, start_of, continued, range_between, range_scan_of, started}
use Rattle.range_walks.proofs.Cited.{with_starts}
use Rattle.std.proofs.lemmas.Simd.{map-map}
use Rattle.range_walks.proofs.Cut.{begins_by, range_cut, starts_in_order}
use Rattle.range_walks.proofs.LastStart.{with_starts-none}
use Rattle.range_walks.proofs.Segments.{range_sum}

module _ {Item : Type 0} (join : Item → Item → Item) (unit : Item) where
  pub length-range_scan_of : (before : Item) (run : List (Bool × Item)) → length (range_scan_of join unit before run) ≡ length run
  length-range_scan_of before [] = refl
  length-range_scan_of before ((starts, x) ∷ run) = ap suc (length-range_scan_of (if starts then x else join before x) run)

-- the segments that start in the run have its elements from the first start on
pub segments_cover : (d : List ℕ) (from to first next start j others : ℕ) → from ≤ to → to ≤ sum d → first ≤ length d
    → ((s : ℕ) → s < first → start_of d s < from) → ((s : ℕ) → next ≤ s → s < length d → to ≤ start_of d s)
    → start ≡ start_of d first → j ≡ min start to - from → others ≡ (to - from) - j → others ≤ sum (take (next - first) (drop first d))
segments_cover d from to first next start j others in_order within le earlier later is_start is_j is_others = search (rules, starts_in_order, begins_by, range_sum)

-- segments that start after the elements' end change nothing
starts_cut : {Item : Type 0} (k : ℕ) (lengths : List ℕ) (xs : List Item) → length xs ≤ start_of lengths k → with_starts (take k lengths) xs ≡ with_starts lengths xs
starts_cut zero lengths [] covered = sym (with_starts-none lengths)
starts_cut zero lengths (x ∷ xs) covered = absurd (omega (arith, covered))
starts_cut (suc k) [] xs covered = refl
starts_cut (suc k) (n ∷ ls) xs covered = cc (starts_cut k ls (drop n xs) (omega (arith, covered, sum-cons n (take k ls), length-drop n xs)))

-- a range is what continues the segment before it, and then the segments that start in it
pub range_parted : {Item : Type 0} (d : List ℕ) (xs rest front others : List Item) (from to first next start j : ℕ)
    → sum d ≡ length xs → from ≤ to → to ≤ length xs → first ≤ length d
    → ((s : ℕ) → s < first → start_of d s < from) → ((s : ℕ) → first ≤ s → s < length d → from ≤ start_of d s)
    → length others ≤ sum (take (next - first) (drop first d))
    → rest ≡ take (to - from) (drop from xs) → start ≡ start_of d first → j ≡ min start to - from → front ≡ take j rest → others ≡ drop j rest
    → range_between d xs from to ≡ continued front ++ with_starts (take (next - first) (drop first d)) others
range_parted d xs rest front others from to first next start j total in_order within few earlier later covered is_rest is_start is_j is_front is_others =
    let begins : from ≤ start_of d first = begins_by d from first (omega (arith, in_order, within, total)) later in
    let m : ℕ = to - from in
    let k : ℕ = start_of d first - from in
    let same : drop from (take to xs) ≡ rest = sym (between_is xs from to) ∙ sym is_rest in
    let long : length rest ≡ m = ap length is_rest ∙ omega (arith, length-take m (drop from xs), length-drop from xs, within) in
    let split : min k (length rest) ≡ j = omega (arith, long, is_j, is_start, begins) in
    range_cut d (take to xs) from k first few (omega (arith, length-take to xs, in_order, within)) (omega (arith, begins)) earlier
    ∙ ap (λ ys. continued (take k ys) ++ with_starts (drop first d) (drop k ys)) same
    ∙ ap (λ ys. continued ys ++ with_starts (drop first d) (drop k rest)) (sym (take_min k rest) ∙ ap (λ i. take i rest) split ∙ sym is_front)
    ∙ ap (λ ys. continued front ++ with_starts (drop first d) ys) (sym (drop_min k rest) ∙ ap (λ i. drop i rest) split ∙ sym is_others)
    ∙ ap (λ zs. continued front ++ zs) (sym (starts_cut (next - first) (drop first d) others covered))

-- ---- elements that are read as items

module _ {X Item : Type 0} (item : X → Item) where
  abbrev read : Bool × X → Bool × Item
  read p = (p.0, item p.1)

  continued-map : (xs : List X) → continued (map item xs) ≡ map read (continued xs)
  continued-map xs = map-map (λ y. (false, y)) item xs ∙ sym (map-map read (λ x. (false, x)) xs)

  started-map : (xs : List X) → started (map item xs) ≡ map read (started xs)
  started-map [] = refl
  started-map (x ∷ xs) = ap (λ ys. (true, item x) ∷ ys) (continued-map xs)

  with_starts-map : (lengths : List ℕ) (xs : List X) → with_starts lengths (map item xs) ≡ map read (with_starts lengths xs)
  with_starts-map [] xs = refl
  with_starts-map (n ∷ ls) xs = search (rules, take-map, drop-map, started-map, map-append, with_starts-map ls (drop n xs))

  pub parts_read : (d lengths : List ℕ) (xs front others : List X) (from to : ℕ) → range_between d xs from to ≡ continued front ++ with_starts lengths others
      → range_between d (map item xs) from to ≡ continued (map item front) ++ with_starts lengths (map item others)
  parts_read d lengths xs front others from to is = search (rules, take-map, with_starts-map, drop-map, map-append, continued-map)
