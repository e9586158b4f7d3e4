-- What the elements of a run join to since the last start in it.
use Rattle.range_walks.proofs.Cited.{rules, common_steps, ◌≡◌, ℕ, ◌+◌, ◌-◌, ◌<◌, ◌≤◌, Bool, false, true, List, [], ◌∷◌, ◌++◌, length, take, drop, get_or, slice_range, refl, sym, ap, ◌∙◌, arith}
use Rattle.range_walks.proofs.Cited.{append-nil, sum, AllPass, flat_map-append, length-take, length-drop, length-append, take_all, drop_all, drop_more, drop-append-le, between_is, All-head}
use Rattle.range_walks.proofs.Cited.{All-take, All-drop, fold-append, sum_by_more, fold_of, MonoidLaws, start_of, sum-cons, cut_of, continued, started, with_starts, range_between}
use Rattle.cvl_base.specs.Booleans.{either}
use Rattle.cvl_base.specs.SegmentMonoid.{seg_join}
use Rattle.range_walks.proofs.Cut.{begins_by, length-started, range_cut}
use Rattle.range_walks.proofs.Segments.{cut_parted}

module _ {Item : Type 0} where
  pub with_starts-none : (lengths : List ℕ) → with_starts {Item = Item} lengths [] ≡ []
  with_starts-none [] = refl
  with_starts-none (n ∷ ls) =
      (λ i. started (take_all n [] (omega arith) i) ++ with_starts ls (drop_all n [] (omega arith) i)) ∙ with_starts-none ls

  -- a vector is its segments before s and those from s on
  pub split_at_start : (lengths : List ℕ) (xs : List Item) (s : ℕ)
      → with_starts lengths xs ≡ with_starts (take s lengths) (take (start_of lengths s) xs) ++ with_starts (drop s lengths) (drop (start_of lengths s) xs)
  split_at_start lengths xs s =
      cc (cut_parted s lengths xs, flat_map-append started (cut_of (take s lengths) (take (start_of lengths s) xs)) (cut_of (drop s lengths) (drop (start_of lengths s) xs)))

  pub length-with_starts : (lengths : List ℕ) (xs : List Item) → length xs ≤ sum lengths → length (with_starts lengths xs) ≡ length xs
  length-with_starts [] xs covered = omega (arith, covered)
  length-with_starts (n ∷ ls) xs covered =
      search (rules, length-append, length-started, length-take, length-drop, sum-cons, length-with_starts ls (drop n xs) (omega (arith, covered, sum-cons n ls, length-drop n xs)))

  -- a run at whose elements no segment starts: those before `first` start before it, and the others behind it
  pub range_continued : (lengths : List ℕ) (xs : List Item) (from to first : ℕ) → from ≤ to → to ≤ length xs → first ≤ length lengths → to ≤ start_of lengths first
      → ((s : ℕ) → s < first → start_of lengths s < from) → range_between lengths xs from to ≡ continued (slice_range xs from to)
  range_continued lengths xs from to first in_order within le past earlier =
      let k : ℕ = start_of lengths first - from in
      let ys = drop from (take to xs) in
      let few : length ys ≤ k = omega (arith, length-drop from (take to xs), length-take to xs, past) in
      range_cut lengths (take to xs) from k first le (omega (arith, length-take to xs)) (omega (arith, in_order, past)) earlier
      ∙ (λ i. continued (take_all k ys few i) ++ with_starts (drop first lengths) (drop_all k ys few i))
      ∙ ap (λ zs. continued ys ++ zs) (with_starts-none (drop first lengths))
      ∙ append-nil (continued ys)
      ∙ ap continued (sym (between_is xs from to))

  -- a run in which segment s is the last that starts
  pub range_started : (lengths : List ℕ) (xs : List Item) (from to s : ℕ) → to ≤ length xs → s < length lengths
      → from ≤ start_of lengths s → start_of lengths s < to → to ≤ start_of lengths (s + 1)
      → (front : List (Bool × Item)) × (range_between lengths xs from to ≡ front ++ started (slice_range xs (start_of lengths s) to))
  range_started lengths xs from to s within lt le before last =
      let p : ℕ = start_of lengths s in
      let n : ℕ = get_or lengths s 0 in
      let front = with_starts (take s lengths) (take p (take to xs)) in
      let ys = drop p (take to xs) in
      let short : length ys ≤ n = omega (arith, length-drop p (take to xs), length-take to xs, sum_by_more (λ x. x) lengths s 0 lt, last) in
      let long : length front ≡ length (take p (take to xs)) = length-with_starts (take s lengths) (take p (take to xs)) (omega (arith, length-take p (take to xs))) in
      let behind : with_starts (drop s lengths) ys ≡ started ys = grind (arith, common_steps, drop_more, take_all, drop_all, with_starts-none, append-nil) in (
        drop from front,
        ap (drop from) (split_at_start lengths (take to xs) s ∙ ap (λ zs. front ++ zs) behind)
            ∙ drop-append-le from front (started ys) (omega (arith, long, length-take p (take to xs), length-take to xs, le, before, within))
            ∙ ap (λ zs. drop from front ++ started zs) (sym (between_is xs p to)),
      )

-- ---- the sum of a run

flag_stays : (f : Bool) → either f false ≡ f
flag_stays true = refl
flag_stays false = refl

flag_set : (f : Bool) → either f true ≡ true
flag_set true = refl
flag_set false = refl

module _ {Item : Type 0} (join : Item → Item → Item) where
  pub continued_summed : (f : Bool) (before : Item) (ys : List Item) → fold_of (seg_join join) (f, before) (continued ys) ≡ (f, fold_of join before ys)
  continued_summed f before [] = refl
  continued_summed f before (y ∷ ys) = cc (flag_stays f, continued_summed f (join before y) ys)

  -- `next` is the first segment that starts at `to` or after it, as `first` is for `from`
  pub range_summed : (lengths : List ℕ) (xs : List Item) (f : Bool) (before : Item) (from to first next : ℕ) → from ≤ to → to ≤ length xs → sum lengths ≡ length xs → first ≤ length lengths
      → ((s : ℕ) → s < first → start_of lengths s < from) → ((s : ℕ) → next ≤ s → s < length lengths → to ≤ start_of lengths s) → next ≤ first
      → fold_of (seg_join join) (f, before) (range_between lengths xs from to) ≡ (f, fold_of join before (slice_range xs from to))
  range_summed lengths xs f before from to first next in_order within total le earlier later none =
      let past = begins_by lengths to first (omega (arith, within, total)) (λ s ge lt. later s (omega (arith, ge, none)) lt) in
      cc (range_continued lengths xs from to first in_order within le past earlier, continued_summed f before (slice_range xs from to))

module _ {Item : Type 0} {is_item : Item → Bool} {unit : Item} {join : Item → Item → Item} (laws : MonoidLaws is_item unit join) where
  started_summed : (before : Bool × Item) (ys : List Item) → 0 < length ys → AllPass is_item ys → fold_of (seg_join join) before (started ys) ≡ (true, fold_of join unit ys)
  started_summed before [] some items = absurd (omega (arith, some))
  started_summed before (y ∷ ys) some items = cc (flag_set before.0, continued_summed join true y ys, laws.left_unit y (All-head (λ x. is_item x ≡ true) y ys items))

  pub started_range_summed : (lengths : List ℕ) (xs : List Item) (before : Bool × Item) (from to s : ℕ) → to ≤ length xs → s < length lengths
      → from ≤ start_of lengths s → start_of lengths s < to → to ≤ start_of lengths (s + 1) → AllPass is_item xs
      → fold_of (seg_join join) before (range_between lengths xs from to) ≡ (true, fold_of join unit (slice_range xs (start_of lengths s) to))
  started_range_summed lengths xs before from to s within lt le ends last items =
      let p : ℕ = start_of lengths s in
      let is_one : Item → Type 0 = λ x. is_item x ≡ true in
      let parts = range_started lengths xs from to s within lt le ends last in
      ap (fold_of (seg_join join) before) parts.1
      ∙ fold-append (seg_join join) before parts.0 (started (slice_range xs p to))
      ∙ started_summed (fold_of (seg_join join) before parts.0) (slice_range xs p to) (omega (arith, length-take (to - p) (drop p xs), length-drop p xs, ends, within))
      (All-take is_one (to - p) (drop p xs) (All-drop is_one p xs items))

  -- the last segment that starts in the run is the one before `next`
  pub last_range_summed : (lengths : List ℕ) (xs : List Item) (before : Bool × Item) (from to first next start : ℕ) → to ≤ length xs → sum lengths ≡ length xs → next ≤ length lengths
      → ((s : ℕ) → first ≤ s → s < length lengths → from ≤ start_of lengths s) → ((s : ℕ) → s < next → start_of lengths s < to)
      → ((s : ℕ) → next ≤ s → s < length lengths → to ≤ start_of lengths s) → first < next → start ≡ start_of lengths (next - 1) → AllPass is_item xs
      → fold_of (seg_join join) before (range_between lengths xs from to) ≡ (true, fold_of join unit (slice_range xs start to))
  last_range_summed lengths xs before from to first next start within total le behind earlier later some is_start items = search (rules, begins_by, started_range_summed)
