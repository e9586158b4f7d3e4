-- A run of a segmented vector is what continues the segment that it begins in, and then the segments that start in it.
use Rattle.range_walks.proofs.Cited.{rules, ◌≡◌, ℕ, zero, suc, ◌+◌, ◌-◌, ◌<◌, ◌≤◌, Bool, false, true, List, [], ◌∷◌, ◌++◌, length, take, drop, refl, sym, ap, ◌∙◌, arith, sum, AllPass, length-map}
use Rattle.range_walks.proofs.Cited.{length-take, length-take-le, length-drop, take_all, drop-append-le, drop-take, drop-drop, drop-map, drop_at, All-head, All-take, All-drop, fold_of, scan_of}
use Rattle.range_walks.proofs.Cited.{MonoidLaws, sum-cons, start_of, scan_of-cons, continued, started, with_starts, range_scan_of, scans_of}
use Rattle.std.proofs.lemmas.Bool.Decides.{nat_tests, leb_tells}

module _ {Item : Type 0} where
  pub length-started : (xs : List Item) → length (started xs) ≡ length xs
  length-started [] = refl
  length-started (x ∷ xs) = ap suc (length-map xs (λ y. (false, y)))

  drop-started : (from : ℕ) (xs : List Item) → 0 < from → drop from (started xs) ≡ continued (drop from xs)
  drop-started zero xs lt = absurd (omega arith)
  drop-started (suc from) [] lt = refl
  drop-started (suc from) (x ∷ xs) lt = drop-map (λ y. (false, y)) from xs

  -- the run begins in the first segment
  cut_here : (ls : List ℕ) (xs : List Item) (from k : ℕ) → 0 < from → from ≤ length xs
      → drop from (with_starts ((from + k) ∷ ls) xs) ≡ continued (take k (drop from xs)) ++ with_starts ls (drop k (drop from xs))
  cut_here ls xs from k begins within = search (rules, drop-append-le, length-started, length-take, drop-started, drop-take, drop-drop)

  -- the run begins after the first segment
  cut_later : (n m : ℕ) (ls : List ℕ) (xs : List Item) → n ≤ length xs → drop (n + m) (with_starts (n ∷ ls) xs) ≡ drop m (with_starts ls (drop n xs))
  cut_later n m ls xs within =
      let front = started (take n xs) in
      let rest = with_starts ls (drop n xs) in
      sym (drop-drop m n (front ++ rest)) ∙ ap (drop m) (drop_at front rest n (length-started (take n xs) ∙ length-take-le n xs within))

  -- `first` is the first segment that starts at `from` or after it, k elements on
  pub range_cut : (lengths : List ℕ) (xs : List Item) (from k first : ℕ) → first ≤ length lengths → from ≤ length xs → from + k ≡ start_of lengths first
      → ((s : ℕ) → s < first → start_of lengths s < from)
      → drop from (with_starts lengths xs) ≡ continued (take k (drop from xs)) ++ with_starts (drop first lengths) (drop k (drop from xs))
  range_cut lengths xs zero zero zero le within is earlier = refl
  range_cut lengths xs zero (suc k) zero le within is earlier = let none : start_of lengths 0 ≡ 0 = refl in absurd (omega (arith, is, none))
  range_cut lengths xs (suc from) k zero le within is earlier = let none : start_of lengths 0 ≡ 0 = refl in absurd (omega (arith, is, none))
  range_cut [] xs from k (suc first) le within is earlier = absurd (omega arith)
  range_cut (n ∷ ls) xs from k (suc zero) le within is earlier =
      let end : from + k ≡ n = omega (arith, is, sum-cons n []) in
      let begins : start_of (n ∷ ls) 0 < from = earlier 0 (omega arith) in
      ap (λ m. drop from (with_starts (m ∷ ls) xs)) (sym end) ∙ cut_here ls xs from k (omega (arith, begins)) within
  range_cut (n ∷ ls) xs from k (suc (suc first)) le within is earlier =
      let after : start_of (n ∷ ls) 1 < from = earlier 1 (omega arith) in
      let m : ℕ = from - n in
      let split : n + m ≡ from = omega (arith, after, sum-cons n []) in
      ap (λ j. drop j (with_starts (n ∷ ls) xs)) (sym split)
      ∙ cut_later n m ls xs (omega (arith, split))
      ∙ range_cut ls (drop n xs) m k (suc first) (omega arith) (omega (arith, split, length-drop n xs)) (omega (arith, is, split, sum-cons n (take (suc first) ls)))
      (λ s lt. omega (arith, earlier (suc s) (omega arith), split, sum-cons n (take s ls)))
      ∙ ap (λ ys. continued (take k ys) ++ with_starts (drop (suc first) ls) (drop k ys)) (drop-drop m n xs ∙ ap (λ j. drop j xs) split)

pub start_of_all : (lengths : List ℕ) (s : ℕ) → length lengths ≤ s → start_of lengths s ≡ sum lengths
start_of_all lengths s ge = ap sum (take_all s lengths ge)

-- where the segments from `first` on start at `from` or after it, so do the elements after the segments before `first`
pub begins_by : (lengths : List ℕ) (from first : ℕ) → from ≤ sum lengths → ((s : ℕ) → first ≤ s → s < length lengths → from ≤ start_of lengths s) → from ≤ start_of lengths first
begins_by lengths from first within later = grind (arith, nat_tests, leb_tells, start_of_all)

-- of two places in order, no more segments start before the first
pub starts_in_order : (lengths : List ℕ) (from to first next : ℕ) → from ≤ to → first ≤ length lengths → ((s : ℕ) → s < first → start_of lengths s < from)
    → ((s : ℕ) → next ≤ s → s < length lengths → to ≤ start_of lengths s) → first ≤ next
starts_in_order lengths from to first next in_order le earlier later = grind (arith, nat_tests, leb_tells)

-- ---- the scan of a run

module _ {Item : Type 0} (join : Item → Item → Item) (unit : Item) where
  continued_scanned : (before : Item) (ys : List Item) (run : List (Bool × Item))
      → range_scan_of join unit before (continued ys ++ run) ≡ scan_of join before ys ++ range_scan_of join unit (fold_of join before ys) run
  continued_scanned before [] run = refl
  continued_scanned before (y ∷ ys) run = cc (continued_scanned (join before y) ys run, scan_of-cons join before y ys)

module _ {Item : Type 0} {is_item : Item → Bool} {unit : Item} {join : Item → Item → Item} (laws : MonoidLaws is_item unit join) where
  segment_scanned : (before : Item) (ys : List Item) (run : List (Bool × Item)) (sums : List Item) → AllPass is_item ys
      → ((b : Item) → range_scan_of join unit b run ≡ sums) → range_scan_of join unit before (started ys ++ run) ≡ scan_of join unit ys ++ sums
  segment_scanned before [] run sums items rest = rest before
  segment_scanned before (y ∷ ys) run sums items rest = search (rules, continued_scanned, All-head, scan_of-cons)

  pub segments_scanned : (lengths : List ℕ) (xs : List Item) (before : Item) → AllPass is_item xs → range_scan_of join unit before (with_starts lengths xs) ≡ scans_of join unit lengths xs
  segments_scanned [] xs before items = refl
  segments_scanned (n ∷ ls) xs before items =
      segment_scanned before (take n xs) (with_starts ls (drop n xs)) (scans_of join unit ls (drop n xs))
      (All-take (λ x. is_item x ≡ true) n xs items)
      (λ b. segments_scanned ls (drop n xs) b (All-drop (λ x. is_item x ≡ true) n xs items))

  -- what continues the segment before a range, and then segments
  pub parts_scanned : (lengths : List ℕ) (before : Item) (front others : List Item) → AllPass is_item others
      → range_scan_of join unit before (continued front ++ with_starts lengths others) ≡ scan_of join before front ++ scans_of join unit lengths others
  parts_scanned lengths before front others items = cc (continued_scanned join unit before front (with_starts lengths others), segments_scanned lengths others (fold_of join before front) items)
