-- A part of a scan is the scan of that part, after what stands before it.
use Rattle.tile_scans.proofs.Cited.{◌≡◌, ℕ, zero, suc, ◌-◌, Bool, true, false, List, [], ◌∷◌, ◌++◌, take, drop, slice_range, refl, sym, ap, ◌∙◌, arith, if◌then◌else◌, AllPass, drop-map, take-map}
use Rattle.tile_scans.proofs.Cited.{take_all, All-nil, All-cons, All-head, All-tail, All-append, All-take, All-drop, All-map, either, fold_of, scan_of, is_seg_item, seg_join, seg_unit, part}
use Rattle.tile_scans.proofs.Cited.{continued, started, with_starts, range_between, range_scan_of, scan_of-cons}
use Rattle.std.proofs.lemmas.Slice.{between_is}

module _ {Item : Type 0} (join : Item → Item → Item) (unit : Item) where
  pub range_scan-take : (before : Item) (n : ℕ) (run : List (Bool × Item)) → take n (range_scan_of join unit before run) ≡ range_scan_of join unit before (take n run)
  range_scan-take before zero run = refl
  range_scan-take before (suc n) [] = refl
  range_scan-take before (suc n) ((starts, x) ∷ run) =
      ap (λ tail. (if starts then unit else before) ∷ tail) (range_scan-take (if starts then x else join before x) n run)

  pub range_scan-drop : (f : Bool) (before : Item) (n : ℕ) (run : List (Bool × Item))
      → drop n (range_scan_of join unit before run) ≡ range_scan_of join unit (fold_of (seg_join join) (f, before) (take n run)).1 (drop n run)
  range_scan-drop f before zero run = refl
  range_scan-drop f before (suc n) [] = refl
  range_scan-drop f before (suc n) ((starts, x) ∷ run) = range_scan-drop (either f starts) (if starts then x else join before x) n run

  -- a part of a scan is the scan of that part, after what stands before it
  pub part_scanned : (p n : ℕ) (ws : List (Bool × Item))
      → part (range_scan_of join unit unit ws) p n ≡ range_scan_of join unit (fold_of (seg_join join) (seg_unit unit) (take p ws)).1 (part ws p n)
  part_scanned p n ws =
      ap (take n) (range_scan-drop false unit p ws)
      ∙ range_scan-take (fold_of (seg_join join) (seg_unit unit) (take p ws)).1 n (drop p ws)

  -- where no segment starts
  pub continued_range_scan : (before : Item) (xs : List Item) → range_scan_of join unit before (continued xs) ≡ scan_of join before xs
  continued_range_scan before [] = refl
  continued_range_scan before (x ∷ xs) = ap (λ tail. before ∷ tail) (continued_range_scan (join before x) xs) ∙ sym (scan_of-cons join before x xs)

module _ {Item : Type 0} where
  pub continued_slice : (xs : List Item) (from to : ℕ) → slice_range (continued xs) from to ≡ continued (slice_range xs from to)
  continued_slice xs from to =
      ap (take (to - from)) (drop-map (λ x. (false, x)) from xs) ∙ take-map (λ x. (false, x)) (to - from) (drop from xs)

  pub continued_passes : (is_item : Item → Bool) (xs : List Item) → AllPass is_item xs → AllPass (is_seg_item is_item) (continued xs)
  continued_passes is_item xs items = All-map (λ w. is_seg_item is_item w ≡ true) (λ x. (false, x)) xs items

  started_passes : (is_item : Item → Bool) (xs : List Item) → AllPass is_item xs → AllPass (is_seg_item is_item) (started xs)
  started_passes is_item [] items = All-nil (λ w. is_seg_item is_item w ≡ true)
  started_passes is_item (x ∷ xs) items =
      All-cons (λ w. is_seg_item is_item w ≡ true) (true, x) (continued xs) (All-head (λ y. is_item y ≡ true) x xs items)
      (continued_passes is_item xs (All-tail (λ y. is_item y ≡ true) x xs items))

  pub with_starts_passes : (is_item : Item → Bool) (lengths : List ℕ) (xs : List Item) → AllPass is_item xs → AllPass (is_seg_item is_item) (with_starts lengths xs)
  with_starts_passes is_item [] xs items = All-nil (λ w. is_seg_item is_item w ≡ true)
  with_starts_passes is_item (n ∷ ls) xs items =
      All-append (λ w. is_seg_item is_item w ≡ true) (started (take n xs)) (with_starts ls (drop n xs))
      (started_passes is_item (take n xs) (All-take (λ y. is_item y ≡ true) n xs items))
      (with_starts_passes is_item ls (drop n xs) (All-drop (λ y. is_item y ≡ true) n xs items))

  -- the front of elements that continue a segment and of what follows them, where a front of that is known
  continued-take : (rest : List Item → List (Bool × Item)) → ((k : ℕ) (ys : List Item) → take k (rest ys) ≡ rest (take k ys)) → (n k : ℕ) (xs : List Item)
      → take k (continued (take n xs) ++ rest (drop n xs)) ≡ continued (take n (take k xs)) ++ rest (drop n (take k xs))
  continued-take rest is zero k xs = is k xs
  continued-take rest is (suc n) zero xs = is 0 []
  continued-take rest is (suc n) (suc k) [] = is (suc k) []
  continued-take rest is (suc n) (suc k) (x ∷ xs) = ap (λ ws. (false, x) ∷ ws) (continued-take rest is n k xs)

  -- the front of a segmented vector
  pub with_starts-take : (lengths : List ℕ) (xs : List Item) (k : ℕ) → take k (with_starts lengths xs) ≡ with_starts lengths (take k xs)
  with_starts-take [] xs k = take_all k [] (omega arith)
  with_starts-take (zero ∷ ls) xs k = with_starts-take ls xs k
  with_starts-take (suc n ∷ ls) xs zero = with_starts-take ls [] 0
  with_starts-take (suc n ∷ ls) [] (suc k) = with_starts-take ls [] (suc k)
  with_starts-take (suc n ∷ ls) (x ∷ xs) (suc k) = ap (λ ws. (true, x) ∷ ws) (continued-take (with_starts ls) (λ j ys. with_starts-take ls ys j) n k xs)

  -- a run is a part of the segmented vector
  pub range_is_slice : (lengths : List ℕ) (xs : List Item) (from to : ℕ) → range_between lengths xs from to ≡ slice_range (with_starts lengths xs) from to
  range_is_slice lengths xs from to = ap (drop from) (sym (with_starts-take lengths xs to)) ∙ sym (between_is (with_starts lengths xs) from to)
