-- Loops over segments: what is left to them, and the lengths that they read.
use Rattle.range_walks.proofs.Cited.{rules, ◌≡◌, ℕ, zero, suc, ◌-◌, ℤ, pos, to_z, of_z, w32, w64, Fits, ◌+◌, ◌<◌, ◌≤◌, min, List, [], ◌∷◌, ◌++◌, length, take, drop, map, get_or, refl, sym, ap, ◌∙◌}
use Rattle.range_walks.proofs.Cited.{arith, take-add, sum, unsigned_abs, length-map, length-take, drop-take, take-take, length-drop, drop_more, take_all, drop-drop, take_min, drop_min, append-nil}
use Rattle.range_walks.proofs.Cited.{length-append, map-append, flat_map-append, sum_by-append, sum_by-drop_more, sum_by_more, sum_by-take-drop, scan_of, cut_of, length-scan_of, sum-cons, start_of}
use Rattle.range_walks.proofs.Cited.{fold_of, reduces_of, scans_of}
use Rattle.std.proofs.Math.Facts.{Fits-below}
use Rattle.std.specs.Int.{IsNonNegative}
use Rattle.cvl_base.specs.Descriptors.{AreLengthsWithin}
use Rattle.cvl_base.specs.Limits.{most_places}
use Rattle.cvl_base.proofs.Descriptors.{abs_pos}
use Rattle.segdes.proofs.Sums.{cast_fits, length_at}
use Rattle.range_walks.proofs.Scanned.{part_read}

-- ---- what is left to a loop over the segments: segment s, and those after it

pub cut_more : {Item : Type 0} (lengths : List ℕ) (s n : ℕ) (rest front others : List Item) → s < length lengths → n ≡ get_or lengths s 0 → front ≡ take n rest → others ≡ drop n rest
    → cut_of (drop s lengths) rest ≡ front ∷ cut_of (drop (s + 1) lengths) others
cut_more lengths s n rest front others lt is is_front is_others = cc (drop_more lengths s 0 lt, is, is_front, is_others)

-- k segments, and those after them
pub cut_parted : {Item : Type 0} (k : ℕ) (lengths : List ℕ) (xs : List Item)
    → cut_of lengths xs ≡ cut_of (take k lengths) (take (start_of lengths k) xs) ++ cut_of (drop k lengths) (drop (start_of lengths k) xs)
cut_parted zero lengths xs = refl
cut_parted (suc k) [] xs = refl
cut_parted (suc k) (n ∷ ls) xs = search (rules, sum-cons, take-take, drop-take, drop-drop, cut_parted k ls (drop n xs))

module _ {Item : Type 0} (join : Item → Item → Item) (unit : Item) where
  scans_after : (k : ℕ) (lengths : List ℕ) (xs : List Item)
      → scans_of join unit lengths xs ≡ scans_of join unit (take k lengths) (take (start_of lengths k) xs) ++ scans_of join unit (drop k lengths) (drop (start_of lengths k) xs)
  scans_after k lengths xs =
      let first = cut_of (take k lengths) (take (start_of lengths k) xs) in
      let others = cut_of (drop k lengths) (drop (start_of lengths k) xs) in
      cc (cut_parted k lengths xs, map-append (scan_of join unit) first others, flat_map-append (λ ys. ys) (map (scan_of join unit) first) (map (scan_of join unit) others))

  -- where the last of the k is cut short
  pub scans_parted : (k n cut : ℕ) (lengths : List ℕ) (xs : List Item) → n ≡ start_of lengths k → cut ≡ min n (length xs)
      → scans_of join unit lengths xs ≡ scans_of join unit (take k lengths) (take cut xs) ++ scans_of join unit (drop k lengths) (drop cut xs)
  scans_parted k n cut lengths xs is is_cut = search (rules, scans_after, take_min, drop_min)

  -- k segments from s on, the last of them cut short by the end of the elements, and those after them
  pub scans_left : (s k n later cut : ℕ) (lengths : List ℕ) (rest : List Item) → later ≡ s + k → n ≡ sum (take k (drop s lengths)) → cut ≡ min n (length rest)
      → scans_of join unit (drop s lengths) rest ≡ scans_of join unit (take k (drop s lengths)) (take cut rest) ++ scans_of join unit (drop later lengths) (drop cut rest)
  scans_left s k n later cut lengths rest is_later is_n is_cut =
      let behind : drop k (drop s lengths) ≡ drop later lengths = drop-drop k s lengths ∙ ap (λ j. drop j lengths) (sym is_later) in
      scans_parted k n cut (drop s lengths) rest is_n is_cut ∙ ap (λ ls. scans_of join unit (take k (drop s lengths)) (take cut rest) ++ scans_of join unit ls (drop cut rest)) behind

  -- the same for reduces, of elements that begin with those of the segments
  pub reduces_left : (s k n later : ℕ) (lengths : List ℕ) (rest : List Item) → later ≡ s + k → n ≡ sum (take k (drop s lengths))
      → reduces_of join unit (drop s lengths) rest ≡ reduces_of join unit (take k (drop s lengths)) (take n rest) ++ reduces_of join unit (drop later lengths) (drop n rest)
  reduces_left s k n later lengths rest is_later is_n =
      let ls = drop s lengths in
      let behind : drop k ls ≡ drop later lengths = drop-drop k s lengths ∙ ap (λ j. drop j lengths) (sym is_later) in
      let is : n ≡ start_of ls k = is_n in
      let front = cut_of (take k ls) (take (start_of ls k) rest) in
      let back = cut_of (drop k ls) (drop (start_of ls k) rest) in
      cc (cut_parted k ls rest, map-append (fold_of join unit) front back, is, behind)

  -- scans of segments are as long as the elements
  pub length-scans_of : (lengths : List ℕ) (xs : List Item) → length xs ≤ sum lengths → length (scans_of join unit lengths xs) ≡ length xs
  length-scans_of [] xs covered = omega (arith, covered)
  length-scans_of (n ∷ ls) xs covered =
      search (rules, sum-cons, length-drop, length-append, length-scan_of, length-take, length-scans_of ls (drop n xs) (omega (arith, covered, sum-cons n ls, length-drop n xs)))

  -- one segment, and its scan
  pub one_scanned : (lengths : List ℕ) (s n : ℕ) (xs : List Item) → s < length lengths → n ≡ get_or lengths s 0 → length xs ≤ n
      → scan_of join unit xs ≡ scans_of join unit (take 1 (drop s lengths)) xs
  one_scanned lengths s n xs lt is few = cc (drop_more lengths s 0 lt, append-nil (scan_of join unit (take (get_or lengths s 0) xs)), take_all (get_or lengths s 0) xs (omega (arith, is, few)))

  -- one segment, and its reduce
  pub one_reduced : (lengths : List ℕ) (s n : ℕ) (xs : List Item) → s < length lengths → n ≡ get_or lengths s 0 → length xs ≤ n
      → fold_of join unit xs ∷ [] ≡ reduces_of join unit (take 1 (drop s lengths)) xs
  one_reduced lengths s n xs lt is few = cc (drop_more lengths s 0 lt, take_all (get_or lengths s 0) xs (omega (arith, is, few)))

pub one_long : (lengths : List ℕ) (s n : ℕ) → s < length lengths → n ≡ get_or lengths s 0 → n ≡ sum (take 1 (drop s lengths))
one_long lengths s n lt is = omega (arith, is, ap (λ ls. sum (take 1 ls)) (drop_more lengths s 0 lt), sum-cons (get_or lengths s 0) [])

-- ---- the loops over the segments

-- the number at place s of a row, as a loop reads it and casts it
abbrev pub read_at : List ℤ → ℕ → ℕ
read_at row s = unsigned_abs (to_z w32 (of_z w32 (get_or row s (pos 0))))

module _ (row : List ℤ) (lengths : List ℕ) (is : row ≡ map pos lengths) (are : AreLengthsWithin most_places row) where
  small : sum lengths ≤ most_places
  small = let kept : map unsigned_abs row ≡ lengths = ap (map unsigned_abs) is ∙ abs_pos lengths in omega (arith, are.in_limit, ap sum kept)

  -- it is the length of segment s
  pub length_read : (s : ℕ) → s < length row → read_at row s ≡ get_or lengths s 0
  length_read s lt = ap unsigned_abs (length_at row s lengths is small lt)

  pub segment_read : (s : ℕ) → s < length row → (s < length lengths) × (read_at row s ≡ get_or lengths s 0)
  segment_read s lt = (omega (arith, lt, ap length is, length-map lengths pos), length_read s lt)

  pub length_fits : (s : ℕ) → s < length row → IsNonNegative (to_z w32 (of_z w32 (get_or row s (pos 0)))) × Fits w64 (read_at row s)
  length_fits s lt = cast_fits w64 row s lengths is small lt (λ n le. Fits-below tt le)

-- the length of segment s, which a loop over the segments reads: it fits, and with it segment s stands before the others
pub record IsLengthAt (row : List ℤ) (s : ℕ) : Type 0 where
  pub within : s < length (map unsigned_abs row)
  pub is : read_at row s ≡ get_or (map unsigned_abs row) s 0
  pub fits : IsNonNegative (to_z w32 (of_z w32 (get_or row s (pos 0)))) × Fits w64 (read_at row s)
  pub left : sum (drop s (map unsigned_abs row)) ≡ read_at row s + sum (drop (s + 1) (map unsigned_abs row))
  pub next : start_of (map unsigned_abs row) (s + 1) ≡ start_of (map unsigned_abs row) s + read_at row s

pub length_here : {row : List ℤ} {s : ℕ} → AreLengthsWithin most_places row → s < length row → IsLengthAt row s
length_here {row = row} {s = s} are lt =
    let lengths = map unsigned_abs row in
    let read = segment_read row lengths are.none_negative are s lt in
    record {
      within = read.0;
      is = read.1;
      fits = length_fits row lengths are.none_negative are s lt;
      left = omega (arith, read.1, sum_by-drop_more (λ x. x) lengths s 0 read.0);
      next = omega (arith, read.1, sum_by_more (λ x. x) lengths s 0 read.0);
    }

-- a range of a descriptor's row is one of lengths
range_of : (row : List ℤ) (lengths : List ℕ) (k m : ℕ) → row ≡ map pos lengths → take m (drop k row) ≡ map pos (take m (drop k lengths))
range_of row lengths k m is = ap (λ ns. take m (drop k ns)) is ∙ sym (part_read pos m k lengths)

pub range_read : (row : List ℤ) (lengths : List ℕ) (k m : ℕ) → row ≡ map pos lengths → map unsigned_abs (take m (drop k row)) ≡ take m (drop k lengths)
range_read row lengths k m is = ap (map unsigned_abs) (range_of row lengths k m is) ∙ abs_pos (take m (drop k lengths))

pub range_lengths : (row : List ℤ) (lengths : List ℕ) (k m : ℕ) → row ≡ map pos lengths → AreLengthsWithin most_places row → AreLengthsWithin most_places (take m (drop k row))
range_lengths row lengths k m is are =
    let read = range_read row lengths k m is in
    record {
      none_negative = range_of row lengths k m is ∙ ap (map pos) (sym read);
      few = omega (arith, are.few, length-take m (drop k row), length-drop k row);
      in_limit = omega (arith, ap sum read, small row lengths is are, sum_by-take-drop (λ x. x) lengths k, sum_by-take-drop (λ x. x) (drop k lengths) m);
    }

-- k segments from s on, and what is left of them
pub range_left : (lengths : List ℕ) (s k later : ℕ) → later ≡ s + k → sum (take k (drop s lengths)) + sum (drop later lengths) ≡ sum (drop s lengths)
range_left lengths s k later is = cc (is, drop-drop k s lengths, sum_by-take-drop (λ x. x) (drop s lengths) k)

-- the segments from `first` on to the one before `next` have the elements between their starts
pub range_sum : (lengths : List ℕ) (first next : ℕ) → first ≤ next → start_of lengths first + sum (take (next - first) (drop first lengths)) ≡ start_of lengths next
range_sum lengths first next le =
    let m : ℕ = next - first in
    let end : first + m ≡ next = omega (arith, le) in
    sym (sum_by-append (λ x. x) (take first lengths) (take m (drop first lengths))) ∙ ap sum (sym (take-add first m lengths)) ∙ ap (start_of lengths) end
