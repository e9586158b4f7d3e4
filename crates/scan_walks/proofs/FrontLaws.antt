-- How many numbers of a list fit 32 bits, from the first one on: of scans, and of lists one after another.
use Rattle.scan_walks.proofs.Cited.{rules, ◌≡◌, ◌∙◌, ◌+◌, ◌<◌, ◌≤◌, ◌+ℤ◌, ◌++◌, if◌then◌else◌, refl, sym, ap, ℕ, Bool, true, false, cond, ℤ, pos, List, length, take, drop, get_or, arith, Some, None}
use Rattle.scan_walks.proofs.Cited.{sum, is_some, drop_more, drop-drop, length-drop, length-take, fitting, fold_of, scan_of, is_number, scans_of, length-scan_of, scan_of-cons, length-scans_of, min}
use Rattle.scan_walks.proofs.Cited.{take-append-drop, prefix_len-append, prefix_len-le-length, continued, range_scan_of, with_starts, scan_of-append, range_left, scans_parted, fitting_front}
use Rattle.std.proofs.lemmas.Bool.{false_from_ne_true}
use Rattle.std.proofs.lemmas.Option.{cond_some, none-some}
use Rattle.range_walks.proofs.Cut.{parts_scanned}
use Rattle.scan_walks.proofs.WholeSums.{all_whole, whole_laws}

some_passed : (z : ℤ) (b : Bool) → is_some (if b then Some z else None) ≡ true → b ≡ true
some_passed z true is = refl
some_passed z false is = cc

pub some-fits : (z w : ℤ) → w ≡ z → is_some (fitting w) ≡ true → is_number z ≡ true
some-fits z w same is = some_passed z (is_number z) (ap (λ v. is_some (fitting v)) (sym same) ∙ is)

pub fitting-is : (z y : ℤ) → fitting z ≡ Some y → (is_number z ≡ true) × (z ≡ y)
fitting-is z y is = cond_some (is_number z) z y is

pub none-fits : (z : ℤ) → fitting z ≡ None → is_number z ≡ false
none-fits z is = false_from_ne_true (is_number z) (λ number. none-some z (sym is ∙ ap (λ b. if b then Some z else None) number))

-- ---- a walk over the sums before each of some numbers, of which i were seen to fit

module _ (n i : ℕ) (so_far : ℤ) (xs : List ℤ) (is : n ≡ i + fitting_front (scan_of ◌+ℤ◌ so_far (drop i xs))) where
  begun : (b : Bool) → i < length xs → is_number so_far ≡ b
      → n ≡ i + cond b (1 + fitting_front (scan_of ◌+ℤ◌ (so_far +ℤ get_or xs i (pos 0)) (drop (i + 1) xs))) 0
  begun b lt fits = cc (is, drop_more xs i (pos 0) lt, scan_of-cons ◌+ℤ◌ so_far (get_or xs i (pos 0)) (drop (i + 1) xs), fits)

  pub front_goes_on : (y next : ℤ) → i < length xs → fitting so_far ≡ Some y → next ≡ so_far +ℤ get_or xs i (pos 0)
      → n ≡ (i + 1) + fitting_front (scan_of ◌+ℤ◌ next (drop (i + 1) xs))
  front_goes_on y next lt fits sum =
      let more = begun true lt (fitting-is so_far y fits).0 in
      let same = ap (λ z. fitting_front (scan_of ◌+ℤ◌ z (drop (i + 1) xs))) (sym sum) in
      omega (arith, more, same)

  pub front_stops : i < length xs → fitting so_far ≡ None → i ≡ n
  front_stops lt fits = let more = begun false lt (none-fits so_far fits) in omega (arith, more)

-- ---- lists one after another

-- where one of the first doesn't fit
pub front_within : (zs ys : List ℤ) → fitting_front zs < length zs → fitting_front (zs ++ ys) ≡ fitting_front zs
front_within zs ys lt = grind (arith, prefix_len-append is_number zs ys)

-- where all of the first fit
pub front_past : (zs ys : List ℤ) → length zs ≤ fitting_front zs → fitting_front (zs ++ ys) ≡ length zs + fitting_front ys
front_past zs ys ge = grind (arith, prefix_len-append is_number zs ys, prefix_len-le-length is_number zs)

-- of a scan and what follows it
scan_within : (before : ℤ) (xs ys : List ℤ) (n : ℕ) → n ≡ fitting_front (scan_of ◌+ℤ◌ before xs) → n < length xs → n ≡ fitting_front (scan_of ◌+ℤ◌ before xs ++ ys)
scan_within before xs ys n is lt = search (rules, front_within, length-scan_of)

pub scan_past : (before : ℤ) (xs ys : List ℤ) (n : ℕ) → n ≡ fitting_front (scan_of ◌+ℤ◌ before xs) → length xs ≤ n → fitting_front (scan_of ◌+ℤ◌ before xs ++ ys) ≡ length xs + fitting_front ys
scan_past before xs ys n is ge =
    let zs = scan_of ◌+ℤ◌ before xs in
    let long = length-scan_of ◌+ℤ◌ before xs in
    omega (arith, front_past zs ys (omega (arith, is, ge, long)), long)

-- ---- a walk over blocks, of which the first ones, `done` numbers in all, were seen to fit

module _ (whole done k : ℕ) (so_far : ℤ) (rest block others : List ℤ) (is_block : block ≡ take k rest) (is_others : others ≡ drop k rest)
    (is : whole ≡ done + fitting_front (scan_of ◌+ℤ◌ so_far rest)) where
  parted : whole ≡ done + fitting_front (scan_of ◌+ℤ◌ so_far block ++ scan_of ◌+ℤ◌ (fold_of ◌+ℤ◌ so_far block) others)
  parted = cc (is, take-append-drop k rest, is_block, is_others, scan_of-append ◌+ℤ◌ so_far block others)

  pub block_stops : (place : ℕ) → place ≡ fitting_front (scan_of ◌+ℤ◌ so_far block) → place < length block → done + place ≡ whole
  block_stops place met lt = ap (λ j. done + j) (scan_within so_far block (scan_of ◌+ℤ◌ (fold_of ◌+ℤ◌ so_far block) others) place met lt) ∙ sym parted

  pub block_passes : (next : ℕ) (sum : ℤ) → fitting_front (scan_of ◌+ℤ◌ so_far block) ≡ length block → sum ≡ fold_of ◌+ℤ◌ so_far block → next ≡ done + length block
      → whole ≡ next + fitting_front (scan_of ◌+ℤ◌ sum others)
  block_passes next sum fits is_sum is_next = search (rules, scan_past, parted)

-- ---- a walk over segments, of whose scans the first ones, `done` in all, were seen to fit

pub record FitSoFar (lengths : List ℕ) (xs : List ℤ) (s done : ℕ) (rest : List ℤ) : Type 0 where
  pub front : fitting_front (scans_of ◌+ℤ◌ (pos 0) lengths xs) ≡ done + fitting_front (scans_of ◌+ℤ◌ (pos 0) (drop s lengths) rest)
  pub parts : done + length rest ≡ length xs
  pub covered : length rest ≤ sum (drop s lengths)

-- the step takes k segments, the last of them cut short by the end of the numbers
module _ {lengths : List ℕ} {xs : List ℤ} {s done : ℕ} {rest : List ℤ} (so_far : FitSoFar lengths xs s done rest) (k n later : ℕ) (is_later : later ≡ s + k)
    (is_n : n ≡ sum (take k (drop s lengths))) (cut : ℕ) (group others : List ℤ) (is_cut : cut ≡ min n (length rest)) (is_group : group ≡ take cut rest) (is_others : others ≡ drop cut rest) where
  cut_off : fitting_front (scans_of ◌+ℤ◌ (pos 0) lengths xs)
      ≡ done + fitting_front (scans_of ◌+ℤ◌ (pos 0) (take k (drop s lengths)) group ++ scans_of ◌+ℤ◌ (pos 0) (drop later lengths) others)
  cut_off =
      let behind : drop k (drop s lengths) ≡ drop later lengths = drop-drop k s lengths ∙ ap (λ j. drop j lengths) (sym is_later) in
      cc (so_far.front, scans_parted ◌+ℤ◌ (pos 0) k n cut (drop s lengths) rest is_n is_cut, is_group, behind, is_others)

  long : length (scans_of ◌+ℤ◌ (pos 0) (take k (drop s lengths)) group) ≡ length group
  long = length-scans_of ◌+ℤ◌ (pos 0) (take k (drop s lengths)) group (omega (arith, ap length is_group, length-take cut rest, is_n, is_cut))

  module _ (fitting : ℕ) (met : fitting ≡ fitting_front (scans_of ◌+ℤ◌ (pos 0) (take k (drop s lengths)) group)) where
    pub segments_stop : fitting < length group → done + fitting ≡ fitting_front (scans_of ◌+ℤ◌ (pos 0) lengths xs)
    segments_stop lt = search (rules, front_within, long, cut_off)

    pub segments_go_on : (next : ℕ) → length group ≤ fitting → next ≡ done + length group → FitSoFar lengths xs later next others
    segments_go_on next ge is_next =
        let past = front_past (scans_of ◌+ℤ◌ (pos 0) (take k (drop s lengths)) group) (scans_of ◌+ℤ◌ (pos 0) (drop later lengths) others) (omega (arith, met, ge, long)) in
        record {
          front = omega (arith, cut_off, past, long, is_next);
          parts = omega (arith, so_far.parts, is_cut, is_next, ap length is_group, ap length is_others, length-take cut rest, length-drop cut rest);
          covered = omega (arith, so_far.covered, is_n, is_cut, ap length is_others, length-drop cut rest, range_left lengths s k later is_later);
        }

-- ---- a walk over a range: what continues the segment before it, and then the segments that start in it

module _ (lengths : List ℕ) (before : ℤ) (front others : List ℤ) (range : List (Bool × ℤ)) (is : range ≡ continued front ++ with_starts lengths others) where
  walked : range_scan_of ◌+ℤ◌ (pos 0) before range ≡ scan_of ◌+ℤ◌ before front ++ scans_of ◌+ℤ◌ (pos 0) lengths others
  walked = ap (range_scan_of ◌+ℤ◌ (pos 0) before) is ∙ parts_scanned whole_laws lengths before front others (all_whole others)

  pub range_stops : (n : ℕ) → n ≡ fitting_front (scan_of ◌+ℤ◌ before front) → n < length front → n ≡ fitting_front (range_scan_of ◌+ℤ◌ (pos 0) before range)
  range_stops n is lt = scan_within before front (scans_of ◌+ℤ◌ (pos 0) lengths others) n is lt ∙ ap fitting_front (sym walked)

  pub range_goes_on : (n m : ℕ) → n ≡ fitting_front (scan_of ◌+ℤ◌ before front) → n ≡ length front → m ≡ fitting_front (scans_of ◌+ℤ◌ (pos 0) lengths others)
      → n + m ≡ fitting_front (range_scan_of ◌+ℤ◌ (pos 0) before range)
  range_goes_on n m is all later = search (rules, walked, scan_past)
