-- The arguments of a segment, which starts where those before it end.
use Rattle.scan_walks.proofs.Cited.{◌≡◌, ◌∙◌, ◌+◌, ◌<◌, ◌≤◌, ℕ, List, [], length, take, drop, get_or, sym, arith, sum, get_or-drop, length-take, length-drop, sum_by_more, cut_of, cut_at, length-cut}
use Rattle.scan_walks.proofs.Cited.{zip, get_or_default, get_or-take, sum_by_more_le}
use Rattle.std.proofs.lemmas.Slice.Zip.{get_or-zip, length-zip}

-- a list has this element at place s
pub record StandsAt {X : Type 0} (xs : List X) (s : ℕ) (x : X) : Type 0 where
  pub within : s < length xs
  pub here : x ≡ get_or xs s x

-- as it is read with any default
pub stands : {X : Type 0} (xs : List X) (s : ℕ) (x d : X) → s < length xs → x ≡ get_or xs s d → StandsAt xs s x
stands xs s x d lt is = record { within = lt; here = is ∙ get_or_default xs s d x lt }

-- two arguments of a segment
pub both : {X Y : Type 0} {xs : List X} {ys : List Y} {s : ℕ} {x : X} {y : Y} → StandsAt xs s x → StandsAt ys s y → StandsAt (zip xs ys) s (x, y)
both {xs = xs} {ys = ys} {s = s} {x = x} {y = y} first second = record {
  within = omega (arith, first.within, second.within, length-zip xs ys);
  here = (λ i. (first.here i, second.here i)) ∙ sym (get_or-zip xs ys s (x, y) first.within second.within);
}

-- a segment ends where all do at the latest
pub ends_within : (lengths : List ℕ) (s : ℕ) → s < length lengths → sum (take s lengths) + get_or lengths s 0 ≤ sum lengths
ends_within lengths s lt = sum_by_more_le (λ x. x) lengths s 0 lt

-- segment s starts at `start` and has n elements
pub record IsSegment (lengths : List ℕ) (s start n : ℕ) : Type 0 where
  pub within : s < length lengths
  pub starts : start ≡ sum (take s lengths)
  pub long : n ≡ get_or lengths s 0

module _ {lengths : List ℕ} {s start n : ℕ} (here : IsSegment lengths s start n) where
  -- where the next one starts
  pub starts_more : start + n ≡ sum (take (s + 1) lengths)
  starts_more = omega (arith, here.starts, here.long, sum_by_more (λ x. x) lengths s 0 here.within)

  module _ {X : Type 0} (xs : List X) where
    -- the elements of the segment
    pub part : StandsAt (cut_of lengths xs) s (take n (drop start xs))
    part =
        stands (cut_of lengths xs) s (take n (drop start xs)) [] (omega (arith, here.within, length-cut lengths xs))
        ((λ i. take (here.long i) (drop (here.starts i) xs)) ∙ sym (cut_at lengths xs s here.within))

    pub part_long : sum lengths ≡ length xs → length (take n (drop start xs)) ≡ n
    part_long fits = omega (arith, fits, here.starts, here.long, ends_within lengths s here.within, length-take n (drop start xs), length-drop start xs)

module _ {X : Type 0} (xs : List X) (start n : ℕ) where
  pub part_short : length (take n (drop start xs)) ≤ n
  part_short = omega (arith, length-take n (drop start xs))

  -- an element of it
  pub part_read : (k : ℕ) (x : X) → k < n → x ≡ get_or xs (start + k) x → x ≡ get_or (take n (drop start xs)) k x
  part_read k x within read = read ∙ sym (get_or-drop start xs k x) ∙ sym (get_or-take n (drop start xs) k x within)
