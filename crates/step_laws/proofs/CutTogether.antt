-- The segments that the parts of a vector have together, which is cut at places, are its segments.
use Rattle.std.proofs.Common.{◌≡◌, ◌∙◌, ◌+◌, ◌-◌, ◌<◌, ◌≤◌, ◌++◌, ℕ, List, [], ◌∷◌, length, map, min, sum, take, drop, slice_range}
use Rattle.std.proofs.Common.{refl, sym, ap, arith, length-take, take-add, take_all, take-take, drop-drop}
use Rattle.std.proofs.lemmas.List.{drop-take, drop_all}
use Rattle.call_laws.proofs.SegmentsInTwo.{cut-append}
use Rattle.call_laws.specs.OverRanks.{followed_by, going_on, together}
use Rattle.cvl_base.proofs.Lists.{sum-cons}
use Rattle.cvl_base.specs.Lists.{joined}
use Rattle.cvl_base.specs.Nests.{cut_of}
use Rattle.part_cuts.specs.Starts.{start_of}
use Rattle.segment_parts.specs.Reduces.{but_last}
use Rattle.step_laws.proofs.CutBounds.{Bounded, Bounds, but_last-more, cut, last-start, length-slice, slice-rest, start-on}
use Rattle.step_laws.specs.CutSegments.{CutPart, between, head_of, lengths_of}

module _ {X : Type 0} where
  -- what a part has of some segments, the last of which goes on behind it
  going-cut : (l : ℕ) (lengths : List ℕ) (ys : List X) (k : ℕ) → sum (but_last (l ∷ lengths)) ≤ k → k ≤ sum (l ∷ lengths)
      → going_on (take l (take k ys)) (cut_of lengths (drop l (take k ys))) (take (sum (l ∷ lengths) - k) (drop k ys)) ≡ cut_of (l ∷ lengths) ys
  going-cut l [] ys k last few =
      let total : sum (l ∷ []) ≡ l = omega (arith, sum-cons l []) in
      let front : take l (take k ys) ≡ take k ys = take_all l (take k ys) (omega (arith, length-take k ys, few, total)) in
      let fewer : sum (l ∷ []) - k ≡ l - k = omega (arith, total) in
      let both : k + (l - k) ≡ l = omega (arith, few, total) in
      ap (λ zs. zs ∷ []) ((λ i. front i ++ take (fewer i) (drop k ys)) ∙ sym (take-add k (l - k) ys) ∙ ap (λ n. take n ys) both)
  going-cut l (l2 ∷ lengths) ys k last few =
      let before = but_last-more l l2 lengths in
      let total = sum-cons l (l2 ∷ lengths) in
      let on : k ≡ l + (k - l) = omega (arith, before, last) in
      let front : take l (take k ys) ≡ take l ys = take-take l k ys (omega (arith, before, last)) in
      let rest : drop l (take k ys) ≡ take (k - l) (drop l ys) = ap (λ n. drop l (take n ys)) on ∙ drop-take l (k - l) ys in
      let fewer : sum (l ∷ l2 ∷ lengths) - k ≡ sum (l2 ∷ lengths) - (k - l) = omega (arith, total, before, last) in
      let behind : drop k ys ≡ drop (k - l) (drop l ys) = ap (λ n. drop n ys) on ∙ sym (drop-drop (k - l) l ys) in
      (λ i. front i ∷ going_on (take l2 (rest i)) (cut_of lengths (drop l2 (rest i))) (take (fewer i) (behind i)))
      ∙ ap (λ zs. take l ys ∷ zs)
      (going-cut l2 lengths (drop l ys) (k - l) (omega (arith, before, last)) (omega (arith, total, few, before, last)))

  -- the elements of a segment that goes on, and the segments that start behind them
  abbrev pub pair : List X → List (List X) → List X × List (List X)
  pair front segments = (front, segments)

  -- A part of n elements has some of a segment that goes on, and some segments that start in it. With what follows they are that segment and
  -- all segments that start behind it.
  one-part : (n left : ℕ) (lengths more : List ℕ) (ys : List X) → n ≤ left + sum lengths → (0 < length lengths → left + sum (but_last lengths) ≤ n)
      → followed_by (take (min left n) (take n ys)) (cut_of lengths (drop (min left n) (take n ys))) (pair (take ((left + sum lengths) - n) (drop n ys)) (cut_of more (drop (left + sum lengths) ys)))
      ≡ pair (take left ys) (cut_of (lengths ++ more) (drop left ys))
  one-part n left [] more ys few last =
      let none : sum [] ≡ 0 = refl in
      let all : left + sum [] ≡ left = omega (arith, none) in
      let head : min left n ≡ n = omega (arith, few, none) in
      let fewer : (left + sum []) - n ≡ left - n = omega (arith, none) in
      let both : n + (left - n) ≡ left = omega (arith, few, none) in
      let front : take (min left n) (take n ys) ++ take ((left + sum []) - n) (drop n ys) ≡ take left ys =
      (λ i. take (head i) (take n ys) ++ take (fewer i) (drop n ys))
      ∙ ap (λ zs. zs ++ take (left - n) (drop n ys)) (take-take n n ys (omega arith)) ∙ sym (take-add n (left - n) ys) ∙ ap (λ m. take m ys) both in
      λ i. pair (front i) (cut_of more (drop (all i) ys))
  one-part n left (l ∷ lengths) more ys few last =
      let enough : left + sum (but_last (l ∷ lengths)) ≤ n = last (omega arith) in
      let k = n - left in
      let total = sum (l ∷ lengths) in
      let on : n ≡ left + k = omega (arith, enough) in
      let head : min left n ≡ left = omega (arith, enough) in
      let front : take (min left n) (take n ys) ≡ take left ys = ap (λ m. take m (take n ys)) head ∙ take-take left n ys (omega (arith, enough)) in
      let own : drop (min left n) (take n ys) ≡ take k (drop left ys) = (λ i. drop (head i) (take (on i) ys)) ∙ drop-take left k ys in
      let fewer : (left + total) - n ≡ total - k = omega (arith, enough) in
      let behind : drop n ys ≡ drop k (drop left ys) = ap (λ m. drop m ys) on ∙ sym (drop-drop k left ys) in
      let others : drop (left + total) ys ≡ drop total (drop left ys) = sym (drop-drop total left ys) in
      let segments : going_on (take l (drop (min left n) (take n ys))) (cut_of lengths (drop l (drop (min left n) (take n ys))))
      (take ((left + total) - n) (drop n ys)) ++ cut_of more (drop (left + total) ys)
      ≡ cut_of ((l ∷ lengths) ++ more) (drop left ys) =
      (λ i. going_on (take l (own i)) (cut_of lengths (drop l (own i))) (take (fewer i) (behind i)) ++ cut_of more (others i))
      ∙ ap (λ zs. zs ++ cut_of more (drop total (drop left ys)))
      (going-cut l lengths (drop left ys) k (omega (arith, enough)) (omega (arith, few, enough)))
      ∙ sym (cut-append (l ∷ lengths) more (drop left ys)) in
      λ i. pair (front i) (segments i)

module _ {X : Type 0} (lengths : List ℕ) (xs : List X) where
  -- a part's elements
  abbrev pub own : CutPart → List X
  own c = slice_range xs c.from c.to

  -- its head, and what it has of the segments that start in it
  abbrev pub segments_of : CutPart → List X × List (List X)
  segments_of c = (take (head_of lengths c) (own c), cut_of (lengths_of lengths c) (drop (head_of lengths c) (own c)))

  -- what goes on at a boundary, and the segments that start behind
  abbrev left_at : ℕ → ℕ → List X × List (List X)
  left_at place first = pair (take (start_of lengths first - place) (drop place xs)) (cut_of (drop first lengths) (drop (start_of lengths first) xs))

  one-cut : (len : ℕ) (c : CutPart) → Bounds lengths len c → followed_by (segments_of c).0 (segments_of c).1 (left_at c.to c.next) ≡ left_at c.from c.first
  one-cut len c b =
      let n = c.to - c.from in let start = start_of lengths c.first in let left = start - c.from in let ls = lengths_of lengths c in let ys = drop c.from xs in
      let all = start-on lengths c.first c.next b.ascend in
      let head : head_of lengths c ≡ min left n = omega arith in
      let fewer : start_of lengths c.next - c.to ≡ (left + sum ls) - n = omega (arith, all, b.begin.reached, b.some) in
      let on : c.to ≡ c.from + n = omega (arith, b.some) in
      let behind : drop c.to xs ≡ drop n ys = ap (λ m. drop m xs) on ∙ sym (drop-drop n c.from xs) in
      let next : start_of lengths c.next ≡ c.from + (left + sum ls) = omega (arith, all, b.begin.reached) in
      let rest : drop (start_of lengths c.next) xs ≡ drop (left + sum ls) ys = ap (λ m. drop m xs) next ∙ sym (drop-drop (left + sum ls) c.from xs) in
      let on_start : c.from + left ≡ start = omega (arith, b.begin.reached) in
      let out : drop left ys ≡ drop start xs = drop-drop left c.from xs ∙ ap (λ m. drop m xs) on_start in
      let lens : ls ++ drop c.next lengths ≡ drop c.first lengths = slice-rest lengths c.first c.next b.ascend in
      let last : 0 < length ls → left + sum (but_last ls) ≤ n = λ some.
      let starts : c.first < c.next = omega (arith, some, length-slice lengths c.first c.next b.end.within) in
      omega (arith, last-start lengths c.first c.next starts b.end.within, b.end.back (omega (arith, starts)), b.begin.reached) in
      (λ i. followed_by (take (head i) (take n ys)) (cut_of ls (drop (head i) (take n ys))) (pair (take (fewer i) (behind i)) (cut_of (drop c.next lengths) (rest i))))
      ∙ one-part n left ls (drop c.next lengths) ys (omega (arith, all, b.end.reached, b.begin.reached)) last
      ∙ (λ i. pair (take left ys) (cut_of (lens i) (out i)))

  together-on : (b : ℕ × ℕ) (others : List (ℕ × ℕ)) → Bounded lengths (length xs) b others → together (map segments_of (between (b ∷ others))) ≡ left_at b.0 b.1
  together-on b [] known =
      let left = start_of lengths b.1 - b.0 in
      let no_elements : take left (drop b.0 xs) ≡ [] = ap (take left) (drop_all b.0 xs (omega (arith, known.0))) ∙ take_all left [] (omega arith) in
      let no_lengths : drop b.1 lengths ≡ [] = drop_all b.1 lengths (omega (arith, known.1)) in
      let none : left_at b.0 b.1 ≡ pair [] [] = λ i. pair (no_elements i) (cut_of (no_lengths i) (drop (start_of lengths b.1) xs)) in
      sym none
  together-on b (next ∷ others) known =
      ap (followed_by (segments_of (cut b next)).0 (segments_of (cut b next)).1) (together-on next others known.1) ∙ one-cut (length xs) (cut b next) known.0

  module _ (others : List (ℕ × ℕ)) (known : Bounded lengths (length xs) (0, 0) others) where
    pub cut-together : together (map segments_of (between ((0, 0) ∷ others))) ≡ pair [] (cut_of lengths xs)
    cut-together = together-on (0, 0) others known

  elements-on : (b : ℕ × ℕ) (others : List (ℕ × ℕ)) → Bounded lengths (length xs) b others → joined (map own (between (b ∷ others))) ≡ drop b.0 xs
  elements-on b [] known = sym (drop_all b.0 xs (omega (arith, known.0)))
  elements-on b (next ∷ others) known = ap (λ zs. own (cut b next) ++ zs) (elements-on next others known.1) ∙ slice-rest xs b.0 next.0 (omega (arith, known.0.some))

  lengths-on : (b : ℕ × ℕ) (others : List (ℕ × ℕ)) → Bounded lengths (length xs) b others → joined (map (lengths_of lengths) (between (b ∷ others))) ≡ drop b.1 lengths
  lengths-on b [] known = sym (drop_all b.1 lengths (omega (arith, known.1)))
  lengths-on b (next ∷ others) known = ap (λ zs. lengths_of lengths (cut b next) ++ zs) (lengths-on next others known.1) ∙ slice-rest lengths b.1 next.1 known.0.ascend

  module _ (others : List (ℕ × ℕ)) (known : Bounded lengths (length xs) (0, 0) others) where
    pub cut-elements : joined (map own (between ((0, 0) ∷ others))) ≡ xs
    cut-elements = elements-on (0, 0) others known

    pub cut-lengths : joined (map (lengths_of lengths) (between ((0, 0) ∷ others))) ≡ lengths
    cut-lengths = lengths-on (0, 0) others known
