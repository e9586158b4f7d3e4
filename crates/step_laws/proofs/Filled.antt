-- What the parts of a result hold, whose segments each have a value: together it is what all segments hold.
use Rattle.std.proofs.Common.{◌≡◌, ◌++◌, ◌+◌, ◌-◌, ◌<◌, ◌≤◌, ◌∙◌, ℕ, zero, suc, true, IsTrue, List, [], ◌∷◌, length, map, take, drop, min, sum, zip, get_or, refl, sym, ap, arith}
use Rattle.std.proofs.Common.{subst, All, append_assoc, length-append, length-drop, take_at, take_all, drop-drop}
use Rattle.std.proofs.lemmas.List.{append-nil, length-map, drop_more, get_or-drop, length-take, map-append}
use Rattle.std.proofs.lemmas.List.Elements.{All-cons, All-head, All-nil, All-tail}
use Rattle.call_laws.specs.OverRanks.{followed_by, going_on, together}
use Rattle.cvl_base.proofs.Lists.{sum-cons}
use Rattle.cvl_base.proofs.Nests.{length-cut, lengths-cut}
use Rattle.cvl_base.specs.Limits.{most_places}
use Rattle.cvl_base.specs.Lists.{joined}
use Rattle.cvl_base.specs.Nests.{cut_of}
use Rattle.segment_fills.proofs.Written.{take-both}
use Rattle.segment_fills.specs.Fills.{with_head}
use Rattle.segment_parts.specs.Reduces.{but_last, is_part}
use Rattle.run_parts.proofs.PartRuns.{bounds}
use Rattle.step_laws.specs.FillParts.{ArePartsOf, FillPart, HaveValues, done_behind, opened, room_of, segments_in}
use Rattle.step_laws.proofs.CutBounds.{but_last-more}
use Rattle.step_laws.proofs.Parted.{some-fewer}
use Rattle.step_laws.proofs.SegmentLengths.{nested, some-less}

-- ---- lengths of what parts have together

module _ {Y : Type 0} where
  pub same-front : (xs ys us ws : List Y) → length xs ≡ length us → xs ++ ys ≡ us ++ ws → (xs ≡ us) × (ys ≡ ws)
  same-front [] ys [] ws long same = (refl, same)
  same-front [] ys (u ∷ us) ws long same = absurd (omega (arith, long))
  same-front (x ∷ xs) ys [] ws long same = absurd (omega (arith, long))
  same-front (x ∷ xs) ys (u ∷ us) ws long same =
      let rest = same-front xs ys us ws (omega (arith, long)) (ap (drop 1) same) in
      let first : take 1 (x ∷ (xs ++ ys)) ≡ take 1 (u ∷ (us ++ ws)) = ap (take 1) same in
      ((λ i. first i ++ rest.0 i), rest.1)

  pub lengths-going_on : (segment : List Y) (others : List (List Y)) (more : List Y)
      → (sum (map length (going_on segment others more)) ≡ sum (map length (segment ∷ others)) + length more) × (length (going_on segment others more) ≡ length (segment ∷ others))
  lengths-going_on segment [] more =
      (omega (arith, sum-cons (length (segment ++ more)) [], sum-cons (length segment) [], length-append segment more), refl)
  lengths-going_on segment (other ∷ others) more =
      let rest = lengths-going_on other others more in (
        omega (arith, rest.0, sum-cons (length segment) (map length (going_on other others more)), sum-cons (length segment) (map length (other ∷ others))),
        ap suc rest.1,
      )

  pub sums-cut : (lengths : List ℕ) (xs : List Y) → sum (map length (cut_of lengths xs)) ≡ min (sum lengths) (length xs)
  sums-cut [] xs = omega arith
  sums-cut (n ∷ lengths) xs =
      omega (arith, sum-cons (length (take n xs)) (map length (cut_of lengths (drop n xs))), length-take n xs, sums-cut lengths (drop n xs), length-drop n xs, sum-cons n lengths)

-- ---- what segments hold

-- what a segment of a value has at so many places from one on
pub record Holds {X Y : Type 0} (of : X → ℕ → ℕ → List Y) : Type 0 where
  pub more : (x : X) (a n m : ℕ) → of x a n ++ of x (a + n) m ≡ of x a (n + m)
  pub long : (x : X) (a n : ℕ) → length (of x a n) ≡ n

module _ {X Y : Type 0} (of : X → ℕ → ℕ → List Y) (holds : Holds of) (d : X) where
  -- what segments with these values and lengths hold
  abbrev pub all_of : List X → List ℕ → List Y
  all_of values lengths = joined (map (λ p. of p.0 0 p.1) (zip values lengths))

  -- what a part has of its open segment, from the first value
  abbrev pub first_of : List X → ℕ → ℕ → List Y
  first_of [] a n = []
  first_of (x ∷ xs) a n = of x a n

  -- what a part holds whose open segment has so many elements before
  abbrev pub held : ℕ → ℕ → List ℕ → List X → ℕ → List Y
  held done head lengths values n = first_of values done head ++ take (n - head) (all_of (drop (opened head) values) lengths)

  abbrev pub held_from : ℕ → List (FillPart X Y) → List Y
  held_from done [] = []
  held_from done (p ∷ parts) = held done p.head p.lengths p.values (length p.room) ++ held_from (done_behind done p.head p.lengths (length p.room)) parts

  none : (x : X) (a n : ℕ) → n ≡ 0 → of x a n ≡ []
  none x a n is = nil_of (of x a n) (holds.long x a n ∙ is)
    where
      nil_of : (ys : List Y) → length ys ≡ 0 → ys ≡ []
      nil_of [] is = refl
      nil_of (y ∷ ys) is = absurd (omega (arith, is))

  all-nil : (values : List X) → all_of values [] ≡ []
  all-nil [] = refl
  all-nil (x ∷ values) = refl

  all-few : (values : List X) (lengths : List ℕ) → all_of (take (length lengths) values) lengths ≡ all_of values lengths
  all-few values [] = all-nil (take 0 values) ∙ sym (all-nil values)
  all-few [] (n ∷ lengths) = refl
  all-few (x ∷ values) (n ∷ lengths) = ap (λ ys. of x 0 n ++ ys) (all-few values lengths)

  all-append : (values : List X) (lengths more : List ℕ) → length lengths ≤ length values
      → all_of values (lengths ++ more) ≡ all_of values lengths ++ all_of (drop (length lengths) values) more
  all-append values [] more few = ap (λ ys. ys ++ all_of values more) (sym (all-nil values))
  all-append [] (n ∷ lengths) more few = absurd (omega (arith, few))
  all-append (x ∷ values) (n ∷ lengths) more few =
      ap (λ ys. of x 0 n ++ ys) (all-append values lengths more (omega (arith, few)))
      ∙ sym (append_assoc (of x 0 n) (all_of values lengths) (all_of (drop (length lengths) values) more))

  -- the last of some segments goes on
  last-goes-on : (values : List X) (l : ℕ) (lengths : List ℕ) (last : X) (k m : ℕ) → length (l ∷ lengths) ≤ length values → last ≡ get_or values (length lengths) d
      → sum (but_last (l ∷ lengths)) ≤ k → k + m ≡ sum (l ∷ lengths)
      → take k (all_of values (l ∷ lengths)) ++ of last (k - sum (but_last (l ∷ lengths))) m ≡ all_of values (l ∷ lengths)
  last-goes-on [] l lengths last k m few is le all = absurd (omega (arith, few))
  last-goes-on (v ∷ values) l [] last k m few is le all =
      let none_before : sum (but_last (l ∷ [])) ≡ 0 = refl in
      let long : l ≡ k + m = omega (arith, all, sum-cons l []) in
      let place : k - sum (but_last (l ∷ [])) ≡ k = omega (arith, none_before) in
      let start : 0 + k ≡ k = omega arith in
      let whole : of v 0 l ++ all_of values [] ≡ of v 0 k ++ of v k m =
      ap (λ ys. of v 0 l ++ ys) (all-nil values) ∙ append-nil (of v 0 l) ∙ ap (of v 0) long ∙ sym (holds.more v 0 k m) ∙ ap (λ a. of v 0 k ++ of v a m) start in
      let front : take k (of v 0 l ++ all_of values []) ≡ of v 0 k = ap (take k) whole ∙ take_at (of v 0 k) (of v k m) k (omega (arith, holds.long v 0 k)) in
      (λ i. front i ++ of (is i) (place i) m) ∙ sym whole
  last-goes-on (v ∷ values) l (l2 ∷ lengths) last k m few is le all =
      let rest = all_of values (l2 ∷ lengths) in
      let before = but_last-more l l2 lengths in
      let total = sum-cons l (l2 ∷ lengths) in
      let left : k - length (of v 0 l) ≡ k - l = omega (arith, holds.long v 0 l) in
      let place : k - sum (but_last (l ∷ l2 ∷ lengths)) ≡ (k - l) - sum (but_last (l2 ∷ lengths)) = omega (arith, before) in
      let front : take k (of v 0 l ++ rest) ≡ of v 0 l ++ take (k - l) rest =
      take-both k (of v 0 l) rest ∙ (λ i. take_all k (of v 0 l) (omega (arith, holds.long v 0 l, before, le)) i ++ take (left i) rest) in
      let others = last-goes-on values l2 lengths last (k - l) m (omega (arith, few)) is (omega (arith, before, le)) (omega (arith, before, le, total, all)) in
      (λ i. front i ++ of last (place i) m)
      ∙ append_assoc (of v 0 l) (take (k - l) rest) (of last ((k - l) - sum (but_last (l2 ∷ lengths))) m)
      ∙ ap (λ ys. of v 0 l ++ ys) others

  first-none : (own : List X) (a : ℕ) → first_of own a 0 ≡ []
  first-none [] a = refl
  first-none (x ∷ own) a = none x a 0 refl

  -- a part's values: that of its open segment, and those of the segments that start in it
  own-values : (values own : List X) (done first head count : ℕ) → own ≡ take (opened head + count) (drop (first - opened head) values) → (0 < head → 0 < first) → first ≤ length values
      → (first_of own done head ≡ of (get_or values (first - 1) d) done head) × (drop (opened head) own ≡ take count (drop first values))
  own-values values own done first zero count is begun few =
      let as_many : 0 + count ≡ count = omega arith in let from : first - 0 ≡ first = omega arith in
      (first-none own done ∙ sym (none (get_or values (first - 1) d) done 0 refl), is ∙ λ i. take (as_many i) (drop (from i) values))
  own-values values own done first (suc h) count is begun few =
      let some : 0 < first = begun (omega arith) in
      let as_many : 1 + count ≡ suc count = omega arith in
      let next : first - 1 + 1 ≡ first = omega (arith, some) in
      let own_is : own ≡ get_or values (first - 1) d ∷ take count (drop first values) =
      is ∙ (λ i. take (as_many i) (drop_more values (first - 1) d (omega (arith, some, few)) i))
      ∙ ap (λ k. get_or values (first - 1) d ∷ take count (drop k values)) next in
      (ap (λ o. first_of o done (suc h)) own_is, ap (drop 1) own_is)

  take-nil : (n : ℕ) (ys : List Y) → ys ≡ [] → take n ys ≡ []
  take-nil zero ys is = refl
  take-nil (suc n) [] is = refl
  take-nil (suc n) (y ∷ ys) is = absurd (omega (arith, ap length is))

  -- one part, and the others behind it
  module _ (values : List X) (done first head : ℕ) (own : List X) (room front : List Y) (segments : List (List Y)) (more : List ℕ) (rest : List Y) where
    abbrev here : List ℕ → List Y × List (List Y)
    here lengths = followed_by (take head room) (cut_of lengths (drop head room)) (front, segments)

    step : (lengths : List ℕ) → is_part head lengths (length room) ≡ true → first + length (lengths ++ more) ≡ length values
        → own ≡ take (opened head + length lengths) (drop (first - opened head) values) → (0 < length (here lengths).0 → 0 < first) → map length (here lengths).1 ≡ lengths ++ more
        → ((0 < length front → 0 < first + length lengths) → map length segments ≡ more
        → rest ≡ of (get_or values (first + length lengths - 1) d) (done_behind done head lengths (length room)) (length front) ++ all_of (drop (first + length lengths) values) more)
        → held done head lengths own (length room) ++ rest ≡ of (get_or values (first - 1) d) done (length (here lengths).0) ++ all_of (drop first values) (lengths ++ more)
    step [] is count have begun cut others =
        let n = length room in let v = get_or values (first - 1) d in
        let all : n ≡ head = omega (arith, bounds head [] n is) in
        let long : length (take head room ++ front) ≡ head + length front = omega (arith, length-append (take head room) front, length-take head room, all) in
        let ow = own-values values own done first head 0 have (λ some. begun (omega (arith, long, some))) (omega (arith, count)) in
        let at : first + 0 ≡ first = omega arith in
        let so_far : done + n ≡ done + head = omega (arith, all) in
        let rest_is : rest ≡ of v (done + head) (length front) ++ all_of (drop first values) more =
        others (λ some. omega (arith, begun (omega (arith, long, some)))) cut ∙ (λ i. of (get_or values (at i - 1) d) (so_far i) (length front) ++ all_of (drop (at i) values) more) in
        (λ i. (ow.0 i ++ take-nil (n - head) (all_of (drop (opened head) own) []) (all-nil (drop (opened head) own)) i) ++ rest_is i)
        ∙ ap (λ ys. ys ++ (of v (done + head) (length front) ++ all_of (drop first values) more)) (append-nil (of v done head))
        ∙ sym (append_assoc (of v done head) (of v (done + head) (length front)) (all_of (drop first values) more))
        ∙ ap (λ ys. ys ++ all_of (drop first values) more) (holds.more v done head (length front) ∙ ap (of v done) (sym long))
    step (l ∷ ls) is count have begun cut others =
        let n = length room in let v = get_or values (first - 1) d in let lengths : List ℕ = l ∷ ls in
        let c = length lengths in let last = get_or values (first + c - 1) d in let m = length front in
        let enough : head + sum (but_last lengths) ≤ n = (bounds head lengths n is).0 in
        let few : n ≤ head + sum lengths = (bounds head lengths n is).1 in
        let starts = drop head room in
        let own_segments = going_on (take l starts) (cut_of ls (drop l starts)) front in
        let sums = lengths-going_on (take l starts) (cut_of ls (drop l starts)) front in
        let split = same-front (map length own_segments) (map length segments) lengths more
        (omega (arith, length-map own_segments length, sums.1, length-cut ls (drop l starts))) (sym (map-append length own_segments segments) ∙ cut) in
        let total : (n - head) + m ≡ sum lengths =
        omega (arith, ap sum split.0, sums.0, sums-cut lengths starts, length-drop head room, few, enough) in
        let long : length (take head room) ≡ head = omega (arith, length-take head room, enough) in
        let as_many : first + c + length more ≡ length values = omega (arith, count, length-append lengths more) in
        let ow = own-values values own done first head c have (λ some. begun (omega (arith, long, some))) (omega (arith, as_many)) in
        let place : n - head - sum (but_last lengths) ≡ n - (head + sum (but_last lengths)) = omega arith in
        let left : first + c - 1 ≡ first + length ls = omega arith in
        let t = all_of (drop first values) lengths in let u = all_of (drop (first + c) values) more in
        let own_is : all_of (drop (opened head) own) lengths ≡ t = ap (λ o. all_of o lengths) ow.1 ∙ all-few (drop first values) lengths in
        let rest_is = others (λ some. omega arith) split.1 in
        let enough_values : length lengths ≤ length (drop first values) = omega (arith, as_many, length-drop first values) in
        let last_is : last ≡ get_or (drop first values) (length ls) d = ap (λ k. get_or values k d) left ∙ sym (get_or-drop first values (length ls) d) in
        let goes : take (n - head) t ++ of last (n - (head + sum (but_last lengths))) m ≡ t =
        sym (ap (λ k. take (n - head) t ++ of last k m) place)
        ∙ last-goes-on (drop first values) l ls last (n - head) m enough_values last_is (omega (arith, enough)) total in
        let behind : all_of (drop c (drop first values)) more ≡ u = ap (λ vs. all_of vs more) (drop-drop c first values ∙ ap (λ k. drop k values) (omega arith)) in
        (λ i. (ow.0 i ++ take (n - head) (own_is i)) ++ rest_is i)
        ∙ append_assoc (of v done head) (take (n - head) t) (of last (n - (head + sum (but_last lengths))) m ++ u)
        ∙ ap (λ ys. of v done head ++ ys) (sym (append_assoc (take (n - head) t) (of last (n - (head + sum (but_last lengths))) m) u) ∙ ap (λ ys. ys ++ u) goes
        ∙ ap (λ ys. t ++ ys) (sym behind) ∙ sym (all-append (drop first values) lengths more enough_values))
        ∙ ap (λ k. of v done k ++ all_of (drop first values) (lengths ++ more)) (sym long)

  pub held-together : (values : List X) (done first : ℕ) (parts : List (FillPart X Y)) → All (λ p. IsTrue (is_part p.head p.lengths (length p.room))) parts
      → first + length (joined (map (λ p. p.lengths) parts)) ≡ length values → HaveValues values first parts → (0 < length (together (map segments_in parts)).0 → 0 < first)
      → map length (together (map segments_in parts)).1 ≡ joined (map (λ p. p.lengths) parts)
      → held_from done parts ≡ of (get_or values (first - 1) d) done (length (together (map segments_in parts)).0) ++ all_of (drop first values) (joined (map (λ p. p.lengths) parts))
  held-together values done first [] each count have begun cut =
      sym (λ i. none (get_or values (first - 1) d) done 0 refl i ++ all-nil (drop first values) i)
  held-together values done first (p ∷ parts) each count have begun cut =
      let IsPart = λ (q : FillPart X Y). IsTrue (is_part q.head q.lengths (length q.room)) in
      let behind = together (map segments_in parts) in let n = length p.room in
      let more = joined (map (λ (q : FillPart X Y). q.lengths) parts) in
      step values done first p.head p.values p.room behind.0 behind.1 more (held_from (done_behind done p.head p.lengths n) parts) p.lengths
      (All-head IsPart p parts each) count have.0 begun cut
      (λ begins same. held-together values (done_behind done p.head p.lengths n) (first + length p.lengths) parts (All-tail IsPart p parts each)
      (omega (arith, count, length-append p.lengths more)) have.1 begins same)

  -- if no segment began before the parts, they hold what all segments hold
  pub filled : (segments : List ℕ) (values : List X) (parts : List (FillPart X Y)) → ArePartsOf segments values parts → held_from 0 parts ≡ all_of values segments
  filled segments values parts are =
      let nests = nested segments (room_of parts) are.whole.0 are.whole.1 in
      let pieces = together (map segments_in parts) in
      let cut : map length pieces.1 ≡ joined (map (λ p. p.lengths) parts) =
      ap (map length) (ap (λ t. t.1) are.whole.2 ∙ nests.1) ∙ lengths-cut segments (room_of parts) (omega (arith, nests.0)) ∙ are.in_order in
      let empty : length pieces.0 ≡ 0 = ap (λ t. length t.0) are.whole.2 in
      held-together values 0 0 parts are.each (omega (arith, are.one_each, ap length are.in_order)) are.have_values (λ some. absurd (omega (arith, some, empty))) cut
      ∙ ap (λ ys. ys ++ all_of values (joined (map (λ p. p.lengths) parts))) (none (get_or values (0 - 1) d) 0 (length pieces.0) empty)
      ∙ ap (all_of values) (sym are.in_order)

-- ---- the values of parts

-- a part has a value for each of its segments, and not too many elements and lengths
pub record Fits {X Y : Type 0} (p : FillPart X Y) : Type 0 where
  pub part : IsTrue (is_part p.head p.lengths (length p.room))
  pub one_each : length p.values ≡ length (with_head p.head p.lengths)
  pub few_elements : length p.room ≤ most_places
  pub few_lengths : length p.lengths ≤ most_places
  pub small : sum p.lengths ≤ most_places

module _ {Y : Type 0} where
  begins : (first head : ℕ) (room front : List Y) (segments : List (List Y)) (lengths : List ℕ) → is_part head lengths (length room) ≡ true
      → (0 < length (followed_by (take head room) (cut_of lengths (drop head room)) (front, segments)).0 → 0 < first)
      → (0 < head → 0 < first) × (0 < length front → 0 < first + length lengths)
  begins first head room front segments [] is begun =
      let long : length (take head room ++ front) ≡ head + length front =
      omega (arith, length-append (take head room) front, length-take head room, bounds head [] (length room) is) in
      ((λ some. begun (omega (arith, long, some))), λ some. omega (arith, begun (omega (arith, long, some))))
  begins first head room front segments (l ∷ ls) is begun =
      let long : length (take head room) ≡ head = omega (arith, length-take head room, bounds head (l ∷ ls) (length room) is) in
      ((λ some. begun (omega (arith, long, some))), λ some. omega arith)

module _ {X : Type 0} where
  own-long : (values own : List X) (first head : ℕ) (lengths : List ℕ) → own ≡ take (opened head + length lengths) (drop (first - opened head) values) → (0 < head → 0 < first)
      → first + length lengths ≤ length values → length own ≡ length (with_head head lengths)
  own-long values own first zero lengths is begun few =
      omega (arith, ap length is, length-take (0 + length lengths) (drop (first - 0) values), length-drop (first - 0) values, few)
  own-long values own first (suc h) lengths is begun few =
      let some : 0 < first = begun (omega arith) in
      omega (arith, ap length is, length-take (1 + length lengths) (drop (first - 1) values), length-drop (first - 1) values, few, some)

module _ {X Y : Type 0} where
  values-long : (values : List X) (first : ℕ) (parts : List (FillPart X Y)) → All (λ p. IsTrue (is_part p.head p.lengths (length p.room))) parts
      → first + length (joined (map (λ p. p.lengths) parts)) ≡ length values → HaveValues values first parts → (0 < length (together (map segments_in parts)).0 → 0 < first)
      → All (λ p. length p.values ≡ length (with_head p.head p.lengths)) parts
  values-long values first [] each count have begun = All-nil (λ p. length p.values ≡ length (with_head p.head p.lengths))
  values-long values first (p ∷ parts) each count have begun =
      let IsPart = λ (q : FillPart X Y). IsTrue (is_part q.head q.lengths (length q.room)) in
      let behind = together (map segments_in parts) in let more = joined (map (λ (q : FillPart X Y). q.lengths) parts) in
      let both = begins first p.head p.room behind.0 behind.1 p.lengths (All-head IsPart p parts each) begun in
      let total = length-append p.lengths more in
      All-cons (λ q. length q.values ≡ length (with_head q.head q.lengths)) p parts
      (own-long values p.values first p.head p.lengths have.0 both.0 (omega (arith, count, total)))
      (values-long values (first + length p.lengths) parts (All-tail IsPart p parts each) (omega (arith, count, total)) have.1 both.1)

  pub all-fit : (segments : List ℕ) (values : List X) (parts : List (FillPart X Y)) → length segments ≤ most_places → sum segments ≤ most_places → ArePartsOf segments values parts
      → All Fits parts
  all-fit segments values parts few small are =
      let nests = nested segments (room_of parts) are.whole.0 are.whole.1 in
      let empty : length (together (map segments_in parts)).0 ≡ 0 = ap (λ t. length t.0) are.whole.2 in
      let valued = values-long values 0 parts are.each (omega (arith, are.one_each, ap length are.in_order)) are.have_values (λ some. absurd (omega (arith, some, empty))) in
      let fewer = some-fewer (λ p. p.room) most_places parts (omega (arith, nests.0, small)) in
      let shorter = some-fewer (λ p. p.lengths) most_places parts (subst (λ ns. length ns ≤ most_places) are.in_order few) in
      let less = some-less (λ p. p.lengths) most_places parts (subst (λ ns. sum ns ≤ most_places) are.in_order small) in
      λ k d within. record {
        part = are.each k d within;
        one_each = valued k d within;
        few_elements = fewer k d within;
        few_lengths = shorter k d within;
        small = less k d within;
      }
