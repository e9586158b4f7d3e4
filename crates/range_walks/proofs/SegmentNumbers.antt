-- Where segments end, counted, and the reduces and scans of the segments as their elements are joined one by one.
-- Source: what the definitions of ends, of reduces and of scans imply.
use Rattle.range_walks.proofs.Cited.{◌≡◌, ℕ, ℤ, unsigned_abs, zero, suc, ◌+◌, ◌-◌, ◌<◌, ◌≤◌, Bool, List, [], ◌∷◌, ◌++◌}
use Rattle.range_walks.proofs.Cited.{length, take, drop, map, get_or, refl, subst, sym, ap, ◌∙◌, true, IsTrue, arith, sum, AllPass}
use Rattle.range_walks.proofs.Cited.{take_all, drop_all, drop-take, length-take, length-drop, length-map, sum_by_more, sum_by-take-drop, sum-cons, All-take, All-drop, fold_of, fold_of_is_item}
use Rattle.range_walks.proofs.Cited.{MonoidLaws, start_of, cut_of, reduces_of, append-nil, scan_of, scan_of_more, scans_of}
use Rattle.range_walks.specs.Ends.{AreEnds, IsIn}
use Rattle.range_walks.proofs.Cut.{start_of_all}
use Rattle.cvl_base.specs.Descriptors.{AreLengthsWithin}
use Rattle.cvl_base.specs.Limits.{most_places}
use Rattle.range_walks.proofs.Scanned.{joined_more}
use Rattle.range_walks.proofs.Segments.{length_here, read_at}
use Rattle.cvl_base.proofs.Nests.{length-cut}
use Rattle.std.specs.Prelude.{◌*◌, ◌^◌, replicate, set}
use Rattle.std.proofs.Common.{⊎_elim, append_assoc, take-take}
use Rattle.std.proofs.lemmas.Bool.{cases_lt}
use Rattle.std.proofs.lemmas.List.{take-set-le, get_or_append_left, get_or-drop, take-append-le, get_or-take, replicate-append-replicate, set-append_left}
use Rattle.std.proofs.lemmas.List.Sums.{sum_by-set}
use Rattle.std.proofs.Math.Seq.{take-set-lt}
use Rattle.std.proofs.Math.Nat.{mul-le-mul_left}
use prog.Capped.{capped_is, capped_small}
use prog.Memory.{capped}

-- ---- the count

-- the ends of the first s segments are counted, and the next one starts at `start`
pub record IsCounted (lengths ends : List ℕ) (s start : ℕ) : Type 0 where
  pub before : (place : ℕ) → place < start → IsIn lengths (sum (take (place + 1) ends)) place
  pub after : (place : ℕ) → start ≤ place → sum (take (place + 1) ends) ≡ s

zeros : (n k : ℕ) → sum (take k (replicate n 0)) ≡ 0
zeros zero k = ap sum (take_all k [] (omega arith))
zeros (suc n) zero = refl
zeros (suc n) (suc k) = omega (arith, sum-cons 0 (take k (replicate n 0)), zeros n k)

pub none_counted : (lengths : List ℕ) (n : ℕ) → IsCounted lengths (replicate n 0) 0 0
none_counted lengths n = record { before = λ place lt. absurd (omega (arith, lt)); after = λ place le. zeros n (place + 1) }

-- fewer end at a place than were counted
pub few_there : (ends : List ℕ) (place : ℕ) → place < length ends → get_or ends place 0 ≤ sum (take (place + 1) ends)
few_there ends place lt = omega (arith, sum_by_more (λ x. x) ends place 0 lt)

-- the end of one more segment
pub counted_more : (lengths ends : List ℕ) (s start end y : ℕ) → IsCounted lengths ends s start → start ≡ start_of lengths s → end ≡ start_of lengths (s + 1) → start ≤ end → end < length ends
    → y ≡ get_or ends end 0 + 1 → IsCounted lengths (set ends end y) (s + 1) end
counted_more lengths ends s start end y counted is_start is_end in_order within is_y =
    let kept : (place : ℕ) → place < end → sum (take (place + 1) (set ends end y)) ≡ sum (take (place + 1) ends) = λ place lt. ap sum (take-set-le (place + 1) ends end y (omega (arith, lt))) in
    let number : (place : ℕ) → place < end → IsIn lengths (sum (take (place + 1) ends)) place = λ place lt. ⊎_elim (λ (earlier : place < start). counted.before place earlier)
    (λ (own : start ≤ place). subst (λ k. IsIn lengths k place) (sym (counted.after place own)) (omega (arith, own, is_start), omega (arith, lt, is_end))) (cases_lt place start) in
    record {
      before = λ place lt. subst (λ k. IsIn lengths k place) (sym (kept place lt)) (number place lt);
      after = λ place le.
          let front = take (place + 1) ends in
          let there : end < length front = omega (arith, le, within, length-take (place + 1) ends) in
          ap sum (take-set-lt (place + 1) ends end y (omega (arith, le)))
          ∙ omega (arith, sum_by-set (λ x. x) front end y 0 there, get_or-take (place + 1) ends end 0 (omega (arith, le)), counted.after place (omega (arith, le, in_order)), is_y);
    }

-- there is a place for it
pub end_within : {row : List ℤ} {s : ℕ} (start len : ℕ) → AreLengthsWithin most_places row → s < length row → start ≡ start_of (map unsigned_abs row) s → sum (map unsigned_abs row) < len
    → start + read_at row s < len
end_within {row = row} {s = s} start len are lt is room = omega (arith, (length_here are lt).next, is, room, sum_by-take-drop (λ x. x) (map unsigned_abs row) (s + 1))

-- ---- the number of the segment that holds a place

pub in_count : (lengths : List ℕ) (s place : ℕ) → IsIn lengths s place → s < length lengths
in_count lengths s place holds = ⊎_elim (λ (lt : s < length lengths). lt)
    (λ (ge : length lengths ≤ s). absurd (omega (arith, holds.0, holds.1, start_of_all lengths s ge, start_of_all lengths (s + 1) (omega (arith, ge))))) (cases_lt s (length lengths))

-- a segment of at most 128 that holds the place, with the number that the counts up to there make
pub record IsHolder (row : List ℤ) (ends : List ℕ) (place s : ℕ) : Type 0 where
  pub number : s ≡ sum (take (place + 1) ends)
  pub holds : IsIn (map unsigned_abs row) s place
  pub own : s < length (map unsigned_abs row)
  pub below : s < 128

-- the number of the segment that holds the next place
pub holder : (row : List ℤ) (ends : List ℕ) (count place segment : ℕ) → AreEnds (map unsigned_abs row) ends → count ≤ sum (map unsigned_abs row) → count ≤ length ends → place < count
    → segment ≡ sum (take place ends) → length row ≤ 128 → IsHolder row ends place (segment + get_or ends place 0)
holder row ends count place segment are covered places lt is few =
    let lengths = map unsigned_abs row in
    let next = segment + get_or ends place 0 in
    let number : next ≡ sum (take (place + 1) ends) = omega (arith, is, sum_by_more (λ x. x) ends place 0 (omega (arith, lt, places))) in
    let holds = subst (λ k. IsIn lengths k place) (sym number) (are place (omega (arith, lt, covered))) in
    let own = in_count lengths next place holds in
    record { number = number; holds = holds; own = own; below = omega (arith, own, few, length-map row unsigned_abs) }

-- a place behind the first segment, counted from its end
in_later : (n : ℕ) (ls : List ℕ) (s place m : ℕ) → IsIn (n ∷ ls) (suc s) place → place ≡ n + m → IsIn ls s m
in_later n ls s place m holds is =
    let one_on : suc s + 1 ≡ suc (s + 1) = omega arith in
    let ends : start_of (n ∷ ls) (suc s + 1) ≡ n + start_of ls (s + 1) = ap (start_of (n ∷ ls)) one_on ∙ sum-cons n (take (s + 1) ls) in
    (omega (arith, holds.0, is, sum-cons n (take s ls)), omega (arith, holds.1, is, ends))

-- the place of a sum among a few small ones has a number that fits
pub offset_fits : (i n bytes : ℕ) → bytes ≡ capped n → bytes ≤ 16 → i < 128 → i * n < 2 ^ 64
offset_fits i n bytes is small few =
    let under : n < 2 ^ 63 = capped_small n (omega (arith, is, small)) in
    let same : capped n ≡ n = capped_is n (omega (arith, under)) in
    omega (arith, mul-le-mul_left {m = n} {n = 16} i (omega (arith, is, small, same)), few)

-- ---- the reduces of the segments as their elements are joined

module _ {Item : Type 0} (join : Item → Item → Item) (unit : Item) where
  pub length-reduced : (lengths : List ℕ) (xs : List Item) → length (reduces_of join unit lengths xs) ≡ length lengths
  length-reduced lengths xs = length-map (cut_of lengths xs) (fold_of join unit) ∙ length-cut lengths xs

  pub none_joined : (lengths : List ℕ) → reduces_of join unit lengths [] ≡ replicate (length lengths) unit
  none_joined [] = refl
  none_joined (n ∷ ls) = (λ i. fold_of join unit (take_all n [] (omega arith) i) ∷ reduces_of join unit ls (drop_all n [] (omega arith) i)) ∙ ap (λ sums. unit ∷ sums) (none_joined ls)

  -- before any element is joined, the sums are units, as those behind them
  pub none_reduced : (lengths : List ℕ) (n more : ℕ) → n ≡ length lengths + more → replicate n unit ≡ reduces_of join unit lengths [] ++ replicate more unit
  none_reduced lengths n more is = ap (λ k. replicate k unit) is ∙ sym (replicate-append-replicate (length lengths) more unit) ∙ ap (λ sums. sums ++ replicate more unit) (sym (none_joined lengths))

  -- the sum of a segment, as it is read among them
  pub sum_read : (lengths : List ℕ) (xs units sums : List Item) (s : ℕ) (d : Item) → sums ≡ reduces_of join unit lengths xs ++ units → s < length lengths
      → get_or sums s d ≡ get_or (reduces_of join unit lengths xs) s d
  sum_read lengths xs units sums s d is lt = ap (λ row. get_or row s d) is ∙ get_or_append_left (reduces_of join unit lengths xs) units d s (omega (arith, lt, length-reduced lengths xs))

  -- the sums of all segments
  pub sums_read : (lengths : List ℕ) (xs units sums : List Item) (n : ℕ) → sums ≡ reduces_of join unit lengths xs ++ units → n ≡ length lengths → take n sums ≡ reduces_of join unit lengths xs
  sums_read lengths xs units sums n is is_n =
      let long : n ≡ length (reduces_of join unit lengths xs) = is_n ∙ sym (length-reduced lengths xs) in
      ap (take n) is ∙ take-append-le n (reduces_of join unit lengths xs) units (omega (arith, long)) ∙ take_all n (reduces_of join unit lengths xs) (omega (arith, long))

  -- an element of the first segment, and one of a later segment
  reduced_here : (n : ℕ) (ls : List ℕ) (xs : List Item) (place : ℕ) → place ≤ n → place ≤ length xs
      → reduces_of join unit (n ∷ ls) (take place xs) ≡ fold_of join unit (take place xs) ∷ reduces_of join unit ls []
  reduced_here n ls xs place lt within =
      let few : length (take place xs) ≤ n = omega (arith, length-take place xs, lt) in
      λ i. fold_of join unit (take_all n (take place xs) few i) ∷ reduces_of join unit ls (drop_all n (take place xs) few i)

  reduced_later : (n : ℕ) (ls : List ℕ) (xs : List Item) (place m : ℕ) → place ≡ n + m
      → reduces_of join unit (n ∷ ls) (take place xs) ≡ fold_of join unit (take n xs) ∷ reduces_of join unit ls (take m (drop n xs))
  reduced_later n ls xs place m is = cc (is, take-take n (n + m) xs (omega arith), drop-take n m xs)

  -- an element at the place is joined to the reduce of segment s, which was `before`
  pub reduced_more : (lengths : List ℕ) (xs : List Item) (place s : ℕ) (d before x next : Item) → IsIn lengths s place → place < length xs → x ≡ get_or xs place x
      → before ≡ get_or (reduces_of join unit lengths (take place xs)) s d → next ≡ join before x
      → set (reduces_of join unit lengths (take place xs)) s next ≡ reduces_of join unit lengths (take (place + 1) xs)
  reduced_more [] xs place s d before x next holds within is_x is_before is_next = absurd (omega (arith, holds.1, start_of_all [] (s + 1) (omega arith)))
  reduced_more (n ∷ ls) xs place zero d before x next holds within is_x is_before is_next =
      let inside : place < n = omega (arith, holds.1, sum-cons n []) in
      let now = reduced_here n ls xs place (omega (arith, inside)) (omega (arith, within)) in
      let is : before ≡ fold_of join unit (take place xs) = is_before ∙ ap (λ sums. get_or sums 0 d) now in
      ap (λ sums. set sums 0 next) now
      ∙ ap (λ y. y ∷ reduces_of join unit ls []) (joined_more join unit before x next xs place within is_x is is_next)
      ∙ sym (reduced_here n ls xs (place + 1) (omega (arith, inside)) (omega (arith, within)))
  reduced_more (n ∷ ls) xs place (suc s) d before x next holds within is_x is_before is_next =
      let m : ℕ = place - n in
      let is_place : place ≡ n + m = omega (arith, holds.0, sum-cons n (take s ls)) in
      let there : IsIn ls s m = in_later n ls s place m holds is_place in
      let now = reduced_later n ls xs place m is_place in
      let read : x ≡ get_or (drop n xs) m x = is_x ∙ ap (λ k. get_or xs k x) is_place ∙ sym (get_or-drop n xs m x) in
      let is : before ≡ get_or (reduces_of join unit ls (take m (drop n xs))) s d = is_before ∙ ap (λ sums. get_or sums (suc s) d) now in
      ap (λ sums. set sums (suc s) next) now
      ∙ ap (λ sums. fold_of join unit (take n xs) ∷ sums) (reduced_more ls (drop n xs) m s d before x next there (omega (arith, within, is_place, length-drop n xs)) read is is_next)
      ∙ sym (reduced_later n ls xs (place + 1) (m + 1) (omega (arith, is_place)))

  -- the step of a walk that keeps them, with units behind them
  pub sums_more : (lengths : List ℕ) (xs units sums : List Item) (place s : ℕ) (d x next : Item) → IsIn lengths s place → place < length xs → x ≡ get_or xs place x
      → sums ≡ reduces_of join unit lengths (take place xs) ++ units → next ≡ join (get_or sums s d) x → set sums s next ≡ reduces_of join unit lengths (take (place + 1) xs) ++ units
  sums_more lengths xs units sums place s d x next holds within is_x is is_next =
      let now = reduces_of join unit lengths (take place xs) in
      let own = in_count lengths s place holds in
      ap (λ row. set row s next) is
      ∙ set-append_left now units s next (omega (arith, own, length-reduced lengths (take place xs)))
      ∙ ap (λ row. row ++ units) (reduced_more lengths xs place s d (get_or sums s d) x next holds within is_x (sum_read lengths (take place xs) units sums s d is own) is_next)

  -- ---- the scans of the segments, which write these reduces on the way

  pub none_scanned : (lengths : List ℕ) → scans_of join unit lengths [] ≡ []
  none_scanned [] = refl
  none_scanned (n ∷ ls) = (λ i. scan_of join unit (take_all n [] (omega arith) i) ++ scans_of join unit ls (drop_all n [] (omega arith) i)) ∙ none_scanned ls

  scanned_here : (n : ℕ) (ls : List ℕ) (xs : List Item) (place : ℕ) → place ≤ n → scans_of join unit (n ∷ ls) (take place xs) ≡ scan_of join unit (take place xs)
  scanned_here n ls xs place lt =
      let few : length (take place xs) ≤ n = omega (arith, length-take place xs, lt) in
      (λ i. scan_of join unit (take_all n (take place xs) few i) ++ scans_of join unit ls (drop_all n (take place xs) few i))
      ∙ ap (λ ys. scan_of join unit (take place xs) ++ ys) (none_scanned ls)
      ∙ append-nil (scan_of join unit (take place xs))

  scanned_later : (n : ℕ) (ls : List ℕ) (xs : List Item) (place m : ℕ) → place ≡ n + m
      → scans_of join unit (n ∷ ls) (take place xs) ≡ scan_of join unit (take n xs) ++ scans_of join unit ls (take m (drop n xs))
  scanned_later n ls xs place m is = cc (is, take-take n (n + m) xs (omega arith), drop-take n m xs)

  -- at the place of an element of segment s stands the reduce of the segment's elements before it
  pub scans_more : (lengths : List ℕ) (xs : List Item) (place s : ℕ) (d before : Item) → IsIn lengths s place → place < length xs
      → before ≡ get_or (reduces_of join unit lengths (take place xs)) s d → scans_of join unit lengths (take (place + 1) xs) ≡ scans_of join unit lengths (take place xs) ++ before ∷ []
  scans_more [] xs place s d before holds within is_before = absurd (omega (arith, holds.1, start_of_all [] (s + 1) (omega arith)))
  scans_more (n ∷ ls) xs place zero d before holds within is_before =
      let inside : place < n = omega (arith, holds.1, sum-cons n []) in
      let is : before ≡ fold_of join unit (take place xs) = is_before ∙ ap (λ sums. get_or sums 0 d) (reduced_here n ls xs place (omega (arith, inside)) (omega (arith, within))) in
      scanned_here n ls xs (place + 1) (omega (arith, inside))
      ∙ scan_of_more join unit xs place within
      ∙ (λ i. sym (scanned_here n ls xs place (omega (arith, inside))) i ++ sym is i ∷ [])
  scans_more (n ∷ ls) xs place (suc s) d before holds within is_before =
      let m : ℕ = place - n in
      let is_place : place ≡ n + m = omega (arith, holds.0, sum-cons n (take s ls)) in
      let there : IsIn ls s m = in_later n ls s place m holds is_place in
      let is : before ≡ get_or (reduces_of join unit ls (take m (drop n xs))) s d = is_before ∙ ap (λ sums. get_or sums (suc s) d) (reduced_later n ls xs place m is_place) in
      let front = scan_of join unit (take n xs) in
      scanned_later n ls xs (place + 1) (m + 1) (omega (arith, is_place))
      ∙ ap (λ ys. front ++ ys) (scans_more ls (drop n xs) m s d before there (omega (arith, within, is_place, length-drop n xs)) is)
      ∙ sym (append_assoc front (scans_of join unit ls (take m (drop n xs))) (before ∷ []))
      ∙ ap (λ ys. ys ++ before ∷ []) (sym (scanned_later n ls xs place m is_place))

module _ {Item : Type 0} {is_item : Item → Bool} {unit : Item} {join : Item → Item → Item} (laws : MonoidLaws is_item unit join) where
  pub reduced_is_item : (lengths : List ℕ) (xs : List Item) (s : ℕ) (d : Item) → AllPass is_item xs → s < length lengths → IsTrue (is_item (get_or (reduces_of join unit lengths xs) s d))
  reduced_is_item [] xs s d items lt = absurd (omega (arith, lt))
  reduced_is_item (n ∷ ls) xs zero d items lt = fold_of_is_item laws (take n xs) (All-take (λ x. is_item x ≡ true) n xs items)
  reduced_is_item (n ∷ ls) xs (suc s) d items lt = reduced_is_item ls (drop n xs) s d (All-drop (λ x. is_item x ≡ true) n xs items) (omega (arith, lt))
