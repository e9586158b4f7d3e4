-- Sorts of vectors whose keys lie on ranks.
use Rattle.std.proofs.Common.{◌≡◌, ◌∙◌, ℕ, ◌+◌, ◌<◌, ◌&&◌, ◌||◌, not, ℤ, pos, Bool, true, false, cond, List, [], ◌∷◌, ◌++◌, ap, arith, count_by, drop, get_or, length, map, refl, subst, sym}
use Rattle.std.proofs.Common.{take, ltb, lt-ltb, length-take-le, take-append-drop, suc, append-nil}
use Rattle.std.specs.Prelude.{int_lt}
use Rattle.std.specs.Cmp.{IsStrictWeakOrder}
use Rattle.std.specs.List.{AllByRecursion, enumerate_from, filter}
use Rattle.std.proofs.lemmas.List.Elements.{filter-append}
use Rattle.std.proofs.lemmas.List.Sums.{count_by-le-length, sum_by-cons}
use Rattle.operators.specs.Lists.{joined}
use Rattle.orders.specs.Orders.{by_key, has_lesser_key, sorted_of}
use Rattle.orders.specs.StableSorts.{inserted, stably_sorted}
use Rattle.orders.proofs.Insertion.{map-stably_sorted, NoneLess, Rises, Rises-stably_sorted, further}
use Rattle.orders.proofs.Ranks.{Climbs, Climbs-sorted, count_before, int_order, is_before, length-by_key, not_greater}
use Rattle.orders.proofs.TheOrder.{before_by_place, map-keys}
use Rattle.call_laws.specs.SortedOverRanks.{cut_at, exchanged_at, from_on, goes_before, sorted_over_ranks, up_to, with_places}

-- ---- the sort of sorted lists, one after another

module _ {X : Type 0} (less : X → X → Bool) (order : IsStrictWeakOrder less) where
  inserted_both : (x y : X) (zs : List X) → less y x ≡ true → inserted less y (inserted less x zs) ≡ inserted less x (inserted less y zs)
  inserted_both x y [] is = let isnt : less x y ≡ false = order.one_way y x is in simp (isnt, is)
  inserted_both x y (z ∷ zs) is = cases (less z y) (less z x) refl refl (inserted_both x y zs is) where
    isnt : less x y ≡ false
    isnt = order.one_way y x is

    cases : (a b : Bool) → less z y ≡ a → less z x ≡ b → inserted less y (inserted less x zs) ≡ inserted less x (inserted less y zs)
        → inserted less y (inserted less x (z ∷ zs)) ≡ inserted less x (inserted less y (z ∷ zs))
    cases true true a b on = simp (a, b) (ap (λ us. z ∷ us) on)
    cases true false a b on = absurd (let other : less z y ≡ false = order.chain z x y b isnt in cc)
    cases false true a b on = simp (a, b, is)
    cases false false a b on = simp (a, b, is, isnt)

  abbrev all_inserted : List X → List X → List X
  all_inserted [] zs = zs
  all_inserted (x ∷ xs) zs = inserted less x (all_inserted xs zs)

  sorted-append : (xs ys : List X) → stably_sorted less (xs ++ ys) ≡ all_inserted xs (stably_sorted less ys)
  sorted-append [] ys = refl
  sorted-append (x ∷ xs) ys = ap (inserted less x) (sorted-append xs ys)

  all_inserted-inserted : (x : X) (xs zs : List X) → all_inserted (inserted less x xs) zs ≡ inserted less x (all_inserted xs zs)
  all_inserted-inserted x [] zs = refl
  all_inserted-inserted x (y ∷ ys) zs = cases (less y x) refl (all_inserted-inserted x ys zs) where
    cases : (b : Bool) → less y x ≡ b → all_inserted (inserted less x ys) zs ≡ inserted less x (all_inserted ys zs)
        → all_inserted (cond b (y ∷ inserted less x ys) (x ∷ y ∷ ys)) zs ≡ inserted less x (inserted less y (all_inserted ys zs))
    cases true is on = ap (inserted less y) on ∙ inserted_both x y (all_inserted ys zs) is
    cases false isnt on = refl

  all_inserted-sorted : (xs zs : List X) → all_inserted (stably_sorted less xs) zs ≡ all_inserted xs zs
  all_inserted-sorted [] zs = refl
  all_inserted-sorted (x ∷ xs) zs = all_inserted-inserted x (stably_sorted less xs) zs ∙ ap (inserted less x) (all_inserted-sorted xs zs)

  sorted-joined : (parts : List (List X)) → stably_sorted less (joined (map (stably_sorted less) parts)) ≡ stably_sorted less (joined parts)
  sorted-joined [] = refl
  sorted-joined (part ∷ parts) =
      sorted-append (stably_sorted less part) (joined (map (stably_sorted less) parts))
      ∙ all_inserted-sorted part (stably_sorted less (joined (map (stably_sorted less) parts)))
      ∙ ap (all_inserted part) (sorted-joined parts)
      ∙ sym (sorted-append part (joined parts))

-- ---- the sort of what passes a test

module _ {X : Type 0} (P : X → Type 0) (test : X → Bool) where
  All-kept : (xs : List X) → AllByRecursion P xs → AllByRecursion P (filter test xs)
  All-kept [] all = tt
  All-kept (x ∷ xs) all =
      elim (test x) as (λ b. AllByRecursion P (cond b (x ∷ filter test xs) (filter test xs))) [
        | true ↦ (all.0, All-kept xs all.1)
        | false ↦ All-kept xs all.1
      ]

module _ {X : Type 0} (less : X → X → Bool) (order : IsStrictWeakOrder less) (test : X → Bool) where
  first : (x : X) (zs : List X) → NoneLess less x zs → inserted less x zs ≡ x ∷ zs
  first x [] none = refl
  first x (z ∷ zs) none = ap (λ b. cond b (z ∷ inserted less x zs) (x ∷ z ∷ zs)) none.0

  kept-inserted : (x : X) (ys : List X) → Rises less ys → filter test (inserted less x ys) ≡ cond (test x) (inserted less x (filter test ys)) (filter test ys)
  kept-inserted x [] rises = refl
  kept-inserted x (y ∷ ys) rises = cases (less y x) refl (kept-inserted x ys rises.1) where
    lesser : (a b : Bool) → less y x ≡ true → filter test (inserted less x ys) ≡ cond a (inserted less x (filter test ys)) (filter test ys)
        → cond b (y ∷ filter test (inserted less x ys)) (filter test (inserted less x ys))
        ≡ cond a (inserted less x (cond b (y ∷ filter test ys) (filter test ys))) (cond b (y ∷ filter test ys) (filter test ys))
    lesser true true is on = simp (is) (ap (λ us. y ∷ us) on)
    lesser true false is on = on
    lesser false true is on = ap (λ us. y ∷ us) on
    lesser false false is on = on

    cases : (b : Bool) → less y x ≡ b → filter test (inserted less x ys) ≡ cond (test x) (inserted less x (filter test ys)) (filter test ys)
        → filter test (cond b (y ∷ inserted less x ys) (x ∷ y ∷ ys)) ≡ cond (test x) (inserted less x (filter test (y ∷ ys))) (filter test (y ∷ ys))
    cases true is on = lesser (test x) (test y) is on
    cases false isnt on =
        ap (λ us. cond (test x) us (filter test (y ∷ ys)))
        (sym (first x (filter test (y ∷ ys)) (All-kept (λ z. less z x ≡ false) test (y ∷ ys) (isnt, further less order x y ys isnt rises.0))))

  kept-sorted : (xs : List X) → filter test (stably_sorted less xs) ≡ stably_sorted less (filter test xs)
  kept-sorted [] = refl
  kept-sorted (x ∷ xs) =
      kept-inserted x (stably_sorted less xs) (Rises-stably_sorted less order xs)
      ∙ ap (λ us. cond (test x) (inserted less x us) us) (kept-sorted xs)
      ∙ kept (test x) where
        kept : (b : Bool) → cond b (inserted less x (stably_sorted less (filter test xs))) (stably_sorted less (filter test xs))
            ≡ stably_sorted less (cond b (x ∷ filter test xs) (filter test xs))
        kept true = refl
        kept false = refl

  kept-joined : (lists : List (List X)) → joined (map (filter test) lists) ≡ filter test (joined lists)
  kept-joined [] = refl
  kept-joined (xs ∷ lists) = ap (λ us. filter test xs ++ us) (kept-joined lists) ∙ sym (filter-append test xs (joined lists))

-- ---- what goes before a splitter stands in front of sorted keys

pairs_order : IsStrictWeakOrder has_lesser_key
pairs_order = record { one_way = λ p q is. int_order.one_way p.1 q.1 is; chain = λ p q s a b. int_order.chain p.1 q.1 s.1 a b }

before_chain : (p q s : ℕ × ℤ) → is_before int_lt p q ≡ true → is_before int_lt q s ≡ true → is_before int_lt p s ≡ true
before_chain p q s first second = at (int_lt p.1 s.1) refl where
  not_first : int_lt q.1 p.1 ≡ false
  not_first = not_greater int_lt int_order p q first

  not_second : int_lt s.1 q.1 ≡ false
  not_second = not_greater int_lt int_order q s second

  at : (b : Bool) → int_lt p.1 s.1 ≡ b → is_before int_lt p s ≡ true
  at true e = ap (λ c. c || (not (int_lt s.1 p.1) && ltb p.0 s.0)) e
  at false e =
      let one : p.0 < q.0 = before_by_place p q first (int_order.chain p.1 s.1 q.1 e not_second) in
      let two : q.0 < s.0 = before_by_place q s second (int_order.chain q.1 p.1 s.1 not_first e) in
      (λ i. e i || (not (int_order.chain s.1 q.1 p.1 not_second not_first i) && lt-ltb p.0 s.0 (omega (arith, one, two)) i))

module _ (splitter : ℕ × ℤ) where
  abbrev not_before : ℕ × ℤ → Bool
  not_before p = not (goes_before splitter p)

  none_behind : (p : ℕ × ℤ) (ps : List (ℕ × ℤ)) → goes_before splitter p ≡ false → AllByRecursion (λ q. is_before int_lt p q ≡ true) ps
      → AllByRecursion (λ q. goes_before splitter q ≡ false) ps
  none_behind p [] isnt all = tt
  none_behind p (q ∷ qs) isnt all = (at (goes_before splitter q) refl, none_behind p qs isnt all.1) where
    at : (b : Bool) → goes_before splitter q ≡ b → goes_before splitter q ≡ false
    at true e = absurd (let is : goes_before splitter p ≡ true = before_chain p q splitter all.0 e in cc)
    at false e = e

  counts : (p : ℕ × ℤ) (ps : List (ℕ × ℤ)) → count_by (goes_before splitter) (p ∷ ps) ≡ cond (goes_before splitter p) 1 0 + count_by (goes_before splitter) ps
  counts p ps = sum_by-cons (λ q. cond (goes_before splitter q) 1 0) p ps

  one_more : (p : ℕ × ℤ) (ps : List (ℕ × ℤ)) → goes_before splitter p ≡ true → count_by (goes_before splitter) (p ∷ ps) ≡ suc (count_by (goes_before splitter) ps)
  one_more p ps is =
      let one : cond (goes_before splitter p) 1 0 + count_by (goes_before splitter) ps ≡ 1 + count_by (goes_before splitter) ps = ap (λ c. cond c 1 0 + count_by (goes_before splitter) ps) is in
      omega (arith, counts p ps, one)

  none_counted : (ps : List (ℕ × ℤ)) → AllByRecursion (λ q. goes_before splitter q ≡ false) ps → count_by (goes_before splitter) ps ≡ 0
  none_counted [] all = refl
  none_counted (p ∷ ps) all = counts p ps ∙ (λ i. cond (all.0 i) 1 0 + none_counted ps all.1 i)

  none_kept : (ps : List (ℕ × ℤ)) → AllByRecursion (λ q. goes_before splitter q ≡ false) ps → filter (goes_before splitter) ps ≡ []
  none_kept [] all = refl
  none_kept (p ∷ ps) all = (λ i. cond (all.0 i) (p ∷ filter (goes_before splitter) ps) (filter (goes_before splitter) ps)) ∙ none_kept ps all.1

  all_kept : (ps : List (ℕ × ℤ)) → AllByRecursion (λ q. goes_before splitter q ≡ false) ps → filter not_before ps ≡ ps
  all_kept [] all = refl
  all_kept (p ∷ ps) all = (λ i. cond (not (all.0 i)) (p ∷ filter not_before ps) (filter not_before ps)) ∙ ap (λ qs. p ∷ qs) (all_kept ps all.1)

  front-is : (ps : List (ℕ × ℤ)) → Climbs int_lt ps → up_to splitter ps ≡ filter (goes_before splitter) ps
  front-is [] climbs = refl
  front-is (p ∷ ps) climbs = at (goes_before splitter p) refl (front-is ps climbs.1) where
    at : (b : Bool) → goes_before splitter p ≡ b → up_to splitter ps ≡ filter (goes_before splitter) ps
        → up_to splitter (p ∷ ps) ≡ cond (goes_before splitter p) (p ∷ filter (goes_before splitter) ps) (filter (goes_before splitter) ps)
    at true e on =
        ap (λ n. take n (p ∷ ps)) (one_more p ps e)
        ∙ ap (λ qs. p ∷ qs) on
        ∙ ap (λ c. cond c (p ∷ filter (goes_before splitter) ps) (filter (goes_before splitter) ps)) (sym e)
    at false e on =
        let none = none_behind p ps e climbs.0 in
        ap (λ n. take n (p ∷ ps)) (counts p ps ∙ (λ i. cond (e i) 1 0 + none_counted ps none i))
        ∙ sym (none_kept ps none)
        ∙ ap (λ c. cond c (p ∷ filter (goes_before splitter) ps) (filter (goes_before splitter) ps)) (sym e)

  rest-is : (ps : List (ℕ × ℤ)) → Climbs int_lt ps → from_on splitter ps ≡ filter not_before ps
  rest-is [] climbs = refl
  rest-is (p ∷ ps) climbs = at (goes_before splitter p) refl (rest-is ps climbs.1) where
    at : (b : Bool) → goes_before splitter p ≡ b → from_on splitter ps ≡ filter not_before ps
        → from_on splitter (p ∷ ps) ≡ cond (not (goes_before splitter p)) (p ∷ filter not_before ps) (filter not_before ps)
    at true e on =
        ap (λ n. drop n (p ∷ ps)) (one_more p ps e)
        ∙ on
        ∙ ap (λ c. cond (not c) (p ∷ filter not_before ps) (filter not_before ps)) (sym e)
    at false e on =
        let none = none_behind p ps e climbs.0 in
        ap (λ n. drop n (p ∷ ps)) (counts p ps ∙ (λ i. cond (e i) 1 0 + none_counted ps none i))
        ∙ ap (λ qs. p ∷ qs) (sym (all_kept ps none))
        ∙ ap (λ c. cond (not c) (p ∷ filter not_before ps) (filter not_before ps)) (sym e)

Climbs-kept : (test : ℕ × ℤ → Bool) (ps : List (ℕ × ℤ)) → Climbs int_lt ps → Climbs int_lt (filter test ps)
Climbs-kept test [] climbs = tt
Climbs-kept test (p ∷ ps) climbs =
    elim (test p) as (λ b. Climbs int_lt (cond b (p ∷ filter test ps) (filter test ps))) [
      | true ↦ (All-kept (λ q. is_before int_lt p q ≡ true) test ps climbs.0, Climbs-kept test ps climbs.1)
      | false ↦ Climbs-kept test ps climbs.1
    ]

-- ---- what each rank has is its range

-- two maps of climbing pieces that agree on each
maps-are : (f g : List (ℕ × ℤ) → List (ℕ × ℤ)) → ((ps : List (ℕ × ℤ)) → Climbs int_lt ps → f ps ≡ g ps)
    → (pieces : List (List (ℕ × ℤ))) → AllByRecursion (Climbs int_lt) pieces → map f pieces ≡ map g pieces
maps-are f g agree [] all = refl
maps-are f g agree (piece ∷ pieces) all = (λ i. agree piece all.0 i ∷ maps-are f g agree pieces all.1 i)

-- what is sorted of one side of each piece is that side of the sort of all
side-is : (side : List (ℕ × ℤ) → List (ℕ × ℤ)) (test : ℕ × ℤ → Bool) → ((ps : List (ℕ × ℤ)) → Climbs int_lt ps → side ps ≡ filter test ps)
    → (pieces : List (List (ℕ × ℤ))) → AllByRecursion (Climbs int_lt) pieces → Climbs int_lt (stably_sorted has_lesser_key (joined pieces))
    → stably_sorted has_lesser_key (joined (map side pieces)) ≡ side (stably_sorted has_lesser_key (joined pieces))
side-is side test agree pieces all climbs =
    ap (λ lists. stably_sorted has_lesser_key (joined lists)) (maps-are side (filter test) agree pieces all)
    ∙ ap (stably_sorted has_lesser_key) (kept-joined has_lesser_key pairs_order test pieces)
    ∙ sym (kept-sorted has_lesser_key pairs_order test (joined pieces))
    ∙ sym (agree (stably_sorted has_lesser_key (joined pieces)) climbs)

rests-climb : (s : ℕ × ℤ) (pieces : List (List (ℕ × ℤ))) → AllByRecursion (Climbs int_lt) pieces → AllByRecursion (Climbs int_lt) (map (from_on s) pieces)
rests-climb s [] all = tt
rests-climb s (piece ∷ pieces) all = (subst (Climbs int_lt) (sym (rest-is s piece all.0)) (Climbs-kept (not_before s) piece all.0), rests-climb s pieces all.1)

ranges-are : (splitters : List (ℕ × ℤ)) (pieces : List (List (ℕ × ℤ))) → AllByRecursion (Climbs int_lt) pieces → Climbs int_lt (stably_sorted has_lesser_key (joined pieces))
    → exchanged_at splitters pieces ≡ cut_at splitters (stably_sorted has_lesser_key (joined pieces))
ranges-are [] pieces all climbs = refl
ranges-are (s ∷ splitters) pieces all climbs =
    (λ i. front i ∷ (ranges-are splitters (map (from_on s) pieces) (rests-climb s pieces all) behind ∙ ap (cut_at splitters) rest) i) where
      front : stably_sorted has_lesser_key (joined (map (up_to s) pieces)) ≡ up_to s (stably_sorted has_lesser_key (joined pieces))
      front = side-is (up_to s) (goes_before s) (front-is s) pieces all climbs

      rest : stably_sorted has_lesser_key (joined (map (from_on s) pieces)) ≡ from_on s (stably_sorted has_lesser_key (joined pieces))
      rest = side-is (from_on s) (not_before s) (rest-is s) pieces all climbs

      behind : Climbs int_lt (stably_sorted has_lesser_key (joined (map (from_on s) pieces)))
      behind =
          subst (Climbs int_lt) (sym (rest ∙ rest-is s (stably_sorted has_lesser_key (joined pieces)) climbs))
          (Climbs-kept (not_before s) (stably_sorted has_lesser_key (joined pieces)) climbs)

-- ---- the keys with their places

enumerate-append : (n : ℕ) (xs ys : List ℤ) → enumerate_from n (xs ++ ys) ≡ enumerate_from n xs ++ enumerate_from (n + length xs) ys
enumerate-append n [] ys = ap (λ m. enumerate_from m ys) (omega arith)
enumerate-append n (x ∷ xs) ys =
    ap (λ ps. (n, x) ∷ ps) (enumerate-append (n + 1) xs ys ∙ ap (λ m. enumerate_from (n + 1) xs ++ enumerate_from m ys) (omega arith))

with_places-joined : (n : ℕ) (parts : List (List ℤ)) → joined (with_places n parts) ≡ enumerate_from n (joined parts)
with_places-joined n [] = refl
with_places-joined n (part ∷ parts) =
    ap (λ ps. enumerate_from n part ++ ps) (with_places-joined (n + length part) parts) ∙ sym (enumerate-append n part (joined parts))

sorted-climb : (n : ℕ) (parts : List (List ℤ)) → AllByRecursion (Climbs int_lt) (map (stably_sorted has_lesser_key) (with_places n parts))
sorted-climb n [] = tt
sorted-climb n (part ∷ parts) = (Climbs-sorted int_lt int_order n part, sorted-climb (n + length part) parts)

module _ (parts : List (List ℤ)) where
  sorted-whole : stably_sorted has_lesser_key (joined (map (stably_sorted has_lesser_key) (with_places 0 parts))) ≡ by_key (joined parts)
  sorted-whole =
      sorted-joined has_lesser_key pairs_order (with_places 0 parts) ∙ ap (stably_sorted has_lesser_key) (with_places-joined 0 parts)

  pub ranges-over_ranks : (splitters : List (ℕ × ℤ)) → sorted_over_ranks splitters parts ≡ cut_at splitters (by_key (joined parts))
  ranges-over_ranks splitters =
      ranges-are splitters (map (stably_sorted has_lesser_key) (with_places 0 parts)) (sorted-climb 0 parts)
      (subst (Climbs int_lt) (sym sorted-whole) (Climbs-sorted int_lt int_order 0 (joined parts)))
      ∙ ap (cut_at splitters) sorted-whole

joined-cut_at : (splitters sorted : List (ℕ × ℤ)) → joined (cut_at splitters sorted) ≡ sorted
joined-cut_at [] sorted = append-nil sorted
joined-cut_at (s ∷ splitters) sorted =
    ap (λ ps. up_to s sorted ++ ps) (joined-cut_at splitters (from_on s sorted)) ∙ take-append-drop (count_by (goes_before s) sorted) sorted

pub whole-over_ranks : (parts : List (List ℤ)) (splitters : List (ℕ × ℤ)) → joined (sorted_over_ranks splitters parts) ≡ by_key (joined parts)
whole-over_ranks parts splitters = ap joined (ranges-over_ranks parts splitters) ∙ joined-cut_at splitters (by_key (joined parts))

pub cuts-exactly : (keys : List ℤ) (n : ℕ) → n < length keys → length (up_to (get_or (by_key keys) n (0, pos 0)) (by_key keys)) ≡ n
cuts-exactly keys n below =
    length-take-le (count_by (goes_before (get_or (by_key keys) n (0, pos 0))) (by_key keys)) (by_key keys)
    (count_by-le-length (goes_before (get_or (by_key keys) n (0, pos 0))) (by_key keys))
    ∙ count_before int_lt int_order (by_key keys) n (0, pos 0) (omega (arith, length-by_key keys int_order, below)) (Climbs-sorted int_lt int_order 0 keys)

pub keys-sorted : (keys : List ℤ) → map (λ (p : ℕ × ℤ). p.1) (by_key keys) ≡ sorted_of keys
keys-sorted keys = map-stably_sorted (λ (p : ℕ × ℤ). p.1) int_lt (enumerate_from 0 keys) ∙ ap (stably_sorted int_lt) (map-keys 0 keys)
