-- Where a rank cuts its sorted keys, from counts alone.
use Rattle.std.proofs.Common.{◌≡◌, ◌∙◌, ℕ, ◌+◌, ◌-◌, ◌<◌, ◌≤◌, ℤ, pos, cond, List, [], ◌∷◌, ◌++◌, ap, arith, count_by, get_or, length, sym}
use Rattle.std.proofs.Common.{take, ltb, lt-ltb, le-ltb, suc, ◌⊎◌, inl, inr}
use Rattle.std.specs.Prelude.{int_lt, min}
use Rattle.std.specs.List.{enumerate_from}
use Rattle.std.specs.Ordering.{int_eq}
use Rattle.std.proofs.lemmas.Bool.{cases_lt}
use Rattle.std.proofs.lemmas.List.{take-append-le, take_all}
use Rattle.std.proofs.lemmas.List.Sums.{sum_by-append, sum_by-cons, sum_by-take-le}
use Rattle.std.proofs.Math.Seq.{take-append-add}
use Rattle.orders.specs.Orders.{by_key}
use Rattle.orders.proofs.Ranks.{earlier_none, int_order, lesser_or_equal, rank_at_order}
use Rattle.call_laws.specs.SortedOverRanks.{cut_in_rank_order, equal_keys, goes_before, lesser_keys}

-- ---- before a place go the lesser keys, and the equal ones of earlier places

before_place : (p : ℕ) (k : ℤ) (keys : List ℤ) (m : ℕ) → count_by (goes_before (p, k)) (enumerate_from m keys) ≡ lesser_keys k keys + equal_keys k (take (p - m) keys)
before_place p k [] m = let none : equal_keys k (take (p - m) []) ≡ 0 = ap (equal_keys k) (take_all (p - m) [] (omega arith)) in omega (arith, none)
before_place p k (key ∷ keys) m = at (cases_lt m p) (before_place p k keys (m + 1)) where
  counts : count_by (goes_before (p, k)) ((m, key) ∷ enumerate_from (m + 1) keys) ≡ cond (goes_before (p, k) (m, key)) 1 0 + count_by (goes_before (p, k)) (enumerate_from (m + 1) keys)
  counts = sum_by-cons (λ q. cond (goes_before (p, k) q) 1 0) (m, key) (enumerate_from (m + 1) keys)

  lesser : lesser_keys k (key ∷ keys) ≡ cond (int_lt key k) 1 0 + lesser_keys k keys
  lesser = sum_by-cons (λ x. cond (int_lt x k) 1 0) key keys

  at : (m < p) ⊎ (p ≤ m) → count_by (goes_before (p, k)) (enumerate_from (m + 1) keys) ≡ lesser_keys k keys + equal_keys k (take (p - (m + 1)) keys)
      → count_by (goes_before (p, k)) (enumerate_from m (key ∷ keys)) ≡ lesser_keys k (key ∷ keys) + equal_keys k (take (p - m) (key ∷ keys))
  at (inl below) on =
      let one : cond (goes_before (p, k) (m, key)) 1 0 ≡ cond (int_lt key k) 1 0 + cond (int_eq key k) 1 0 = lesser_or_equal key k (ltb m p) (lt-ltb m p below) in
      let taken : p - m ≡ suc (p - (m + 1)) = omega (arith, below) in
      let equal : equal_keys k (take (p - m) (key ∷ keys)) ≡ cond (int_eq key k) 1 0 + equal_keys k (take (p - (m + 1)) keys) =
      ap (λ n. equal_keys k (take n (key ∷ keys))) taken ∙ sum_by-cons (λ x. cond (int_eq x k) 1 0) key (take (p - (m + 1)) keys) in
      omega (arith, counts, one, lesser, equal, on)
  at (inr over) on =
      let one : ◌≡◌ {A = ℕ} (cond (goes_before (p, k) (m, key)) 1 0) (cond (int_lt key k) 1 0) =
      ap (λ b. cond b 1 0) (earlier_none (int_lt key k) (int_lt k key) (ltb m p) (le-ltb m p over)) in
      let none : p - m ≡ 0 = omega (arith, over) in
      let more : p - (m + 1) ≡ 0 = omega (arith, over) in
      let equal : equal_keys k (take (p - m) (key ∷ keys)) ≡ 0 = ap (λ n. equal_keys k (take n (key ∷ keys))) none in
      let equal_too : equal_keys k (take (p - (m + 1)) keys) ≡ 0 = ap (λ n. equal_keys k (take n keys)) more in
      omega (arith, counts, one, lesser, equal, equal_too, on)

-- ---- the equal ones among them

module _ (k : ℤ) where
  equal-append : (xs ys : List ℤ) → equal_keys k (xs ++ ys) ≡ equal_keys k xs + equal_keys k ys
  equal-append xs ys = sum_by-append (λ x. cond (int_eq x k) 1 0) xs ys

  equal-taken : (xs : List ℤ) (n : ℕ) → equal_keys k (take n xs) ≤ equal_keys k xs
  equal-taken xs n = sum_by-take-le (λ x. cond (int_eq x k) 1 0) xs n

  taken-append : (p : ℕ) (xs ys : List ℤ) → equal_keys k (take p (xs ++ ys)) ≡ equal_keys k (take p xs) + equal_keys k (take (p - length xs) ys)
  taken-append p xs ys = at (cases_lt p (length xs)) where
    at : (p < length xs) ⊎ (length xs ≤ p) → equal_keys k (take p (xs ++ ys)) ≡ equal_keys k (take p xs) + equal_keys k (take (p - length xs) ys)
    at (inl below) =
        let none : p - length xs ≡ 0 = omega (arith, below) in
        let no_keys : equal_keys k (take (p - length xs) ys) ≡ 0 = ap (λ n. equal_keys k (take n ys)) none in
        let front : equal_keys k (take p (xs ++ ys)) ≡ equal_keys k (take p xs) = ap (equal_keys k) (take-append-le p xs ys (omega (arith, below))) in
        omega (arith, no_keys, front)
    at (inr over) =
        let whole : p ≡ length xs + (p - length xs) = omega (arith, over) in
        ap (λ n. equal_keys k (take n (xs ++ ys))) whole
        ∙ ap (equal_keys k) (take-append-add xs ys (p - length xs))
        ∙ equal-append xs (take (p - length xs) ys)
        ∙ ap (λ zs. equal_keys k zs + equal_keys k (take (p - length xs) ys)) (sym (take_all p xs over))

  -- as many of one's own as the keys before leave
  left_over : (before own behind : List ℤ) (p : ℕ)
      → equal_keys k (take (p - length before) own) ≡ min (equal_keys k own) (equal_keys k (take p (before ++ (own ++ behind))) - equal_keys k before)
  left_over before own behind p =
      at (cases_lt p (length before)) (cases_lt (p - length before) (length own)) where
        at : (p < length before) ⊎ (length before ≤ p) → (p - length before < length own) ⊎ (length own ≤ p - length before)
            → equal_keys k (take (p - length before) own) ≡ min (equal_keys k own) (equal_keys k (take p (before ++ (own ++ behind))) - equal_keys k before)
        at (inl below) c =
            let none : p - length before ≡ 0 = omega (arith, below) in
            let no_keys : equal_keys k (take (p - length before) own) ≡ 0 = ap (λ n. equal_keys k (take n own)) none in
            let none_behind : equal_keys k (take (p - length before) (own ++ behind)) ≡ 0 = ap (λ n. equal_keys k (take n (own ++ behind))) none in
            let few : equal_keys k (take p before) ≤ equal_keys k before = equal-taken before p in
            let whole : equal_keys k (take p (before ++ (own ++ behind))) ≡ equal_keys k (take p before) + equal_keys k (take (p - length before) (own ++ behind)) =
            taken-append p before (own ++ behind) in
            let left : equal_keys k (take p (before ++ (own ++ behind))) - equal_keys k before ≡ 0 = omega (arith, whole, none_behind, few) in
            omega (arith, no_keys, left)
        at (inr over) (inl within) =
            let all : equal_keys k (take p before) ≡ equal_keys k before = ap (equal_keys k) (take_all p before over) in
            let none : p - length before - length own ≡ 0 = omega (arith, within) in
            let none_behind : equal_keys k (take (p - length before - length own) behind) ≡ 0 = ap (λ n. equal_keys k (take n behind)) none in
            omega (arith, all, none_behind, taken-append p before (own ++ behind), taken-append (p - length before) own behind, equal-taken own (p - length before))
        at (inr over) (inr past) =
            let all : equal_keys k (take p before) ≡ equal_keys k before = ap (equal_keys k) (take_all p before over) in
            let all_own : equal_keys k (take (p - length before) own) ≡ equal_keys k own = ap (equal_keys k) (take_all (p - length before) own past) in
            omega (arith, all, all_own, taken-append p before (own ++ behind), taken-append (p - length before) own behind)

pub cut_by_counts : (before own behind : List ℤ) (n : ℕ) (splitter : ℕ × ℤ) → n < length (before ++ (own ++ behind)) → splitter ≡ get_or (by_key (before ++ (own ++ behind))) n (0, pos 0)
    → count_by (goes_before splitter) (enumerate_from (length before) own) ≡ cut_in_rank_order splitter.1 n (before ++ (own ++ behind)) before own
cut_by_counts before own behind n splitter below is =
    let whole = before ++ (own ++ behind) in
    let stands : lesser_keys splitter.1 (before ++ (own ++ behind)) + equal_keys splitter.1 (take splitter.0 (before ++ (own ++ behind))) ≡ n =
    ap (λ (s : ℕ × ℤ). lesser_keys s.1 (before ++ (own ++ behind)) + equal_keys s.1 (take s.0 (before ++ (own ++ behind)))) is
    ∙ rank_at_order (before ++ (own ++ behind)) int_order n (0, pos 0) below in
    let left : equal_keys splitter.1 (take splitter.0 (before ++ (own ++ behind))) ≡ n - lesser_keys splitter.1 (before ++ (own ++ behind)) = omega (arith, stands) in
    before_place splitter.0 splitter.1 own (length before)
    ∙ ap (λ m. lesser_keys splitter.1 own + m)
    (left_over splitter.1 before own behind splitter.0
    ∙ ap (λ m. min (equal_keys splitter.1 own) (m - equal_keys splitter.1 before)) left)
