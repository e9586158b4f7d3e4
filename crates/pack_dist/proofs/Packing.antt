-- What a pack keeps of the first elements, of one more, and of those that a run is made of.
use Rattle.pack_dist.proofs.Cited.{◌≡◌, ℕ, zero, suc, ◌+◌, ◌-◌, ◌<◌, ◌≤◌, Bool, true, false, cond, List, [], ◌∷◌, ◌++◌, length, take, drop, get_or, set, refl, sym, ap, ◌∙◌, arith, append-nil}
use Rattle.pack_dist.proofs.Cited.{append_assoc, drop-take, drop_more, length-append, length-take, take-take, take_more_set, take-set, sum_by-take-drop, sum_by_more, count_of, part, stretch}
use Rattle.pack_dist.proofs.Cited.{Stretch, with_items, count-cons}
use Rattle.std.proofs.Math.Seq.{drop-append_seam, take-append_seam}
use Rattle.pack_dist.specs.Kept.{kept_of}

-- the true flags in front, and the others
pub count-split : (flags : List Bool) (n : ℕ) → count_of (take n flags) + count_of (drop n flags) ≡ count_of flags
count-split flags n = sum_by-take-drop (λ (f : Bool). cond f 1 0) flags n

-- one more flag is counted
pub counted : (flags : List Bool) (k count more : ℕ) → k < length flags → count ≡ count_of (take k flags) → more ≡ cond (get_or flags k false) 1 0 → count + more ≡ count_of (take (k + 1) flags)
counted flags k count more lt is one = omega (arith, is, one, sum_by_more (λ (f : Bool). cond f 1 0) flags k false lt)

module _ {X : Type 0} where
  kept-none : (xs : List X) → kept_of xs [] ≡ []
  kept-none [] = refl
  kept-none (x ∷ xs) = refl

  -- it is what is kept of the first elements, and of those after them
  pub kept-split : (xs : List X) (flags : List Bool) (n : ℕ) → kept_of xs flags ≡ kept_of (take n xs) (take n flags) ++ kept_of (drop n xs) (drop n flags)
  kept-split xs flags zero = refl
  kept-split [] flags (suc n) = refl
  kept-split (x ∷ xs) [] (suc n) = sym (kept-none (drop n xs))
  kept-split (x ∷ xs) (true ∷ flags) (suc n) = ap (λ kept. x ∷ kept) (kept-split xs flags n)
  kept-split (x ∷ xs) (false ∷ flags) (suc n) = kept-split xs flags n

  pub length-kept : (xs : List X) (flags : List Bool) → length xs ≡ length flags → length (kept_of xs flags) ≡ count_of flags
  length-kept [] [] long = refl
  length-kept [] (flag ∷ flags) long = absurd (omega arith)
  length-kept (x ∷ xs) [] long = absurd (omega arith)
  length-kept (x ∷ xs) (true ∷ flags) long = omega (arith, length-kept xs flags (omega arith), count-cons true flags)
  length-kept (x ∷ xs) (false ∷ flags) long = omega (arith, length-kept xs flags (omega arith), count-cons false flags)

  kept_one : (x : X) (flag : Bool) → kept_of (x ∷ []) (flag ∷ []) ≡ cond flag (x ∷ []) []
  kept_one x true = refl
  kept_one x false = refl

  kept_more : (xs : List X) (flags : List Bool) (k : ℕ) (d : X) → length xs ≡ length flags → k < length flags
      → kept_of (take (k + 1) xs) (take (k + 1) flags) ≡ kept_of (take k xs) (take k flags) ++ cond (get_or flags k false) (get_or xs k d ∷ []) []
  kept_more xs flags k d long within =
      kept-split (take (k + 1) xs) (take (k + 1) flags) k
      ∙ (λ i. kept_of (take-take k (k + 1) xs (omega arith) i) (take-take k (k + 1) flags (omega arith) i)
      ++ kept_of ((drop-take k 1 xs ∙ ap (take 1) (drop_more xs k d (omega (arith, long)))) i) ((drop-take k 1 flags ∙ ap (take 1) (drop_more flags k false within)) i))
      ∙ ap (λ kept. kept_of (take k xs) (take k flags) ++ kept) (kept_one (get_or xs k d) (get_or flags k false))

  one_long : (flag : Bool) (x : X) → length (cond flag (x ∷ []) []) ≡ cond flag 1 0
  one_long true x = refl
  one_long false x = refl

  -- a run after one more element, which is kept if its flag is true
  pub pushed_if : (old now next : Stretch X) (xs : List X) (flags : List Bool) (k : ℕ) (x : X) → length xs ≡ length flags → k < length flags → x ≡ get_or xs k x
      → now ≡ stretch old.block old.first (old.items ++ kept_of (take k xs) (take k flags)) (old.room - count_of (take k flags))
      → next ≡ with_items now (cond (get_or flags k false) (x ∷ []) [])
      → next ≡ stretch old.block old.first (old.items ++ kept_of (take (k + 1) xs) (take (k + 1) flags)) (old.room - count_of (take (k + 1) flags))
  pushed_if old now next xs flags k x long within is_x before after =
      let flag = get_or flags k false in let one = cond flag (x ∷ []) [] in let count = count_of (take k flags) in
      let more : kept_of (take k xs) (take k flags) ++ one ≡ kept_of (take (k + 1) xs) (take (k + 1) flags) =
      (λ i. kept_of (take k xs) (take k flags) ++ cond flag (is_x i ∷ []) []) ∙ sym (kept_more xs flags k x long within) in
      let items = append_assoc old.items (kept_of (take k xs) (take k flags)) one ∙ ap (λ ys. old.items ++ ys) more in
      let left : old.room - count - length one ≡ old.room - count_of (take (k + 1) flags) = omega (arith, one_long flag x, counted flags k count (cond flag 1 0) within refl refl) in
      after ∙ ap (λ s. with_items s one) before ∙ λ i. stretch old.block old.first (items i) (left i)

  -- ---- the loop that stores each element at the number of true flags before it

  -- behind the first p of them, where the next one is put over it if its flag is false
  put : (flag : Bool) (packed : List X) (p : ℕ) (x : X) → p < length packed → take (p + cond flag 1 0) (set packed p x) ≡ take p packed ++ cond flag (x ∷ []) []
  put true packed p x room = take_more_set packed p x room
  put false packed p x room =
      let same : p + 0 ≡ p = omega arith in ap (λ n. take n (set packed p x)) same ∙ take-set packed p x ∙ sym (append-nil (take p packed))

  pub stored : (xs packed : List X) (flags : List Bool) (k p more : ℕ) (x : X) → length xs ≡ length flags → k < length flags → more ≡ cond (get_or flags k false) 1 0
      → p < length packed → x ≡ get_or xs k x → take p packed ≡ kept_of (take k xs) (take k flags)
      → take (p + more) (set packed p x) ≡ kept_of (take (k + 1) xs) (take (k + 1) flags)
  stored xs packed flags k p more x long within one room is_x so_far =
      ap (λ n. take (p + n) (set packed p x)) one
      ∙ put (get_or flags k false) packed p x room
      ∙ (λ i. so_far i ++ cond (get_or flags k false) (is_x i ∷ []) [])
      ∙ sym (kept_more xs flags k x long within)

  -- ---- runs of what is kept

  -- the elements from one on and before another, where n flags are true: what is kept of them fills n places
  module _ (xs : List X) (flags : List Bool) (from to first n : ℕ) (long : length xs ≡ length flags) (in_order : from ≤ to) (begin : count_of (take from flags) ≡ first)
      (end : count_of (take to flags) ≡ first + n) where
    pub section-count : (here : List Bool) → here ≡ drop from (take to flags) → count_of here ≡ n
    section-count here is = omega (arith, ap count_of is, count-split (take to flags) from, ap count_of (take-take from to flags in_order), begin, end)

    pub section-kept : (ys : List X) (here : List Bool) → ys ≡ drop from (take to xs) → here ≡ drop from (take to flags) → kept_of ys here ≡ part (kept_of xs flags) first n
    section-kept ys here are is =
        let front = kept_of (take from (take to xs)) (take from (take to flags)) in
        let kept = kept_of ys here in
        let others = kept_of (drop to xs) (drop to flags) in
        let some_long : length (take to xs) ≡ length (take to flags) = omega (arith, long, length-take to xs, length-take to flags) in
        let both : kept_of (take to xs) (take to flags) ≡ front ++ kept = kept-split (take to xs) (take to flags) from ∙ sym (λ i. front ++ kept_of (are i) (is i)) in
        let front_long : length front ≡ first =
        length-kept (take from (take to xs)) (take from (take to flags)) (omega (arith, some_long, length-take from (take to xs), length-take from (take to flags)))
        ∙ ap count_of (take-take from to flags in_order)
        ∙ begin in
        let here_long : length kept ≡ n =
        omega (arith, ap length both, length-kept (take to xs) (take to flags) some_long, end, front_long, length-append front kept) in
        sym
        (ap (λ ys. part ys first n) (kept-split xs flags to ∙ ap (λ ys. ys ++ others) both ∙ append_assoc front kept others)
        ∙ ap (λ k. take n (drop k (front ++ (kept ++ others)))) (sym front_long)
        ∙ ap (take n) (drop-append_seam front (kept ++ others))
        ∙ ap (λ k. take k (kept ++ others)) (sym here_long)
        ∙ take-append_seam kept others)

-- ---- blocks

-- what a run holds and what is left to be pushed, before a block and after it
pub block_more : {X : Type 0} (xs : List X) (flags : List Bool) (n : ℕ) (before after : List X) → after ≡ before ++ kept_of (take n xs) (take n flags)
    → after ++ kept_of (drop n xs) (drop n flags) ≡ before ++ kept_of xs flags
block_more xs flags n before after is =
    ap (λ ys. ys ++ kept_of (drop n xs) (drop n flags)) is
    ∙ append_assoc before (kept_of (take n xs) (take n flags)) (kept_of (drop n xs) (drop n flags))
    ∙ ap (λ ys. before ++ ys) (sym (kept-split xs flags n))
