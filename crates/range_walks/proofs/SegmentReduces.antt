-- The reduces of a run of segments, of which the first may have begun before the run.
use Rattle.range_walks.proofs.Cited.{common_steps, ◌≡◌, ℕ, zero, suc, ◌+◌, ◌-◌, ◌<◌, ◌≤◌, List, [], ◌∷◌, length, map, take, drop, get_or, slice_range, refl, sym, ap, ◌∙◌, arith, take-add, drop-drop}
use Rattle.range_walks.proofs.Cited.{drop_at, length-take-le, fold-append, sum_by_more, fold_of, start_of, cut_of, IsOpenAt, reduces_of}
use Rattle.cvl_base.proofs.Nests.{length-cut}
use Rattle.range_walks.proofs.Scanned.{part_read}
use Rattle.range_walks.proofs.Segments.{cut_more, cut_parted}

-- the first segments, and those from segment s on
pub cut-take : {Item : Type 0} (lengths : List ℕ) (xs : List Item) (n : ℕ) → take n (cut_of lengths xs) ≡ cut_of (take n lengths) xs
cut-take lengths xs zero = refl
cut-take [] xs (suc n) = refl
cut-take (k ∷ ls) xs (suc n) = ap (λ lists. take k xs ∷ lists) (cut-take ls (drop k xs) n)

pub cut-drop : {Item : Type 0} (lengths : List ℕ) (xs : List Item) (s : ℕ) → s ≤ length lengths → drop s (cut_of lengths xs) ≡ cut_of (drop s lengths) (drop (start_of lengths s) xs)
cut-drop lengths xs s le = ap (drop s) (cut_parted s lengths xs) ∙ drop_at _ _ s (length-cut (take s lengths) (take (start_of lengths s) xs) ∙ length-take-le s lengths le)

module _ {Item : Type 0} (join : Item → Item → Item) (unit : Item) where
  -- what a walk over the segments from `first` to the one before `next` pushes, where `end` is the end of the first
  pub reduces_walked : (lengths : List ℕ) (xs : List Item) (first next from end : ℕ) (before : Item) → first < next → next ≤ length lengths
      → IsOpenAt join unit lengths xs first from before → end ≡ start_of lengths (first + 1)
      → slice_range (reduces_of join unit lengths xs) first next
      ≡ fold_of join before (slice_range xs from end) ∷ reduces_of join unit (slice_range lengths (first + 1) next) (drop (end - from) (drop from xs))
  reduces_walked lengths xs first next from end before some within begun is_end =
      let p : ℕ = start_of lengths first in
      let n : ℕ = get_or lengths first 0 in
      let m : ℕ = next - (first + 1) in
      let rest : ℕ = end - from in
      let lt : first < length lengths = omega (arith, some, within) in
      let count : next - first ≡ suc m = omega (arith, some) in
      let ends : end ≡ p + n = is_end ∙ sum_by_more (λ x. x) lengths first 0 lt in
      let front : p + (from - p) ≡ from = omega (arith, begun.begun) in
      let parts : n ≡ (from - p) + rest = omega (arith, ends, front, begun.not_past, is_end) in
      let behind : from + rest ≡ p + n = omega (arith, ends, begun.not_past, is_end) in
      let others : drop rest (drop from xs) ≡ drop n (drop p xs) = drop-drop rest from xs ∙ ap (λ k. drop k xs) behind ∙ sym (drop-drop n p xs) in
      let sum : fold_of join unit (take n (drop p xs)) ≡ fold_of join before (take rest (drop from xs)) = grind (arith, common_steps, take-add, fold-append, drop-drop) in
      sym (part_read (fold_of join unit) (next - first) first (cut_of lengths xs))
      ∙ (λ i. map (fold_of join unit) (take (count i) ((cut-drop lengths xs first (omega (arith, lt)) ∙ cut_more lengths first n (drop p xs) _ _ lt refl refl others) i)))
      ∙ ap (λ lists. fold_of join unit (take n (drop p xs)) ∷ map (fold_of join unit) lists) (cut-take (drop (first + 1) lengths) (drop rest (drop from xs)) m)
      ∙ ap (λ z. z ∷ reduces_of join unit (take m (drop (first + 1) lengths)) (drop rest (drop from xs))) sum
