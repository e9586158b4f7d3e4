-- The front of a room that is written item by item.
use Rattle.std.proofs.Common.{◌≡◌, ◌∙◌, ◌++◌, ◌+◌, ◌-◌, ◌<◌, ◌≤◌, ℕ, List, [], ◌∷◌, length, map, take, append_assoc, ap, sym, arith}
use Rattle.std.specs.List.{range_with_len}
use Rattle.std.proofs.Math.Seq.{take-append-add}
use Rattle.std.proofs.lemmas.List.{length-take-le, take-take, take_more_set}
use Rattle.std.proofs.lemmas.List.FromFn.{map-range_with_len_more, take-map-range_with_len}
use Rattle.std.specs.Prelude.{slice_set}

module _ {X : Type 0} (at : ℕ → X) (before : List X) (first : ℕ) where
  -- one item more
  pub item_more : (room : List X) (place : ℕ) (x : X) → first ≤ place → place < length room → x ≡ at (place - first)
      → take place room ≡ take first before ++ map at (range_with_len 0 (place - first))
      → take (place + 1) (slice_set room place x) ≡ take first before ++ map at (range_with_len 0 (place + 1 - first))
  item_more room place x order within x_is is =
      let front = take first before in
      let same : place + 1 - first ≡ place - first + 1 = omega (arith, order) in
      take_more_set room place x within
      ∙ (λ i. is i ++ x_is i ∷ [])
      ∙ append_assoc front (map at (range_with_len 0 (place - first))) (at (place - first) ∷ [])
      ∙ ap (λ xs. front ++ xs) (sym (map-range_with_len_more at 0 (place - first) (place - first) (omega arith)))
      ∙ ap (λ n. front ++ map at (range_with_len 0 n)) (sym same)

  -- fewer items than were written
  pub fewer_items : (room : List X) (end written : ℕ) → first ≤ length before → first ≤ end → end ≤ written
      → take written room ≡ take first before ++ map at (range_with_len 0 (written - first))
      → take end room ≡ take first before ++ map at (range_with_len 0 (end - first))
  fewer_items room end written within order few is =
      let front = take first before in
      let long : end ≡ length front + (end - first) = omega (arith, length-take-le first before within, order) in
      sym (take-take end written room few)
      ∙ (λ i. take (long i) (is i))
      ∙ take-append-add front (map at (range_with_len 0 (written - first))) (end - first)
      ∙ ap (λ xs. front ++ xs) (take-map-range_with_len at 0 (written - first) (end - first) (omega (arith, few)))
