-- Copies of one item, and items that are taken back.
use Rattle.fresh.proofs.Cited.{◌≡◌, ◌+◌, ◌-◌, ◌<◌, ◌≤◌, ◌∙◌, ℕ, zero, suc, List, [], ◌∷◌, ◌++◌, length, replicate, take, refl, sym, ap, arith, drop-replicate, length-append, length-take}
use Rattle.fresh.proofs.Cited.{take-replicate, take-take}
use Rattle.fresh.proofs.Cited.{part, stretch, Stretch}
use Rattle.std.proofs.Math.Seq.{take-append_seam}

-- a part of copies of one item is copies of it
pub part_of_copies : {X : Type 0} (item : X) (count first room : ℕ) → first + room ≤ count → part (replicate count item) first room ≡ replicate room item
part_of_copies item count first room within = ap (take room) (drop-replicate first count item) ∙ take-replicate room (count - first) item (omega arith)

module _ {X : Type 0} where
  -- one item more is taken back
  pub one_fewer : (old now next : Stretch X) (x : X) (k : ℕ) → k < length old.items → now ≡ stretch old.block old.first (take (length old.items - k) old.items) (old.room + k)
      → now.items ≡ next.items ++ x ∷ [] → next ≡ stretch now.block now.first next.items (now.room + 1)
      → next ≡ stretch old.block old.first (take (length old.items - (k + 1)) old.items) (old.room + (k + 1))
  one_fewer old now next x k within before last others =
      let n = length old.items in
      let items : now.items ≡ take (n - k) old.items = ap (λ s. s.items) before in
      let long : length next.items ≡ n - (k + 1) = omega (arith, within, ap length last, length-append next.items (x ∷ []), ap length items, length-take (n - k) old.items) in
      let fewer : next.items ≡ take (n - (k + 1)) old.items =
      sym (take-append_seam next.items (x ∷ [])) ∙ (λ i. take (long i) ((sym last ∙ items) i)) ∙ take-take (n - (k + 1)) (n - k) old.items (omega arith) in
      let more : now.room + 1 ≡ old.room + (k + 1) = omega (arith, ap (λ s. s.room) before) in
      others ∙ λ i. stretch (before i).block (before i).first (fewer i) (more i)

  take_past : (xs ys : List X) (k n : ℕ) → n ≡ length xs + k → take n (xs ++ ys) ≡ xs ++ take k ys
  take_past [] ys k n is = let same : n ≡ k = omega (arith, is) in ap (λ m. take m ys) same
  take_past (x ∷ xs) ys k zero is = absurd (omega (arith, is))
  take_past (x ∷ xs) ys k (suc n) is = ap (λ l. x ∷ l) (take_past xs ys k n (omega (arith, is)))

  -- of n more items all but the first of them are taken back
  pub taken_back : (old more now : Stretch X) (ys : List X) (n count : ℕ) → length ys ≡ n → count ≤ n → n ≤ old.room → more ≡ stretch old.block old.first (old.items ++ ys) (old.room - n)
      → now ≡ stretch more.block more.first (take (length more.items - (n - count)) more.items) (more.room + (n - count))
      → now ≡ stretch old.block old.first (old.items ++ take count ys) (old.room - count)
  taken_back old more now ys n count long few room written taken =
      let items = ap (λ s. s.items) written in
      let kept : length more.items - (n - count) ≡ length old.items + count = omega (arith, long, few, ap length items, length-append old.items ys) in
      let left : more.room + (n - count) ≡ old.room - count = omega (arith, few, room, ap (λ s. s.room) written) in
      taken ∙ (λ i. stretch (written i).block (written i).first (take (kept i) (items i)) (left i))
      ∙ ap (λ l. stretch old.block old.first l (old.room - count)) (take_past old.items ys count (length old.items + count) refl)
