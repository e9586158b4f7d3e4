-- What a run holds while it is written.
-- Source: what the definitions of Places imply.
use Rattle.fresh.proofs.Cited.{◌≡◌, ℕ, ◌-◌, ◌≤◌, List, [], ◌∷◌, ◌++◌, length, append_assoc, append-nil, ap, ◌∙◌, arith, length-append, IsAllOf, Site, Stretch, stretch, with_items}

module _ {X : Type 0} where
  -- one list of items after another
  pub written_twice : (run : Stretch X) (xs ys : List X) → with_items (with_items run xs) ys ≡ with_items run (xs ++ ys)
  written_twice run xs ys =
      let left : run.room - length xs - length ys ≡ run.room - length (xs ++ ys) = omega (arith, length-append xs ys) in
      λ i. stretch run.block run.first (append_assoc run.items xs ys i) (left i)

  -- one item after others
  pub one_written : (run now next : Stretch X) (xs : List X) (x : X) → now ≡ with_items run xs → next ≡ stretch now.block now.first (now.items ++ x ∷ []) (now.room - 1)
      → next ≡ with_items run (xs ++ x ∷ [])
  one_written run now next xs x is pushed = pushed ∙ ap (λ (s : Stretch X). with_items s (x ∷ [])) is ∙ written_twice run xs (x ∷ [])

  pub nothing_written : (run : Stretch X) → with_items run [] ≡ run
  nothing_written run = let left : run.room - 0 ≡ run.room = omega arith in λ i. stretch run.block run.first (append-nil run.items i) (left i)

  -- a room whose run of all places holds these items
  pub all_written : (site : Site) (run all : Stretch X) (xs : List X) (n : ℕ) → site.places ≡ n → run ≡ stretch site.block 0 [] n → all ≡ with_items run xs → length xs ≤ n
      → IsAllOf site all × (all.items ≡ xs)
  all_written site run all xs n places new written fits =
      let whole : all ≡ with_items (stretch site.block 0 [] n) xs = written ∙ ap (λ (s : Stretch X). with_items s xs) new in
      let left : all.room ≡ n - length xs = ap (λ s. s.room) whole in
      let items : all.items ≡ xs = ap (λ s. s.items) whole in
      let long : length all.items ≡ length xs = ap length items in
      let first : all.first ≡ 0 = ap (λ s. s.first) whole in
      ((ap (λ s. s.block) whole, first, omega (arith, left, long, first, places, fits)), items)
