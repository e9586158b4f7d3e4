-- Rows that stand one after another among all of them, and what is written of them.
-- Source: what the definitions of Nests and of Places imply.
use Rattle.sparse_products.proofs.Cited.{◌≡◌, ℕ, ◌+◌, ◌-◌, ◌≤◌, List, [], ◌++◌, length, map, take, drop, sym, ap, ◌∙◌, arith, sum, drop-drop, length-map, cut_of, length-cut, length_part, part}
use Rattle.sparse_products.proofs.Cited.{Stretch, stretch, with_items, cut_parted, start_of}
use Rattle.range_walks.proofs.Scanned.{part_read}
use Rattle.range_walks.proofs.SegmentReduces.{cut-drop, cut-take}

module _ {X : Type 0} where
  -- n rows from the one numbered `first` on
  pub cut_part : (lengths : List ℕ) (xs : List X) (first n : ℕ) → first ≤ length lengths → cut_of (part lengths first n) (drop (start_of lengths first) xs) ≡ part (cut_of lengths xs) first n
  cut_part lengths xs first n le = sym (ap (take n) (cut-drop lengths xs first le) ∙ cut-take (drop first lengths) (drop (start_of lengths first) xs) n)

  -- what a function gives of these rows, cut from their own entries
  pub rows_shared : {Z : Type 0} (f : List X → Z) (lengths own_lengths : List ℕ) (xs own : List X) (first n start : ℕ) → first ≤ length lengths → own_lengths ≡ part lengths first n
      → start ≡ start_of lengths first → own ≡ drop start xs → map f (cut_of own_lengths own) ≡ part (map f (cut_of lengths xs)) first n
  rows_shared f lengths own_lengths xs own first n start le are begins is = cc (are, is, begins, cut_part lengths xs first n le, part_read f n first (cut_of lengths xs))

  -- n entries are those of a group of rows, and the others those of the rows behind it
  pub cut_group : (lengths group : List ℕ) (s k n next : ℕ) (xs front others : List X) → group ≡ take k (drop s lengths) → n ≡ sum group → next ≡ s + k → front ≡ take n xs → others ≡ drop n xs
      → cut_of (drop s lengths) xs ≡ cut_of group front ++ cut_of (drop next lengths) others
  cut_group lengths group s k n next xs front others is_group is_n is_next is_front is_others =
      let begins : start_of (drop s lengths) k ≡ n = ap sum (sym is_group) ∙ sym is_n in
      let later : drop k (drop s lengths) ≡ drop next lengths = drop-drop k s lengths ∙ ap (λ j. drop j lengths) (sym is_next) in
      cc (cut_parted k (drop s lengths) xs, is_group, begins, later, is_front, is_others)

  -- a run that was empty holds a part of a list
  pub part_written : (run out : Stretch X) (whole items : List X) → run.items ≡ [] → run.first + run.room ≤ length whole → items ≡ part whole run.first run.room
      → out ≡ with_items run items → out ≡ stretch run.block run.first (part whole run.first run.room) 0
  part_written run out whole items empty within same is =
      let left : run.room - length items ≡ 0 = omega (arith, ap length same, length_part whole run.first run.room within) in
      is ∙ (λ i. stretch run.block run.first (empty i ++ same i) (left i))

-- how many rows there are
pub ruleset rows_long = (length-map, length-cut)
