-- What a run of fresh memory holds while scans or reduces are written into it.
-- Source: what the definitions of folds and of runs imply.
use Rattle.range_walks.proofs.Cited.{◌≡◌, ℕ, ◌+◌, ◌-◌, ◌<◌, List, [], ◌∷◌, ◌++◌, length, take, fold_of, scan_of, Stretch, stretch, with_items, one_written, written_twice, scan_of_more}

-- the step of a scan
pub scan_written : {Item : Type 0} (join : Item → Item → Item) (run now next : Stretch Item) (before sum : Item) (xs : List Item) (i : ℕ) → i < length xs
    → now ≡ with_items run (scan_of join before (take i xs)) → sum ≡ fold_of join before (take i xs) → next ≡ stretch now.block now.first (now.items ++ sum ∷ []) (now.room - 1)
    → next ≡ with_items run (scan_of join before (take (i + 1) xs))
scan_written join run now next before sum xs i within is is_sum pushed = cc (one_written run now next (scan_of join before (take i xs)) sum is pushed, is_sum, scan_of_more join before xs i within)

-- the step of a walk that has these items left to write, and writes the first of them
pub written_more : {Item : Type 0} (run next whole : Stretch Item) (now later left : List Item) → next ≡ with_items run now → left ≡ now ++ later → with_items run left ≡ whole
    → with_items next later ≡ whole
written_more {Item = Item} run next whole now later left is_next is_left is_whole = cc (is_next, written_twice run now later, is_left, is_whole)
