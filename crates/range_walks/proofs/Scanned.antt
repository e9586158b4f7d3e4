-- Sums that begin after what stands before them.
use Rattle.range_walks.proofs.Cited.{◌≡◌, ℕ, ◌+◌, ◌<◌, ◌≤◌, List, length, take, drop, map, get_or, sym, ap, ◌∙◌, arith, drop-map, get_or-map, length-map, take-map, take_all, fold_more, fold_of}
use Rattle.range_walks.proofs.Cited.{scan_of, length-scan_of}

module _ {Item : Type 0} (join : Item → Item → Item) where
  -- the step of the sum itself
  pub joined_more : (before sum x next : Item) (xs : List Item) (i : ℕ) → i < length xs → x ≡ get_or xs i x → sum ≡ fold_of join before (take i xs) → next ≡ join sum x
      → next ≡ fold_of join before (take (i + 1) xs)
  joined_more before sum x next xs i within is_x is_sum is_next = cc (is_next, is_sum, is_x, fold_more join before xs i x within)

-- ---- elements that are read as items

module _ {X Item : Type 0} (item : X → Item) where
  pub length-read : (xs : List X) (i : ℕ) → i < length xs → i < length (map item xs)
  length-read xs i within = omega (arith, within, length-map xs item)

  pub item_read : (xs : List X) (i : ℕ) (x : X) → i < length xs → x ≡ get_or xs i x → item x ≡ get_or (map item xs) i (item x)
  item_read xs i x within is = ap item is ∙ sym (get_or-map item xs i x (item x) within)

  pub all_read : (xs : List X) (n : ℕ) → length xs ≤ n → take n (map item xs) ≡ map item xs
  all_read xs n covered = take_all n (map item xs) (omega (arith, covered, length-map xs item))

-- the step of a sum of what the elements are read as
pub joined_reading : {X Item : Type 0} (join : Item → Item → Item) (item : X → Item) (before sum next : Item) (x : X) (xs : List X) (i : ℕ) → i < length xs → x ≡ get_or xs i x
    → sum ≡ fold_of join before (take i (map item xs)) → next ≡ join sum (item x) → next ≡ fold_of join before (take (i + 1) (map item xs))
joined_reading join item before sum next x xs i within is_x is_sum is_next =
    joined_more join before sum (item x) next (map item xs) i (length-read item xs i within) (item_read item xs i x within is_x) is_sum is_next

-- the scan of what they are read as
pub length-scan_read : {X Item : Type 0} (join : Item → Item → Item) (item : X → Item) (before : Item) (xs : List X) → length (scan_of join before (map item xs)) ≡ length xs
length-scan_read join item before xs = length-scan_of join before (map item xs) ∙ length-map xs item

-- a part of them, read
pub part_read : {X Item : Type 0} (item : X → Item) (n from : ℕ) (xs : List X) → map item (take n (drop from xs)) ≡ take n (drop from (map item xs))
part_read item n from xs = sym (take-map item n (drop from xs)) ∙ ap (take n) (sym (drop-map item from xs))
