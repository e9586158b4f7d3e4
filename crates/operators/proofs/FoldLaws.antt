-- What follows from the definitions of folds and scans, first for any operator, then for a monoid.
-- Source: what the definitions of Folds and Monoid imply.
use Rattle.std.proofs.Common.{◌≡◌, refl, sym, ap, ◌∙◌, ℕ, zero, suc, ◌+◌, ◌<◌, List, [], ◌∷◌, ◌++◌, length, take, map, get_or, IsTrue, Bool, Some, true, slice_get, arith}
use Rattle.std.specs.List.{fold, AllPass}
use Rattle.std.specs.Option.{option_map}
use Rattle.std.proofs.lemmas.List.{length-map, map-append, take_more}
use Rattle.std.proofs.lemmas.List.Elements.{All-head, All-tail}
use Rattle.std.proofs.lemmas.List.Sums.{fold_push, fold-append}
use Rattle.std.proofs.lemmas.Option.{slice_get-map}
use Rattle.operators.specs.Folds.{fold_of, fronts, scan_of}
use Rattle.operators.specs.Monoid.{MonoidLaws}

pub length-fronts : {Item : Type 0} (xs : List Item) → length (fronts xs) ≡ length xs
length-fronts [] = refl
length-fronts (x ∷ xs) = ap suc (length-map (fronts xs) (λ front. x ∷ front) ∙ length-fronts xs)

-- a list is the longest front of itself and one element more
pub fronts_push : {Item : Type 0} (xs : List Item) (x : Item) → fronts (xs ++ x ∷ []) ≡ fronts xs ++ xs ∷ []
fronts_push [] x = refl
fronts_push (y ∷ ys) x = ap (λ fs. [] ∷ map (λ front. y ∷ front) fs) (fronts_push ys x) ∙ ap (λ fs. [] ∷ fs) (map-append (λ front. y ∷ front) (fronts ys) (ys ∷ []))

pub slice_get-fronts : {Item : Type 0} (xs : List Item) (k : ℕ) → k < length xs → slice_get (fronts xs) k ≡ Some (take k xs)
slice_get-fronts [] k within = absurd (omega arith)
slice_get-fronts (x ∷ xs) zero within = refl
slice_get-fronts (x ∷ xs) (suc k) within = slice_get-map (λ front. x ∷ front) (fronts xs) k ∙ ap (option_map (λ front. x ∷ front)) (slice_get-fronts xs k (omega arith))

map-prefixed : {X Y : Type 0} (f : List X → Y) (x : X) (lists : List (List X)) → map f (map (λ front. x ∷ front) lists) ≡ map (λ front. f (x ∷ front)) lists
map-prefixed f x [] = refl
map-prefixed f x (list ∷ lists) = ap (λ tail. f (x ∷ list) ∷ tail) (map-prefixed f x lists)

module _ {Item : Type 0} (join : Item → Item → Item) where
  pub scan_of-cons : (before x : Item) (xs : List Item) → scan_of join before (x ∷ xs) ≡ before ∷ scan_of join (join before x) xs
  scan_of-cons before x xs = ap (λ tail. before ∷ tail) (map-prefixed (fold_of join before) x (fronts xs))

  -- of a list in two parts
  pub scan_of-append : (before : Item) (xs ys : List Item) → scan_of join before (xs ++ ys) ≡ scan_of join before xs ++ scan_of join (fold_of join before xs) ys
  scan_of-append before [] ys = refl
  scan_of-append before (x ∷ xs) ys =
      scan_of-cons before x (xs ++ ys)
      ∙ ap (λ tail. before ∷ tail) (scan_of-append (join before x) xs ys)
      ∙ ap (λ zs. zs ++ scan_of join (fold_of join before (x ∷ xs)) ys) (sym (scan_of-cons before x xs))

module _ {Item : Type 0} (join : Item → Item → Item) (unit : Item) where
  pub fold_of_push : (xs : List Item) (x : Item) → fold_of join unit (xs ++ x ∷ []) ≡ join (fold_of join unit xs) x
  fold_of_push xs x = fold_push join unit xs x

  pub length-scan_of : (xs : List Item) → length (scan_of join unit xs) ≡ length xs
  length-scan_of xs = length-map (fronts xs) (fold_of join unit) ∙ length-fronts xs

  pub slice_get-scan_of : (xs : List Item) (k : ℕ) → k < length xs → slice_get (scan_of join unit xs) k ≡ Some (fold_of join unit (take k xs))
  slice_get-scan_of xs k within = slice_get-map (fold_of join unit) (fronts xs) k ∙ ap (option_map (fold_of join unit)) (slice_get-fronts xs k within)

  pub scan_of_push : (xs : List Item) (x : Item) → scan_of join unit (xs ++ x ∷ []) ≡ scan_of join unit xs ++ fold_of join unit xs ∷ []
  scan_of_push xs x = ap (map (fold_of join unit)) (fronts_push xs x) ∙ map-append (fold_of join unit) (fronts xs) (xs ∷ [])

  -- the step of a loop over xs
  pub scan_of_more : (xs : List Item) (i : ℕ) → i < length xs → scan_of join unit (take (i + 1) xs) ≡ scan_of join unit (take i xs) ++ fold_of join unit (take i xs) ∷ []
  scan_of_more xs i within = ap (scan_of join unit) (take_more xs i unit within) ∙ scan_of_push (take i xs) (get_or xs i unit)

module _ {Item : Type 0} {is_item : Item → Bool} {unit : Item} {join : Item → Item → Item} (laws : MonoidLaws is_item unit join) where
  fold_from_is_item : (a : Item) (xs : List Item) → IsTrue (is_item a) → AllPass is_item xs → IsTrue (is_item (fold join a xs))
  fold_from_is_item a [] p items = p
  fold_from_is_item a (x ∷ xs) p items = fold_from_is_item (join a x) xs (laws.join_is_item a x p (All-head (λ y. is_item y ≡ true) x xs items)) (All-tail (λ y. is_item y ≡ true) x xs items)

  pub fold_of_is_item : (xs : List Item) → AllPass is_item xs → IsTrue (is_item (fold_of join unit xs))
  fold_of_is_item xs items = fold_from_is_item unit xs laws.unit_is_item items

  -- a fold from a is a, joined with the fold from the unit
  pub fold_from : (a : Item) (xs : List Item) → IsTrue (is_item a) → AllPass is_item xs → fold join a xs ≡ join a (fold_of join unit xs)
  fold_from a [] p items = sym (laws.right_unit a p)
  fold_from a (x ∷ xs) p items =
      let q = All-head (λ y. is_item y ≡ true) x xs items in
      let rest = All-tail (λ y. is_item y ≡ true) x xs items in
      fold_from (join a x) xs (laws.join_is_item a x p q) rest
      ∙ laws.assoc a x (fold_of join unit xs) p q (fold_of_is_item xs rest)
      ∙ ap (join a) (sym (ap (λ b. fold join b xs) (laws.left_unit x q) ∙ fold_from x xs q rest))

  pub fold_of-append : (xs ys : List Item) → AllPass is_item xs → AllPass is_item ys → fold_of join unit (xs ++ ys) ≡ join (fold_of join unit xs) (fold_of join unit ys)
  fold_of-append xs ys p q = fold-append join unit xs ys ∙ fold_from (fold_of join unit xs) ys (fold_of_is_item xs p) q
