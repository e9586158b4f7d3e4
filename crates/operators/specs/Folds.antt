-- Folds, reduces and exclusive scans of a list, under an operator with a unit.
-- Source: Blelloch, Vector Models for Data-Parallel Computing, 1990, prescan: that of a0, a1, a2, .. under an operator with identity e is
-- e, a0, a0 + a1, ..
use Rattle.std.specs.Prelude.{List, [], ◌∷◌, map, fold}

-- all elements joined, which a reduce gives: the unit of no elements, and one element more is joined on the right
abbrev pub fold_of : {Item : Type 0} → (Item → Item → Item) → Item → List Item → Item
fold_of join unit xs = fold join unit xs

-- the fronts of a list that are shorter than the list, shortest first
abbrev pub fronts : {Item : Type 0} → List Item → List (List Item)
fronts [] = []
fronts (x ∷ xs) = [] ∷ map (λ front. x ∷ front) (fronts xs)

-- at each place the fold of the elements before it
abbrev pub scan_of : {Item : Type 0} → (Item → Item → Item) → Item → List Item → List Item
scan_of join unit xs = map (fold_of join unit) (fronts xs)
