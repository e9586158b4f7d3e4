-- A few elements, all of which are read as items, one after another.
use Rattle.range_walks.proofs.Cited.{◌≡◌, ◌∷◌, Bool, List, subst, true, AllPass, All-head}
use Rattle.std.proofs.lemmas.List.Elements.{All-tail}

module _ {X : Type 0} (passes : X → Bool) (x : X) (xs ys : List X) (are : ys ≡ x ∷ xs) (all : AllPass passes ys) where
  there : AllPass passes (x ∷ xs)
  there = subst (AllPass passes) are all

  pub first_passes : passes x ≡ true
  first_passes = All-head (λ y. passes y ≡ true) x xs there

  pub others_pass : AllPass passes xs
  others_pass = All-tail (λ y. passes y ≡ true) x xs there
