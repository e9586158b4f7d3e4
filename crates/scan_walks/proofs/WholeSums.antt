-- Sums over whole numbers: addition is a monoid.
-- Source: arithmetic.
use Rattle.scan_walks.proofs.Cited.{◌+ℤ◌, refl, true, ℤ, pos, List, arith, AllPass, ints}
use Rattle.cvl_base.specs.Monoid.{MonoidLaws}

pub whole_laws : MonoidLaws (λ _. true) (pos 0) ◌+ℤ◌
whole_laws = record {
  unit_is_item = refl;
  join_is_item = λ a b _ _. refl;
  assoc = λ a b c _ _ _. omega (arith, ints);
  left_unit = λ a _. omega (arith, ints);
  right_unit = λ a _. omega (arith, ints);
}

pub all_whole : (xs : List ℤ) → AllPass (λ _. true) xs
all_whole xs i d lt = refl
