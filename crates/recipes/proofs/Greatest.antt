-- The greatest of several numbers: it is less than a number where each of them is.
use Rattle.std.proofs.Common.{◌≡◌, sym, ap, ◌∙◌, true, false, List, [], ◌∷◌, ℤ, arith}
use Rattle.std.specs.Prelude.{int_lt, ◌≤ℤ◌, ◌<ℤ◌, ◌&&◌}
use Rattle.std.specs.Int.{int_max}
use Rattle.std.specs.List.{fold, list_all}
use Rattle.std.proofs.lemmas.Int.{ints, clamps, by_lt_z}
use Rattle.std.proofs.Math.Bool.{and-true, and_assoc}

pub less_true : (a b : ℤ) → a <ℤ b → int_lt a b ≡ true
less_true a b h = grind (arith, ints)

less_false : (a b : ℤ) → b ≤ℤ a → int_lt a b ≡ false
less_false a b h = grind (arith, ints)

max_less : (a b y : ℤ) → int_lt (int_max a b) y ≡ (int_lt a y && int_lt b y)
max_less a b y =
    by_lt_z a y
    (λ first. by_lt_z b y
    (λ second. less_true (int_max a b) y (omega (arith, ints, clamps)) ∙ sym (λ i. less_true a y first i && less_true b y second i))
    (λ second. less_false (int_max a b) y (omega (arith, ints, clamps)) ∙ sym (λ i. less_true a y first i && less_false b y second i)))
    (λ first. less_false (int_max a b) y (omega (arith, ints, clamps)) ∙ sym (ap (λ t. t && int_lt b y) (less_false a y first)))

-- the greatest of a and xs is less than y where each of them is
pub greatest_less : (a y : ℤ) (xs : List ℤ) → int_lt (fold int_max a xs) y ≡ (int_lt a y && list_all (λ x. int_lt x y) xs)
greatest_less a y [] = sym (and-true (int_lt a y))
greatest_less a y (x ∷ xs) =
    greatest_less (int_max a x) y xs
    ∙ ap (λ t. t && list_all (λ z. int_lt z y) xs) (max_less a x y)
    ∙ and_assoc (int_lt a y) (int_lt x y) (list_all (λ z. int_lt z y) xs)
