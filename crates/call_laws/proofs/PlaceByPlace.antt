-- Calls place by place on vectors that are cut in two.
use Rattle.call_laws.proofs.Cited.{rules, ◌≡◌, ◌++◌, ℕ, Bool, List, length, length-append, ℤ, Option, Result, map-append, length-zip, if_as_long, if_as_long-fits, Fault, FaultNo, on_pairs}
use Rattle.call_laws.proofs.Cited.{on_pairs_or, ints2_of, compare_of, bools2_of, in_two}
use Rattle.call_table.specs.declared.families.IntBinary.{IntBinary}
use Rattle.call_table.specs.declared.families.IntBinary.TheVariants.{Div, Mod, Lsh, Rsh}
use Rattle.call_table.specs.declared.families.Comparison.{Comparison}
use Rattle.call_table.specs.declared.families.Comparison.TheVariants.{Greater}
use Rattle.call_table.specs.declared.families.BoolBinary.{BoolBinary}
use Rattle.call_laws.proofs.TwoParts.{values-two, zip-append}

-- vectors that must be equally long, and are so in both parts
pub as_long-two : {A B X : Type 0} (n : ℕ) (xs : List A) (ys : List B) (more : List A) (others : List B) (whole first second : Result (List X) Fault)
    → length xs ≡ length ys → length more ≡ length others → whole ≡ in_two n first second
    → if_as_long (xs ++ more) (ys ++ others) whole ≡ in_two n (if_as_long xs ys first) (if_as_long more others second)
as_long-two n xs ys more others whole first second long also_long same = search (rules, if_as_long-fits, length-append)

module _ {A B C : Type 0} (xs : List A) (ys : List B) (more : List A) (others : List B) (long : length xs ≡ length ys) (also_long : length more ≡ length others) where
  pub pairs-two : (operator : A → B → C) → on_pairs operator (xs ++ more) (ys ++ others) ≡ in_two (length xs) (on_pairs operator xs ys) (on_pairs operator more others)
  pairs-two operator = search (rules, as_long-two, zip-append, map-append)

  pub pairs_or-two : (number : FaultNo) (operator : A → B → Option C)
      → on_pairs_or number operator (xs ++ more) (ys ++ others) ≡ in_two (length xs) (on_pairs_or number operator xs ys) (on_pairs_or number operator more others)
  pairs_or-two number operator = search (rules, length-zip, as_long-two, zip-append, values-two)

pub ints2-two : (operator : IntBinary) (xs ys more others : List ℤ) → length xs ≡ length ys → length more ≡ length others
    → ints2_of operator (xs ++ more) (ys ++ others) ≡ in_two (length xs) (ints2_of operator xs ys) (ints2_of operator more others)
ints2-two Div xs ys more others long also_long = pairs_or-two xs ys more others long also_long _ _
ints2-two Mod xs ys more others long also_long = pairs_or-two xs ys more others long also_long _ _
ints2-two Lsh xs ys more others long also_long = pairs_or-two xs ys more others long also_long _ _
ints2-two Rsh xs ys more others long also_long = pairs_or-two xs ys more others long also_long _ _
ints2-two operator xs ys more others long also_long = pairs-two xs ys more others long also_long _

pub compare-two : (comparison : Comparison) (xs ys more others : List ℤ) → length xs ≡ length ys → length more ≡ length others
    → compare_of comparison (xs ++ more) (ys ++ others) ≡ in_two (length xs) (compare_of comparison xs ys) (compare_of comparison more others)
compare-two Greater xs ys more others long also_long = pairs-two xs ys more others long also_long _
compare-two comparison xs ys more others long also_long = pairs-two xs ys more others long also_long _

pub bools2-two : (operator : BoolBinary) (xs ys more others : List Bool) → length xs ≡ length ys → length more ≡ length others
    → bools2_of operator (xs ++ more) (ys ++ others) ≡ in_two (length xs) (bools2_of operator xs ys) (bools2_of operator more others)
bools2-two operator xs ys more others long also_long = pairs-two xs ys more others long also_long _
