use Rattle.call_laws.proofs.Cited.{◌≡◌, ◌++◌, ℤ, Bool, List, length, not, refl, ap, arith, zip, Ok, map-append, length-zip, bools1_of, chosen, ints1_of, not_of}
use Rattle.call_table.specs.declared.families.Unary.{Unary}
use Rattle.call_table.specs.declared.families.Unary.TheVariants.{Not, Copy}
use Rattle.cvl_base.specs.Conversions.{integer_of, boolean_of}
use Rattle.call_laws.proofs.PlaceByPlace.{as_long-two, bools2-two, compare-two, ints2-two}
use Rattle.call_laws.proofs.TwoParts.{zip-append}
use Rattle.call_laws.proofs.elementwise.elementwise_in_parts.Goals as goal

ints1-two : (operator : Unary) (xs ys : List ℤ) → ints1_of operator (xs ++ ys) ≡ ints1_of operator xs ++ ints1_of operator ys
ints1-two Not xs ys = map-append not_of xs ys
ints1-two Copy xs ys = refl

bools1-two : (operator : Unary) (xs ys : List Bool) → bools1_of operator (xs ++ ys) ≡ bools1_of operator xs ++ bools1_of operator ys
bools1-two Not xs ys = map-append not xs ys
bools1-two Copy xs ys = refl

pub returns : goal.returns
returns g c = record {
  numbers = ints2-two;
  comparisons = compare-two;
  truth_values = bools2-two;
  choices = λ flags more_flags xs ys more others p q r s.
      as_long-two (length flags) flags xs more_flags more _ _ _ p r (as_long-two (length flags) flags ys more_flags others _ _ _ q s
      (rw (zip-append xs ys more others (omega (arith, p, q)), zip-append flags (zip xs ys) more_flags (zip more others) (omega (arith, p, q, length-zip xs ys)))
      (ap Ok (map-append (λ p. chosen p.0 p.1) (zip flags (zip xs ys)) (zip more_flags (zip more others))))));
  one_number = ints1-two;
  one_truth_value = bools1-two;
  to_numbers = map-append integer_of;
  to_truth_values = map-append boolean_of;
}
