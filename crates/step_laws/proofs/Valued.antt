-- Values place by place, of which some may be missing: those of the parts, one after another, are those of the whole.
use Rattle.std.proofs.Common.{◌≡◌, ◌+◌, ◌∙◌, List, [], ◌∷◌, length, length-append, map, Option, Result, Ok, refl, sym, ap}
use Rattle.std.specs.List.{AllZip}
use Rattle.cvl_base.specs.declared.fault.Fault.{Fault}
use Rattle.cvl_base.specs.declared.fault.FaultNo.{FaultNo}
use Rattle.cvl_base.specs.Elementwise.{values_from}
use Rattle.cvl_base.specs.Lists.{joined}
use Rattle.call_laws.proofs.TwoParts.{values-two}
use Rattle.call_laws.specs.InParts.{in_two}

-- lists that are as long in pairs are as long together
pub long-zipped : {A B X Y : Type 0} (g : A → List X) (h : B → List Y) (xs : List A) (ys : List B) → AllZip (λ x y. length (h y) ≡ length (g x)) xs ys
    → length (joined (map h ys)) ≡ length (joined (map g xs))
long-zipped g h [] [] same = refl
long-zipped g h [] (y ∷ ys) same = absurd same
long-zipped g h (x ∷ xs) [] same = absurd same
long-zipped g h (x ∷ xs) (y ∷ ys) same =
    length-append (h y) (joined (map h ys))
    ∙ ap (λ n. n + length (joined (map h ys))) same.0
    ∙ ap (λ n. length (g x) + n) (long-zipped g h xs ys same.1)
    ∙ sym (length-append (g x) (joined (map g xs)))

module _ {X Y : Type 0} (number : FaultNo) (value : X → Option Y) where
  abbrev values : List X → Result (List Y) Fault
  values xs = values_from number 0 (map value xs)

  -- the values of pairs of parts, one after another
  pub joined-values : {A B : Type 0} (g : A → List X) (h : B → List Y) (xs : List A) (ys : List B) → AllZip (λ x y. values (g x) ≡ Ok (h y)) xs ys
      → values (joined (map g xs)) ≡ Ok (joined (map h ys))
  joined-values g h [] [] same = refl
  joined-values g h [] (y ∷ ys) same = absurd same
  joined-values g h (x ∷ xs) [] same = absurd same
  joined-values g h (x ∷ xs) (y ∷ ys) same =
      let others : List X = joined (map g xs) in
      values-two number value (g x) others
      ∙ ap (λ r. in_two (length (g x)) r (values others)) same.0
      ∙ ap (λ r. in_two (length (g x)) (Ok (h y)) r) (joined-values g h xs ys same.1)
