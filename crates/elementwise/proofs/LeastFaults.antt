-- The values of a call, by the least place that has none.
use Rattle.elementwise.proofs.Cited.{Option, Some, None, Ok, Err, zip, unwrap_or, ◌≡◌, ◌∙◌, refl, sym, ap, ℕ, ◌+◌, ℤ, pos, List, [], ◌∷◌, length, map, least_from, on_pairs_or, values_from}
use Rattle.elementwise.proofs.Cited.{if_as_long-fits}
use Rattle.std.proofs.lemmas.Option.{none-some, same_Some}
use Rattle.cvl_base.specs.declared.fault.FaultNo.{FaultNo}
use Rattle.cvl_base.specs.Faults.{fault_at}
use Rattle.cvl_base.specs.Gives.{◌>>=◌}
use Rattle.elementwise.specs.Valueless.{least_without, slot_without}

module _ {Z Y : Type 0} (number : FaultNo) (f : Z → Option Y) (d : Y) where
  abbrev targets : List Z → List (Option ℕ)
  targets zs = map (λ z. slot_without (f z)) zs

  fails_at : (v : Option Y) (place p : ℕ) (zs : List Z) → least_from place (slot_without v ∷ targets zs) 0 ≡ Some p
      → (least_from (place + 1) (targets zs) 0 ≡ Some p → values_from number (place + 1) (map f zs) ≡ Err (fault_at number p))
      → values_from number place (v ∷ map f zs) ≡ Err (fault_at number p)
  fails_at None place p zs is others = ap (λ q. Err (fault_at number q)) (same_Some place p is)
  fails_at (Some y) place p zs is others = ap (λ r. r >>= λ ys. Ok (y ∷ ys)) (others is)

  fails : (zs : List Z) (place p : ℕ) → least_from place (targets zs) 0 ≡ Some p → values_from number place (map f zs) ≡ Err (fault_at number p)
  fails [] place p is = absurd (none-some p is)
  fails (z ∷ zs) place p is = fails_at (f z) place p zs is (fails zs (place + 1) p)

  succeeds_at : (v : Option Y) (place : ℕ) (zs : List Z) → least_from place (slot_without v ∷ targets zs) 0 ≡ None
      → (least_from (place + 1) (targets zs) 0 ≡ None → values_from number (place + 1) (map f zs) ≡ Ok (map (λ z. unwrap_or (f z) d) zs))
      → values_from number place (v ∷ map f zs) ≡ Ok (unwrap_or v d ∷ map (λ z. unwrap_or (f z) d) zs)
  succeeds_at None place zs is others = absurd (none-some place (sym is))
  succeeds_at (Some y) place zs is others = ap (λ r. r >>= λ ys. Ok (y ∷ ys)) (others is)

  succeeds : (zs : List Z) (place : ℕ) → least_from place (targets zs) 0 ≡ None → values_from number place (map f zs) ≡ Ok (map (λ z. unwrap_or (f z) d) zs)
  succeeds [] place is = refl
  succeeds (z ∷ zs) place is = succeeds_at (f z) place zs is (succeeds zs (place + 1))

module _ (number : FaultNo) (value : ℤ → ℤ → Option ℤ) (xs ys : List ℤ) (same : length xs ≡ length ys) where
  -- the fault is the one at the least place without a value
  pub pairs_fail : (p : ℕ) → least_without value xs ys 0 ≡ Some p → on_pairs_or number value xs ys ≡ Err (fault_at number p)
  pairs_fail p is = if_as_long-fits xs ys _ same ∙ fails number (λ p. value p.0 p.1) (pos 0) (zip xs ys) 0 p is

  -- where no place is without a value these are all values
  pub pairs_succeed : least_without value xs ys 0 ≡ None → on_pairs_or number value xs ys ≡ Ok (map (λ p. unwrap_or (value p.0 p.1) (pos 0)) (zip xs ys))
  pairs_succeed is = if_as_long-fits xs ys _ same ∙ succeeds number (λ p. value p.0 p.1) (pos 0) (zip xs ys) 0 is
