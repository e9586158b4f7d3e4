-- The arguments of segments, where they are equally many and where not, and calls without a fault.
use Rattle.std.proofs.Common.{◌≡◌, ◌≢◌, ℕ, ◌+◌, List, [], ◌∷◌, length, map, refl, ap, Ok, Err}
use Rattle.std.specs.List.{zip}
use Rattle.cvl_base.specs.declared.fault.FaultNo.TheVariants as no
use Rattle.cvl_base.specs.Faults.{fault}
use Rattle.cvl_base.specs.Gives.{◌>>=◌}
use Rattle.cvl_base.specs.Segmented.{beside, results_from}
use Rattle.cvl_base.proofs.Elementwise.{if_as_long-fits, if_as_long-misfits}

module _ {A B : Type 0} (xs : List A) (ys : List B) where
  pub beside-fits : length xs ≡ length ys → beside (Ok xs) (Ok ys) ≡ Ok (zip xs ys)
  beside-fits fits = if_as_long-fits xs ys (Ok (zip xs ys)) fits

  pub beside-misfits : length xs ≢ length ys → beside (Ok xs) (Ok ys) ≡ Err (fault no.LengthMismatch)
  beside-misfits misfits = if_as_long-misfits xs ys (Ok (zip xs ys)) misfits

-- a flat call without a fault
pub results-ok : {S R : Type 0} (place : ℕ → ℕ → ℕ) (f : S → R) (s : ℕ) (segments : List S) → results_from place (λ x. Ok (f x)) s segments ≡ Ok (map f segments)
results-ok place f s [] = refl
results-ok place f s (x ∷ xs) = ap (λ rest. rest >>= λ rs. Ok (f x ∷ rs)) (results-ok place f (s + 1) xs)
