-- Vectors that must be equally long.
use Rattle.std.proofs.Common.{◌≡◌, ◌≢◌, not, List, length, ap, eq-eqb, Result, Err}
use Rattle.std.proofs.lemmas.Bool.{ne_eqb}
use Rattle.cvl_base.specs.declared.fault.Fault.{Fault}
use Rattle.cvl_base.specs.declared.fault.FaultNo.TheVariants.{LengthMismatch}
use Rattle.cvl_base.specs.Elementwise.{if_as_long}
use Rattle.cvl_base.specs.Faults.{fault}
use Rattle.cvl_base.specs.Gives.{fault_if}

module _ {X Y Z : Type 0} (xs : List X) (ys : List Y) (rest : Result Z Fault) where
  pub if_as_long-fits : length xs ≡ length ys → if_as_long xs ys rest ≡ rest
  if_as_long-fits fits = ap (λ b. fault_if (not b) (fault LengthMismatch) rest) (eq-eqb (length xs) (length ys) fits)

  pub if_as_long-misfits : length xs ≢ length ys → if_as_long xs ys rest ≡ Err (fault LengthMismatch)
  if_as_long-misfits misfits = ap (λ b. fault_if (not b) (fault LengthMismatch) rest) (ne_eqb (length xs) (length ys) misfits)
