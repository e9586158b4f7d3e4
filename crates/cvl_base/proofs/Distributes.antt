-- Counts that are lengths.
use Rattle.std.proofs.Common.{◌≡◌, ℕ, ◌≤◌, pos, ap, Ok}
use Rattle.std.proofs.lemmas.Bool.{le-ltb}
use Rattle.cvl_base.specs.declared.fault.FaultNo.TheVariants as no
use Rattle.cvl_base.specs.Distributes.{as_length, length_within}
use Rattle.cvl_base.specs.Faults.{fault}
use Rattle.cvl_base.specs.Gives.{fault_if}
use Rattle.cvl_base.specs.Limits.{most_elements}

pub length_within-fits : (most n : ℕ) → n ≤ most → length_within most (pos n) ≡ Ok n
length_within-fits most n fits = ap (λ b. fault_if b (fault no.TooLong) (Ok n)) (le-ltb most n fits)

pub as_length-fits : (n : ℕ) → n ≤ most_elements → as_length (pos n) ≡ Ok n
as_length-fits = length_within-fits most_elements
