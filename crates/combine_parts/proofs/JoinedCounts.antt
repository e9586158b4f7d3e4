-- The fault of counts whose rooms do not lie in the memory.
use Rattle.std.proofs.Common.{◌≡◌, ◌∙◌, ℕ, ℤ, pos, false, not, List, length, replicate, ap, Ok, Err}
use Rattle.std.proofs.lemmas.List.{length-replicate}
use Rattle.cvl_base.specs.declared.fault.FaultNo.TheVariants.{LengthMismatch}
use Rattle.cvl_base.specs.Faults.{fault}
use Rattle.cvl_base.specs.Gives.{fault_if}
use Rattle.cvl_base.specs.Integers.{sum_of}
use Rattle.combine_parts.specs.RoomJoins.{joined_counts_of, lie_within, shares_of, starts_of, with_rooms}

pub counts_outside : (from : ℕ) (boundaries : List ℕ) (memory : List ℤ) (n : ℕ) → lie_within (length memory) from n (starts_of boundaries) ≡ false
    → joined_counts_of from boundaries memory n ≡ Err (fault LengthMismatch)
counts_outside from boundaries memory n outside =
    let starts = starts_of boundaries in
    let zeros = replicate n (pos 0) in
    ap (λ m. fault_if (not (lie_within (length memory) from m starts)) (fault LengthMismatch) (Ok (with_rooms sum_of zeros (shares_of from m memory starts)))) (length-replicate n (pos 0))
    ∙ ap (λ b. fault_if (not b) (fault LengthMismatch) (Ok (with_rooms sum_of zeros (shares_of from n memory starts)))) outside
