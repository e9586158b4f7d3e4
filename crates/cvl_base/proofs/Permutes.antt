-- The destinations of a permute: as many as there are indices.
use Rattle.std.proofs.Common.{◌≡◌, Bool, List, length, arith, ℤ, Some}
use Rattle.std.specs.List.{zip}
use Rattle.std.proofs.lemmas.List.{length-map}
use Rattle.std.proofs.lemmas.Slice.Zip.{length-zip}
use Rattle.cvl_base.specs.Permutes.{all_destinations, flagged_destinations, destination_if}

pub length-all_destinations : (index : List ℤ) → length (all_destinations index) ≡ length index
length-all_destinations index = length-map index (λ (i : ℤ). Some i)

pub length-flagged_destinations : (index : List ℤ) (flags : List Bool) → length index ≡ length flags → length (flagged_destinations index flags) ≡ length index
length-flagged_destinations index flags long = omega (arith, length-map (zip index flags) (λ (p : ℤ × Bool). destination_if p.0 p.1), length-zip index flags)
