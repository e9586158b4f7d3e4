-- Nests: a flat list, cut by the lengths of a descriptor into a list of lists.
-- Source: CVL's segmented vectors, a value vector beside its segment descriptor.
use Rattle.std.specs.Prelude.{◌≡◌, ℕ, ◌==◌, not, Result, Ok, List, [], ◌∷◌, length, map, sum, take, drop}
use Rattle.operators.specs.Lists.{joined}
use Rattle.cvl_base.specs.declared.fault.Fault.{Fault}
use Rattle.cvl_base.specs.declared.fault.FaultNo.TheVariants as no
use Rattle.cvl_base.specs.Faults.{fault}
use Rattle.cvl_base.specs.Gives.{fault_if}

-- the first n elements, and then the rest by the other lengths
abbrev pub cut_of : {X : Type 0} → List ℕ → List X → List (List X)
cut_of [] xs = []
cut_of (n ∷ lengths) xs = take n xs ∷ cut_of lengths (drop n xs)

-- the inner lists, or the fault if the lengths don't add up to the list's
abbrev pub nest : {X : Type 0} → List ℕ → List X → Result (List (List X)) Fault
nest lengths xs = fault_if (not (sum lengths == length xs)) (fault no.LengthMismatch) (Ok (cut_of lengths xs))

-- what it means to be a nest: the inner lists have these lengths, and in order they are the list
pub record IsNest {X : Type 0} (lengths : List ℕ) (xs : List X) (lists : List (List X)) : Type 0 where
  pub has_lengths : map length lists ≡ lengths
  pub has_elements : joined lists ≡ xs
