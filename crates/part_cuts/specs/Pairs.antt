-- Places of parts in a vector, from their places in two others.
-- Source: Blelloch, Vector Models for Data-Parallel Computing, 1990: of the elements before a place, those that do not go to one side of a
-- split go to the other.
use Rattle.std.specs.Prelude.{ℕ, ◌+◌, ◌-◌, ◌^◌, ◌==◌, ◌&&◌, Bool, false, nat_lt, not, List, [], ◌∷◌, map, Result, Ok}
use Rattle.std.specs.List.{list_all, zip}
use Rattle.cvl_base.specs.declared.fault.Fault.{Fault}
use Rattle.cvl_base.specs.declared.fault.FaultNo.TheVariants as no
use Rattle.cvl_base.specs.Elementwise.{if_as_long}
use Rattle.cvl_base.specs.Faults.{fault}
use Rattle.cvl_base.specs.Gives.{fault_if}

-- whether the last of these places is where a vector of so many elements ends
abbrev pub ends_at : ℕ → List ℕ → Bool
ends_at len [] = false
ends_at len (place ∷ []) = place == len
ends_at len (place ∷ next ∷ places) = ends_at len (next ∷ places)

module _ (has_place : ℕ → ℕ → Bool) (place : ℕ → ℕ → ℕ) where
  -- the place of each pair
  abbrev pub places_of_pairs : List ℕ → List ℕ → List ℕ
  places_of_pairs xs ys = map (λ p. place p.0 p.1) (zip xs ys)

  -- whether each pair has a place, and the last one is where a vector of so many elements ends
  abbrev pub are_places : List ℕ → List ℕ → ℕ → Bool
  are_places xs ys len = list_all (λ p. has_place p.0 p.1) (zip xs ys) && ends_at len (places_of_pairs xs ys)

  -- these places, or LengthMismatch
  abbrev pub paired_places_of : List ℕ → List ℕ → ℕ → Result (List ℕ) Fault
  paired_places_of xs ys len =
      if_as_long xs ys (fault_if (not (are_places xs ys len)) (fault no.LengthMismatch) (Ok (places_of_pairs xs ys)))

-- where parts go on in a vector that has the elements that another did not take: as many before each part as stand there but were not taken
abbrev pub remaining_places_of : List ℕ → List ℕ → ℕ → Result (List ℕ) Fault
remaining_places_of from taken len = paired_places_of (λ place count. not (nat_lt place count)) ◌-◌ from taken len

-- where parts go on in a vector that has the elements of two: as many before each part as before it in both. A place has 64 bits.
abbrev pub added_places_of : List ℕ → List ℕ → ℕ → Result (List ℕ) Fault
added_places_of starts others len = paired_places_of (λ place other. nat_lt (place + other) (2 ^ 64)) ◌+◌ starts others len
