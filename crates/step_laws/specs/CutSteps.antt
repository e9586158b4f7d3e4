-- The vectors of a call in parts, cut where the parts stand in them.
-- Source: Blelloch, Prefix Sums and Their Applications, 1990: processors sum up their parts, and scan the sums.
use Rattle.std.specs.Prelude.{◌≡◌, ℕ, List, length, map}
use Rattle.cvl_base.specs.Lists.{joined}
use Rattle.part_cuts.specs.Places.{places_of}
use Rattle.step_laws.specs.PackSteps.{ranges_of}

-- These places, of which each part has one and the last is behind all parts, cut a vector into ranges of these lengths: a part begins where
-- the lengths before it end, and the ranges from each place up to the next are together the vector.
pub record IsCutBy {X : Type 0} (places lengths : List ℕ) (xs : List X) : Type 0 where
  pub begin : places ≡ places_of lengths
  pub together : joined (ranges_of places xs) ≡ xs
  pub long : map length (ranges_of places xs) ≡ lengths
