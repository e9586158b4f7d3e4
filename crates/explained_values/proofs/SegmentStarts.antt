-- Where segments start.
use Rattle.std.proofs.Common.{◌≡◌, ℕ, ◌≤◌, ℤ, List, length, take, map, ap, sum, take_all, arith}
use Rattle.std.specs.Prelude.{unsigned_abs}
use Rattle.std.proofs.lemmas.List.{length-map, take-map}
use Rattle.explained_values.specs.Segments.{start_of}

-- a sum of the first lengths
pub starts : (lengths : List ℤ) (segment : ℕ) → start_of (map unsigned_abs lengths) segment ≡ sum (map unsigned_abs (take segment lengths))
starts lengths segment = ap sum (take-map unsigned_abs segment lengths)

-- the start behind the last segment is the total
pub ends : (lengths : List ℤ) (segment : ℕ) → length lengths ≤ segment → start_of (map unsigned_abs lengths) segment ≡ sum (map unsigned_abs lengths)
ends lengths segment beyond = ap sum (take_all segment (map unsigned_abs lengths) (omega (arith, length-map lengths unsigned_abs)))
