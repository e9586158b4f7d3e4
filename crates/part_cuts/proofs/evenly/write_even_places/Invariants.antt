use Rattle.std.proofs.Common.{◌≡◌, ◌<◌, ℕ, get_or}
use Rattle.part_cuts.specs.Evenly.{even_place}
use Rattle.part_cuts.proofs.evenly.write_even_places.Given as goal

abbrev pub invariant-loop-k : goal.invariant-loop-k
invariant-loop-k l = (j : ℕ) → j < l.k → get_or l.places j 0 ≡ even_place l.len l.parts j
