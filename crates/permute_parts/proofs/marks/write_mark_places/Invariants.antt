use Rattle.std.proofs.Common.{◌≡◌, ℕ, ◌<◌, get_or}
use Rattle.permute_parts.specs.Marks.{mark_place}
use Rattle.permute_parts.proofs.marks.write_mark_places.Given as goal

abbrev pub invariant-loop-k : goal.invariant-loop-k
invariant-loop-k l = (i : ℕ) → i < l.k → get_or l.places i 0 ≡ mark_place i (get_or l.from i 0)
