use Rattle.std.proofs.Common.{◌≡◌, ℕ, List, map, pos}
use Rattle.part_cuts.proofs.FirstStarts.{Walked}
use Rattle.part_cuts.proofs.starts.starts_before.Given as goal

abbrev pub invariant-loop-k : goal.invariant-loop-k
invariant-loop-k l = (ns : List ℕ) → l.lengths ≡ map pos ns → Walked l.place l.fn.start ns l.k l.next
