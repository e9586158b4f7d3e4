use Rattle.std.proofs.Common.{◌≡◌, ◌+◌, ◌≤◌, List, [], ◌∷◌, ◌++◌, length}
use Rattle.value_texts.specs.Parts.{AreCutInTurn, AreParts}
use Rattle.value_texts.proofs.part_writes.parts_of.Given as goal

-- the parts with what is left are the whole, and cut in turn where what is left is
abbrev pub invariant-loop-left : goal.invariant-loop-left
invariant-loop-left g l = record {
  whole : AreParts g.P.Part.items g.P.Part.found (l.parts.items ++ l.rest ∷ []) l.fn.whole;
  cut : (more : List _) → length more ≡ l.left → AreCutInTurn g.P.Cut.IsCut l.rest more → AreCutInTurn g.P.Cut.IsCut l.fn.whole (l.parts.items ++ more);
  as_many : length l.parts.items + l.left ≡ l.fn.threads;
  some : 1 ≤ l.left;
}

abbrev pub decreases-loop-left : goal.decreases-loop-left
decreases-loop-left g l = l.left
