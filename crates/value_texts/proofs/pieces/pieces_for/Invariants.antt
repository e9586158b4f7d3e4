use Rattle.std.proofs.Common.{◌-◌, ◌≤◌, length}
use Rattle.value_texts.proofs.pieces.pieces_for.Given as goal

-- no more than are asked for
abbrev pub invariant-loop-alloc : goal.invariant-loop-alloc
invariant-loop-alloc g l = length l.pieces.items ≤ l.writers

abbrev pub decreases-loop-alloc : goal.decreases-loop-alloc
decreases-loop-alloc g l = l.writers - length l.pieces.items
