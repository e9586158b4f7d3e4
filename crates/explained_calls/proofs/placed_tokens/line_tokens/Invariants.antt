use Rattle.std.proofs.Common.{◌≡◌, ◌-◌, ◌≤◌, ◌++◌, drop, length}
use Rattle.line_reader.specs.Lines.{line_class}
use Rattle.explained_calls.specs.PlacedTokens.{placed_by}
use Rattle.explained_calls.proofs.placed_tokens.line_tokens.Given as goal

abbrev pub invariant-loop-token : goal.invariant-loop-token
invariant-loop-token g l =
    (l.place ≤ length l.line) × (l.tokens.items ++ placed_by line_class l.place (drop l.place l.line) ≡ placed_by line_class 0 l.line)

abbrev pub decreases-loop-token : goal.decreases-loop-token
decreases-loop-token g l = length l.line - l.place
