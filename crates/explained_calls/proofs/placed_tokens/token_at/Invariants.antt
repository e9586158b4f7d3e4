use Rattle.std.proofs.Common.{◌≡◌, ◌-◌, ◌≤◌, drop, length, slice_get}
use Rattle.explained_calls.specs.PlacedTokens.{placed_by}
use Rattle.explained_calls.proofs.placed_tokens.token_at.Given as goal

abbrev pub invariant-loop-token : goal.invariant-loop-token
invariant-loop-token g l =
    (l.place ≤ length l.bytes)
    × (slice_get (placed_by g.C.Classes.class_of 0 l.bytes) l.number ≡ slice_get (placed_by g.C.Classes.class_of l.place (drop l.place l.bytes)) l.left)

abbrev pub decreases-loop-token : goal.decreases-loop-token
decreases-loop-token g l = length l.bytes - l.place
