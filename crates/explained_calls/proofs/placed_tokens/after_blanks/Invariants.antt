use Rattle.std.proofs.Common.{◌≡◌, drop}
use Rattle.explained_calls.specs.PlacedTokens.{placed_by}
use Rattle.explained_calls.proofs.placed_tokens.after_blanks.Given as goal

abbrev pub invariant-loop-place : goal.invariant-loop-place
invariant-loop-place g l = placed_by g.C.Classes.class_of l.initial.from (drop l.initial.from l.bytes) ≡ placed_by g.C.Classes.class_of l.place (drop l.place l.bytes)
