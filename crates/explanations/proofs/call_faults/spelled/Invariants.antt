use Rattle.std.proofs.Common.{◌≡◌, map, take}
use Rattle.explanations.specs.ArgumentLines.{spelled}
use Rattle.explanations.proofs.call_faults.spelled.Given as goal

abbrev pub invariant-loop-place : goal.invariant-loop-place
invariant-loop-place g l = l.arguments.items ≡ map (spelled l.session.names) (take l.place l.args)
